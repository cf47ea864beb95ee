-- `seats::desk_fits` meets its contract: by the length, and by what the chain answers of the eight.
use borrow.Author.Rules.{rules}
use borrow.Author.Tests.{eq-eqb, ne_eqb}
use Rattle.std.specs.Prelude.{IsTrue, ◌↔◌}
use Rattle.std.specs.List.{All}
use Rattle.regions.specs.Desk.{desk_fits, seat_fits}
use Rattle.seats.proofs.Fitting.{all_fit}
use Rattle.seats.proofs.desk_fits.Goals as goal

pub returns-then-desk-eq-SEAT_COUNT : goal.returns-then-desk-eq-SEAT_COUNT
unfolding desk_fits
returns-then-desk-eq-SEAT_COUNT c = let h : IsTrue c.all.result ↔ All (λ s. IsTrue (seat_fits s)) c.args.desk.now = search rules in rw (eq-eqb _ _ c.if-desk-eq-SEAT_COUNT.true) (all_fit c.all.result c.args.desk.now h)

pub returns-else-desk-eq-SEAT_COUNT : goal.returns-else-desk-eq-SEAT_COUNT
unfolding desk_fits
returns-else-desk-eq-SEAT_COUNT c = simp (ne_eqb _ _ c.if-desk-eq-SEAT_COUNT.false)
