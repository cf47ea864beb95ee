-- `desk::place` meets its contract: by the two tests.
use mathlib.Core.Path.{sym, ◌∙◌}
use Rattle.desk.proofs.Answered.{place_unfit, place_none, place_there}
use Rattle.desk.proofs.place.Goals as goal

pub returns-then-not-desk_fits-clause-number : goal.returns-then-not-desk_fits-clause-number
returns-then-not-desk_fits-clause-number c = place_unfit _ _ (sym c.desk_fits.ensures ∙ c.if-not-desk_fits.true)

pub returns-then-i-gt-LAST_SEAT-clause-number : goal.returns-then-i-gt-LAST_SEAT-clause-number
returns-then-i-gt-LAST_SEAT-clause-number c = place_none _ _ (sym c.desk_fits.ensures ∙ c.if-not-desk_fits.false) c.if-i-gt-LAST_SEAT.true

pub returns-clause-number : goal.returns-clause-number
returns-clause-number c = place_there _ _ (sym c.desk_fits.ensures ∙ c.if-not-desk_fits.false) c.if-i-gt-LAST_SEAT.false
