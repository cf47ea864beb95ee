-- `desk::open_desk` meets its contract: by its one test, and by what filling leaves.
use mathlib.Core.Path.{sym, ap₂, ◌∙◌, subst}
use lib.ListN.{replicate}
use Rattle.desk.specs.Promises.{OpensDesk}
use Rattle.desk.proofs.Answered.{desk_opened, desk_unopened}
use Rattle.desk.proofs.open_desk.Goals as goal

pub returns-then-desk-ne-SEAT_COUNT : goal.returns-then-desk-ne-SEAT_COUNT
returns-then-desk-ne-SEAT_COUNT c = desk_unopened _ c.if-desk-ne-SEAT_COUNT.true

pub returns : goal.returns
returns c =
    let e = c.fill.ensures.after (λ y e. e) ∙ ap₂ replicate c.if-desk-ne-SEAT_COUNT.false c.closed_seat.ensures in
    subst (OpensDesk c.args.desk.now 0) (sym e) (desk_opened _ c.if-desk-ne-SEAT_COUNT.false)
