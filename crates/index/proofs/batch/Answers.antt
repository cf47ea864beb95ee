-- `index::batch` meets its contract.
use mathlib.Core.Path.{sym}
use native.Mathlib.Omega.{arith}
use Rattle.index.proofs.Batched.{form_refused, room_refused, all_answered}
use Rattle.index.proofs.batch.Goals as goal

pub returns-then-items-ne0 : goal.returns-then-items-ne0
returns-then-items-ne0 c = form_refused c.args.img.now c.args.items.now c.args.places.now (sym c.in-Some.ensures.decides) c.if-items-ne0.true

pub returns-then-places-items : goal.returns-then-places-items
returns-then-places-items c = room_refused c.args.img.now c.args.items.now c.args.places.now (sym c.in-Some.ensures.decides) c.if-items-ne0.false (omega (arith, c.if-places-items.true))

pub returns : goal.returns
returns c = all_answered c.args.img.now c.args.items.now c.args.places.now (sym c.in-Some.ensures.decides) _ _ c.if-items-ne0.false (omega (arith, c.if-places-items.false)) c.apply_all.ensures
