-- `index::apply` meets its contract.
use mathlib.Core.Path.{refl}
use Rattle.index.proofs.Batched.{single_save, single_delete, single_neither}
use Rattle.index.proofs.apply.Goals as goal

pub returns-then-what-eq0 : goal.returns-then-what-eq0
returns-then-what-eq0 c = let (s, v, h) = c.save_kept.ensures.saves in (single_save c.args.img.now _ _ _ _ _ c.requires.0 c.if-what-eq0.true s, v, h)

pub returns-then-what-eq1 : goal.returns-then-what-eq1
returns-then-what-eq1 c = let (s, v, h) = c.delete_kept.ensures.deletes in (single_delete c.args.img.now _ _ c.args.r _ _ c.requires.0 c.if-what-eq0.false c.if-what-eq1.true s, v, h)

pub returns-else-what-eq1 : goal.returns-else-what-eq1
returns-else-what-eq1 c = (single_neither c.args.img.now _ _ c.args.r _ _ c.if-what-eq0.false c.if-what-eq1.false refl refl, c.requires.0, c.requires.1)
