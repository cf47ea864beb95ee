use borrow.Author.Rules.{rules}
use native.Mathlib.Numerals.{add-one}
use native.Mathlib.Omega.{arith}
use mathlib.Core.Path.{◌≡◌}
use Rattle.printout.proofs.Texts.{words_long, put_none, put_more, put_long}
use Rattle.printout.proofs.put_pairs.Goals as goal

pub loop-i-init : goal.loop-i-init
loop-i-init c = put_none _ _

pub put_line-at-requires : goal.put_line-at-requires
put_line-at-requires c = let p = c.loop-i.invariant in let h = c.requires in let l = put_long _ _ _ _ _ p in let few = words_long c.loop-i.i c.args.words.now (search rules) in let e = p.ends in (search rules, search rules, omega arith)

pub loop-i-preserved : goal.loop-i-preserved
loop-i-preserved c = rw add-one (put_more _ _ _ _ _ _ _ _ c.loop-i.invariant c.pair_at.ensures c.put_line-at.ensures)

pub shape_of-out : goal.shape_of-out
shape_of-out c = put_long _ _ _ _ _ c.loop-i.invariant

pub returns : goal.returns
returns c = let p = c.loop-i.invariant in let e : c.loop-i.i ≡ c.args.n = omega arith in rw e at p
