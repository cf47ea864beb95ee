use borrow.Author.Rules.{rules}
use mathlib.Core.Path.{refl, sym}
use native.Mathlib.Omega.{arith}
use Rattle.words.specs.Lists.{sum}
use Rattle.words.proofs.Tests.{le_yes, le_no}
use Rattle.regions.proofs.Shares.{sum_more, sum_none}
use Rattle.regions.proofs.shares_fit.Goals as goal

pub loop-share-init : goal.loop-share-init
loop-share-init c = (omega arith, refl)

pub returns-then-room-share : goal.returns-then-room-share
returns-then-room-share c = sym (le_no (sum c.args.shares) 500 (omega (arith, sum_more c.args.shares c.loop-share.share-index (search rules))))

pub loop-share-preserved : goal.loop-share-preserved
loop-share-preserved c = let m = sum_more c.args.shares c.loop-share.share-index (search rules) in (omega arith, omega arith)

pub returns : goal.returns
returns c = sym (le_yes (sum c.args.shares) 500 (omega (arith, sum_none c.args.shares c.loop-share.share-index (search rules))))
