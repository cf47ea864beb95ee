-- `clashes::innermost_at` meets its contract: none reaches 0; else of those that hold the position before x with self the last one met is the innermost.
use Rattle.clashes.proofs.Reaching.{reach_zero, reach_last}
use Rattle.clashes.proofs.innermost_at.Goals as goal

pub returns-in_err-before : goal.returns-in_err-before
returns-in_err-before c = reach_zero c.args.img.now _ _ c.in_err-before.ensures c.from_residual.ensures

pub returns : goal.returns
returns c = reach_last _ _ _ _ c.in_ok-before.ensures c.ancestors.ensures.last
