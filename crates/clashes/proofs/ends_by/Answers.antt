-- `clashes::ends_by` meets its contract: none, or by its end.
use Rattle.std.proofs.Common.{rules}
use Rattle.clashes.proofs.Reaching.{ends_told}
use Rattle.clashes.proofs.ends_by.Goals as goal

pub returns : goal.returns
returns c = ends_told _ _ _ c.is_some_and.ensures (λ a k. search rules)
