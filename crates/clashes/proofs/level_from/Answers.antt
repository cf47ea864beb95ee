-- `clashes::level_from` meets its contract: none, or by its level.
use Rattle.std.proofs.Common.{rules}
use Rattle.clashes.proofs.Reaching.{level_told}
use Rattle.clashes.proofs.level_from.Goals as goal

pub returns : goal.returns
returns c = level_told _ _ _ c.is_some_and.ensures (λ a k. search rules)
