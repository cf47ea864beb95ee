-- `clashes::starts_past` meets its contract: none, or by its start.
use Rattle.std.proofs.Common.{rules}
use Rattle.clashes.proofs.Reaching.{starts_told}
use Rattle.clashes.proofs.starts_past.Goals as goal

pub returns : goal.returns
returns c = starts_told _ _ _ c.is_some_and.ensures (λ a k. search rules)
