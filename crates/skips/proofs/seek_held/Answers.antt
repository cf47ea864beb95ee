-- `skips::seek_held` meets its contract, by the choice.
use Rattle.skips.proofs.Ways.{sought, sought_self}
use Rattle.skips.proofs.seek_held.Goals as goal

pub returns-in-Strict : goal.returns-in-Strict
returns-in-Strict c = sought _ _ _ _ c.in-Strict.is c.seek.ensures

pub returns-in-WithSelf : goal.returns-in-WithSelf
returns-in-WithSelf c = sought_self _ _ _ _ c.in-WithSelf.is c.seek_from.ensures
