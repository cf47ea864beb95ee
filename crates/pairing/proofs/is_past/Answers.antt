-- `pairing::is_past` meets its contract: each way out is a case of the definition.
use Rattle.pairing.proofs.Pairs.{past_fresh, past_later, past_earlier, past_same}
use Rattle.pairing.proofs.is_past.Goals as goal

pub returns-in_default : goal.returns-in_default
returns-in_default c = past_fresh _ _ _ c.in_default.is

pub returns-then-y-d : goal.returns-then-y-d
returns-then-y-d c = past_later _ _ _ _ _ c.in-Last.is c.if-y-d.true

pub returns-then-d-y : goal.returns-then-d-y
returns-then-d-y c = past_earlier _ _ _ _ _ c.in-Last.is c.if-d-y.true

pub returns : goal.returns
returns c = past_same _ _ _ _ _ c.in-Last.is c.if-y-d.false c.if-d-y.false
