-- `pagewords::put_key` meets its contract: words one behind the other.
use native.Mathlib.Numerals.{towards_suc}
use Rattle.pagewords.proofs.put_key.Goals as goal

pub returns : goal.returns
returns c = simp towards_suc
