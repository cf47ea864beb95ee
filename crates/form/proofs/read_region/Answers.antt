-- `form::read_region` meets its contract.
use native.Mathlib.Omega.{arith}
use Rattle.form.proofs.Lines.{region_line}
use Rattle.form.proofs.read_region.Goals as goal

pub read_line-requires : goal.read_line-requires
read_line-requires c = (omega arith, omega arith)

pub returns : goal.returns
returns c = region_line _ _ _ _ c.requires c.in_ok-l.ensures
