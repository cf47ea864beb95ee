-- `index::save` meets its contract.
use mathlib.Core.Path.{sym}
use Rattle.words.proofs.Tests.{T_of}
use Rattle.index.proofs.Changed.{save_tested}
use Rattle.index.proofs.save.Goals as goal

pub returns : goal.returns
returns c = save_tested c.args.img.now _ _ _ _ (T_of (sym c.in-Some.ensures.decides)) c.save.ensures
