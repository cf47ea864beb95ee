-- `index::delete` meets its contract.
use mathlib.Core.Path.{sym, ◌∙◌}
use Rattle.words.proofs.Tests.{T_of}
use Rattle.index.proofs.Changed.{delete_tested}
use Rattle.index.proofs.delete.Goals as goal

pub returns : goal.returns
returns c = delete_tested c.args.img.now _ _ _ _ (T_of (sym c.is_valid.ensures ∙ c.if-not-is_valid.false)) c.delete.ensures
