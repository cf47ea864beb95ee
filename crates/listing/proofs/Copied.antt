-- Valid images are equally long.
-- Assumes nothing.
use Prim.Native.Nat.{ℕ}
use mathlib.Core.Path.{◌≡◌, sym, ◌∙◌}
use mathlib.Core.List.{List}
use lib.ListN.{length}
use lib.Dec.{T}
use Rattle.image.specs.Valid.{valid}
use Rattle.image.proofs.Facts.{valid_facts}

pub same_long : (w w' : List ℕ) → T (valid w) → T (valid w') → length w' ≡ length w
same_long w w' v v' = (valid_facts w' v').long ∙ sym (valid_facts w v).long
