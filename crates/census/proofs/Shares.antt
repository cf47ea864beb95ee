-- The sixteen shares, word by word.
-- Assumes nothing.
use Prim.Native.Nat.{ℕ, ◌+◌, ◌<◌}
use mathlib.Core.Path.{◌≡◌, ◌∙◌}
use mathlib.Core.List.{List}
use lib.ListN.{drop, get_or}
use lib.Seq.{get_or-take, get_or-drop}
use Rattle.pages.specs.Layout.{shares_of}

pub share_at : (w : List ℕ) (a : ℕ) → a < 16 → get_or (shares_of w) a 0 ≡ get_or w (2 + a) 0
unfolding shares_of
share_at w a h = get_or-take 16 (drop 2 w) a 0 h ∙ get_or-drop 2 w a 0
