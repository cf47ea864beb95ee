-- Fills on the way down, as the readers of pages ask for them.
-- Assumes nothing.
use Rattle.std.specs.Prelude.{ℕ, zero, suc, ◌≤◌, List}
use Rattle.pages.specs.Layout.{page_of, fill_of, child_in}

-- below place p no page says it holds more than 8, and each at least the given number, 4 further down
abbrev pub FillsFrom : ℕ → ℕ → List ℕ → ℕ → Type 0
FillsFrom least zero w p = (least ≤ fill_of (page_of w p)) × (fill_of (page_of w p) ≤ 8)
FillsFrom least (suc h) w p =
    (least ≤ fill_of (page_of w p)) × (fill_of (page_of w p) ≤ 8) × ((i : ℕ) → i ≤ fill_of (page_of w p) → FillsFrom 4 h w (child_in (page_of w p) i))

-- of a root: a leaf may be empty, an inner page has a key
abbrev pub root_least : ℕ → ℕ
root_least zero = 0
root_least (suc h) = 1

abbrev pub Fills : ℕ → List ℕ → ℕ → Type 0
Fills h w p = FillsFrom (root_least h) h w p
