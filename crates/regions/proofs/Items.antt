-- Items in words: where each one stands, and how many there are; the two refusals of a whole batch.
-- Assumes nothing.
use Prim.Native.Nat.{ℕ, zero, suc, ◌+◌, ◌*◌, ◌/◌, ◌%◌, ◌<◌}
use mathlib.Core.Path.{◌≡◌, refl, sym, ap, ap₂, ◌∙◌}
use mathlib.Core.List.{List, [], ◌∷◌, ◌++◌}
use lib.ListN.{length, get_or, drop}
use lib.Seq.{get_or-drop, drop-drop}
use native.Mathlib.Omega.{arith}
use Rattle.words.specs.Lists.{first_no}
use Rattle.words.proofs.Tests.{eq_yes, eq_no, lt_yes}
use Rattle.regions.specs.Limits.{item_width}
use Rattle.regions.specs.Items.{item, item_region, item_of, first_items, batch_no}
use Rattle.regions.specs.declared.Region.{Region}

-- item n comes behind the first n, and stands behind as many times its width
pub items_next : (n : ℕ) (ws : List ℕ) → first_items (suc n) ws ≡ first_items n ws ++ item_of (drop (item_width * n) ws) ∷ []
unfolding first_items
items_next zero ws = refl
items_next (suc n) ws =
    ap (item_of ws ∷◌)
    (items_next n (drop item_width ws)
    ∙ ap (λ l. first_items n (drop item_width ws) ++ item_of l ∷ []) (drop-drop (item_width * n) item_width ws ∙ ap (λ k. drop k ws) (sym (one_more n))))
  where
    one_more : (n : ℕ) → item_width * suc n ≡ item_width + item_width * n
    one_more n = omega arith

pub items_many : (n : ℕ) (ws : List ℕ) → length (first_items n ws) ≡ n
unfolding first_items
items_many zero ws = refl
items_many (suc n) ws = ap suc (items_many n (drop item_width ws))

-- an item by its words, wherever it stands
word_at : (ws : List ℕ) (at i : ℕ) → get_or ws (at + i) 0 ≡ get_or (drop at ws) i 0
word_at ws at i = sym (get_or-drop at ws i 0)

pub region_at_lem : (ws : List ℕ) (at : ℕ) → record { start = get_or ws (at + 2) 0; end = get_or ws (at + 3) 0; level = get_or ws (at + 4) 0; reference = get_or ws (at + 5) 0 } ≡ item_region (drop at ws)
unfolding item_region
region_at_lem ws at i = record { start = word_at ws at 2 i; end = word_at ws at 3 i; level = word_at ws at 4 i; reference = word_at ws at 5 i }

pub item_at : (ws : List ℕ) (at : ℕ) (r : Region) → r ≡ item_region (drop at ws) → item (get_or ws at 0) (get_or ws (at + 1) 0) r ≡ item_of (drop at ws)
unfolding item_of
item_at ws at r e =
    let z : at ≡ at + 0 = omega arith in
    ap₂ (λ k a. item k a r) (ap (λ i. get_or ws i 0) z ∙ word_at ws at 0) (word_at ws at 1) ∙ ap (item (get_or (drop at ws) 0 0) (get_or (drop at ws) 1 0)) e

-- the two refusals of a batch
pub batch_form : (words places : ℕ) → (words % item_width ≡ 0 → ⊥) → 12 ≡ batch_no words places
unfolding batch_no first_no
batch_form words places h = rw (eq_no (words % item_width) 0 h)

pub batch_room : (words places : ℕ) → words % item_width ≡ 0 → places < words / item_width → 13 ≡ batch_no words places
unfolding batch_no first_no
batch_room words places e h = rw (eq_yes (words % item_width) 0 e, lt_yes places (words / item_width) h)
