-- Entries, spare words, keys and children as items of six, four and one words; the tree's children out of the lists of a page.
-- Assumes nothing.
use Prim.Native.Nat.{ℕ, zero, suc, ◌+◌, ◌<◌}
use mathlib.Core.Path.{◌≡◌, refl, ap, ◌∙◌}
use mathlib.Core.List.{List, ◌∷◌}
use lib.ListN.{length, get_or}
use native.Mathlib.Omega.{arith}
use Rattle.xrtree.specs.Tree.{Entry}
use Rattle.pages.specs.Layout.{entry_word, key_word, child_word, child_in}
use Rattle.pages.specs.declared.KeyWords.{KeyWords}
use Rattle.image.specs.Read.{entry_at, entries_from}
use Rattle.image.specs.Decode.{key_words_at, keys_from, children_from}
use Rattle.newpages.specs.Pages.{spare_in, spares_from}
use Rattle.newpages.proofs.Runs.{Seg}
use Rattle.newpages.proofs.Items.{up_from, up_long, up_at}

-- THE READERS look at an item's own words
pub first_word : {u v : List ℕ} {s t m : ℕ} → Seg u s v t m → 0 < m → get_or u s 0 ≡ get_or v t 0
first_word {u} {v} {s} {t} g h =
    let e : s + 0 ≡ s = omega arith in
    let f : t + 0 ≡ t = omega arith in
    rw (e, f) at (g.same 0 h)

pub entry_reads : (u v : List ℕ) (i j : ℕ) → Seg u (entry_word i) v (entry_word j) 6 → entry_at u i ≡ entry_at v j
entry_reads u v i j g =
    λ x. record {
      region =
          record {
            start = first_word g (omega arith) x;
            end = g.same 1 (omega arith) x;
            level = g.same 2 (omega arith) x;
            reference = g.same 3 (omega arith) x;
          };
      flag = g.same 4 (omega arith) x;
    }

pub spare_reads : (u v : List ℕ) (i j : ℕ) → Seg u (entry_word i) v (entry_word j) 6 → spare_in u i ≡ spare_in v j
spare_reads u v i j g = g.same 5 (omega arith)

pub key_reads : (u v : List ℕ) (i j : ℕ) → Seg u (key_word i) v (key_word j) 4 → key_words_at u i ≡ key_words_at v j
key_reads u v i j g =
    λ x. record { key = first_word g (omega arith) x; start = g.same 1 (omega arith) x; end = g.same 2 (omega arith) x; head = g.same 3 (omega arith) x }

pub child_reads : (u v : List ℕ) (i j : ℕ) → Seg u (child_word i) v (child_word j) 1 → child_in u i ≡ child_in v j
child_reads u v i j g = first_word g (omega arith)

pub entry_step : (i : ℕ) → entry_word (suc i) ≡ entry_word i + 6
entry_step i = omega arith

pub key_step : (i : ℕ) → key_word (suc i) ≡ key_word i + 4
key_step i = omega arith

pub child_step : (i : ℕ) → child_word (suc i) ≡ child_word i + 1
child_step i = omega arith

-- THE LISTS are those of the items
pub entries_up : (ws : List ℕ) (i m : ℕ) → entries_from ws i m ≡ up_from (entry_at ws) i m
unfolding entries_from up_from
entries_up ws i zero = refl
entries_up ws i (suc m) = ap (λ l. entry_at ws i ∷ l) (entries_up ws (suc i) m)

pub spares_up : (ws : List ℕ) (i m : ℕ) → spares_from ws i m ≡ up_from (spare_in ws) i m
unfolding spares_from up_from
spares_up ws i zero = refl
spares_up ws i (suc m) = ap (λ l. spare_in ws i ∷ l) (spares_up ws (suc i) m)

pub keys_up : (ws : List ℕ) (i m : ℕ) → keys_from ws i m ≡ up_from (key_words_at ws) i m
unfolding keys_from up_from
keys_up ws i zero = refl
keys_up ws i (suc m) = ap (λ l. key_words_at ws i ∷ l) (keys_up ws (suc i) m)

pub children_up : (ws : List ℕ) (i m : ℕ) → children_from ws i m ≡ up_from (child_in ws) i m
unfolding children_from up_from
children_up ws i zero = refl
children_up ws i (suc m) = ap (λ l. child_in ws i ∷ l) (children_up ws (suc i) m)

-- how long they are, and what stands in them
pub keys_long : (ws : List ℕ) (i m : ℕ) → length (keys_from ws i m) ≡ m
keys_long ws i m = ap length (keys_up ws i m) ∙ up_long (key_words_at ws) i m

pub entry_in : (ws : List ℕ) (i m j : ℕ) (d : Entry) → j < m → get_or (entries_from ws i m) j d ≡ entry_at ws (i + j)
entry_in ws i m j d h = ap (λ l. get_or l j d) (entries_up ws i m) ∙ up_at (entry_at ws) i m j d h

pub key_in_lem : (ws : List ℕ) (i m j : ℕ) (d : KeyWords) → j < m → get_or (keys_from ws i m) j d ≡ key_words_at ws (i + j)
key_in_lem ws i m j d h = ap (λ l. get_or l j d) (keys_up ws i m) ∙ up_at (key_words_at ws) i m j d h

pub child_in_lem : (ws : List ℕ) (i m j : ℕ) → j < m → get_or (children_from ws i m) j 0 ≡ child_in ws (i + j)
child_in_lem ws i m j h = ap (λ l. get_or l j 0) (children_up ws i m) ∙ up_at (child_in ws) i m j 0 h
