-- What is written within a page, word by word: it is the page stored with it.
-- Assumes nothing.
use Prim.Native.Nat.{ℕ, zero, suc, ◌+◌, ◌*◌, ◌<◌, ◌≤◌}
use mathlib.Core.Path.{◌≡◌, refl, sym, ap, ◌∙◌}
use mathlib.Core.List.{List, [], ◌∷◌}
use lib.ListN.{length, get_or, set, take, drop, length-take, length-drop}
use lib.Seq.{sets, set-get_or, drop-cons, get_or-take, get_or-drop, ext_get_or}
use native.Mathlib.Omega.{arith}
use Rattle.words.proofs.Written.{sets_within}
use Rattle.regions.specs.declared.Region.{Region}
use Rattle.pages.specs.Layout.{page_of, entry_word, key_word}
use Rattle.pages.specs.declared.KeyWords.{KeyWords}
use Rattle.pages.proofs.Placed.{page_word_at}
use Rattle.pagewords.specs.Words.{copied_in, entry_words, key_list}
use Rattle.store.specs.Store.{put_page, put_entry_at, put_key_at, set_fill}
use Rattle.store.proofs.Frames.{put_page_long, put_page_here}

-- a run written over itself
sets_own : (n : ℕ) (l : List ℕ) (i : ℕ) → i + n ≤ length l → sets l i (take n (drop i l)) ≡ l
sets_own zero l i h = refl
sets_own (suc n) l i h =
    rw (drop-cons l i 0 (omega arith)) (ap (λ (z : List ℕ). sets z (suc i) (take n (drop (suc i) l))) (set-get_or l i 0) ∙ sets_own n l (suc i) (omega arith))

-- A PAGE AS IT STANDS
module _ (w : List ℕ) (p : ℕ) (long : length w ≡ 12288) (high : p ≤ 160) where
  pub page_long : length (page_of w p) ≡ 57
  unfolding page_of
  page_long = simp (length-take, length-drop) (omega arith)

  pub page_own : put_page w p (page_of w p) ≡ w
  unfolding page_of put_page
  page_own = sets_own 57 w (57 * p) (omega arith)

-- a run of it
page_run : (w : List ℕ) (p a n : ℕ) → length w ≡ 12288 → p ≤ 160 → a + n ≤ 57 → take n (drop (57 * p + a) w) ≡ take n (drop a (page_of w p))
page_run w p a n l h f =
    ext_get_or 0 (take n (drop (57 * p + a) w)) (take n (drop a (page_of w p))) (simp (length-take, length-drop) (omega (arith, page_long w p l h)))
    (λ i u. word i (omega (arith, length-take n (drop (57 * p + a) w))))
  where
    word : (i : ℕ) → i < n → get_or (take n (drop (57 * p + a) w)) i 0 ≡ get_or (take n (drop a (page_of w p))) i 0
    word i u =
        let e : 57 * p + a + i ≡ 57 * p + (a + i) = omega arith in
        get_or-take n (drop (57 * p + a) w) i 0 u ∙ get_or-drop (57 * p + a) w i 0 ∙ ap (λ j. get_or w j 0) e ∙ sym (page_word_at w p (a + i) (omega arith))
        ∙ sym (get_or-take n (drop a (page_of w p)) i 0 u ∙ get_or-drop a (page_of w p) i 0)

-- WRITTEN WITHIN A PAGE that was stored
module _ (w : List ℕ) (p : ℕ) (ws : List ℕ) (fits : length ws ≡ 57) where
  pub entry_within : (i : ℕ) (r : Region) (flag : ℕ) → i < 9 → put_entry_at (put_page w p ws) p i r flag ≡ put_page w p (sets ws (entry_word i) (entry_words r flag))
  unfolding put_page put_entry_at
  entry_within i r flag h = sets_within (entry_words r flag) ws w (57 * p) (entry_word i) (omega arith)

  key_within : (i : ℕ) (k : KeyWords) → i < 9 → put_key_at (put_page w p ws) p i k ≡ put_page w p (sets ws (key_word i) (key_list k))
  unfolding put_page put_key_at
  key_within i k h = sets_within (key_list k) ws w (57 * p) (key_word i) (omega arith)

  pub fill_within : (n : ℕ) → set_fill (put_page w p ws) p n ≡ put_page w p (set ws 1 n)
  unfolding put_page set_fill
  fill_within n = sets_within (n ∷ []) ws w (57 * p) 1 (omega arith)

  pub move_within : length w ≡ 12288 → p ≤ 160 → (a n k : ℕ) → a + k + n ≤ 57
      → copied_in (put_page w p ws) (57 * p + (a + k)) (put_page w p ws) (57 * p + a) n ≡ put_page w p (copied_in ws (a + k) ws a n)
  unfolding copied_in put_page
  move_within l h a n k f =
      ap (sets (put_page w p ws) (57 * p + (a + k))) (run ∙ ap (λ z. take n (drop a z)) (put_page_here w p ws fits l h))
      ∙ sets_within (take n (drop a ws)) ws w (57 * p) (a + k) (omega (arith, length-take n (drop a ws)))
    where
      run : take n (drop (57 * p + a) (put_page w p ws)) ≡ take n (drop a (page_of (put_page w p ws) p))
      run = page_run (put_page w p ws) p a n (put_page_long w p ws fits ∙ l) h (omega arith)

-- a key's words in a page as it stands
pub key_own : (w : List ℕ) (p : ℕ) → length w ≡ 12288 → p ≤ 160 → (i : ℕ) (k : KeyWords) → i < 9 → put_key_at w p i k ≡ put_page w p (sets (page_of w p) (key_word i) (key_list k))
key_own w p l h i k f = ap (λ v. put_key_at v p i k) (sym (page_own w p l h)) ∙ key_within w p (page_of w p) (page_long w p l h) i k f
