-- What each writer of an image leaves of pages, stab records and header, and what stands where it wrote.
-- Assumes nothing.
use Prim.Native.Nat.{ℕ, ◌+◌, ◌*◌, ◌<◌, ◌≤◌}
use mathlib.Core.Path.{◌≡◌, sym, ap, ◌∙◌, subst}
use mathlib.Core.Logic.{◌≢◌}
use mathlib.Core.Bool.{true, false, not}
use mathlib.Core.List.{List}
use lib.Dec.{eqb}
use lib.ListN.{length, get_or, set, take, drop, length-take, length-drop}
use lib.Seq.{sets, length-sets, get_or-set_same, get_or-set_other, get_or-take, get_or-drop, ext_get_or}
use native.Mathlib.Omega.{arith}
use native.Mathlib.Decide.{dec_lt}
use Rattle.words.proofs.Tests.{eq_yes, eq_no}
use Rattle.words.proofs.Written.{sets_in}
use Rattle.regions.specs.declared.Region.{Region}
use Rattle.pages.specs.Layout.{root_of, height_of, shares_of, page_of, record_of, mark_of, record_next, record_end, page_used, record_used}
use Rattle.pages.proofs.Placed.{page_word_at, record_word_at}
use Rattle.image.specs.Read.{record_region}
use Rattle.store.specs.Store.{put_page, free_page, record_words, put_record, set_next, free_record, set_root, set_height}
use Rattle.store.proofs.Kept.{Kept, kept_set, kept_sets, SameHead, page_before, page_behind, record_before, record_behind, shares_behind, head_before, record_used_same, region_same}

-- a range within one page leaves the other pages; one within a record the other records
page_apart : {w w' : List ℕ} {lo hi : ℕ} → Kept w w' lo hi → (p q : ℕ) → p ≢ q → 57 * p ≤ lo → hi ≤ 57 * p + 57 → page_of w' q ≡ page_of w q
page_apart k p q n l h = elim (dec_lt q p) [ yes u ↦ page_before k q (omega arith) | no u ↦ page_behind k q (omega arith) ]

record_apart : {w w' : List ℕ} {lo hi : ℕ} → Kept w w' lo hi → (p q : ℕ) → p ≢ q → 9177 + 6 * p ≤ lo → hi ≤ 9177 + 6 * p + 6 → record_of w' q ≡ record_of w q
record_apart k p q n l h = elim (dec_lt q p) [ yes u ↦ record_before k q (omega arith) | no u ↦ record_behind k q (omega arith) ]

-- A PAGE IS STORED
module _ (w : List ℕ) (p : ℕ) (ws : List ℕ) (fits : length ws ≡ 57) where
  put_page_kept : Kept w (put_page w p ws) (57 * p) (57 * p + 57)
  unfolding put_page
  put_page_kept = subst (λ n. Kept w (sets w (57 * p) ws) (57 * p) (57 * p + n)) fits (kept_sets w (57 * p) ws)

  pub put_page_long : length (put_page w p ws) ≡ length w
  put_page_long = put_page_kept.long

  pub put_page_here : length w ≡ 12288 → p ≤ 160 → page_of (put_page w p ws) p ≡ ws
  unfolding page_of put_page
  put_page_here l h =
      ext_get_or 0 (take 57 (drop (57 * p) (sets w (57 * p) ws))) ws (simp (length-take, length-drop, length-sets) (omega arith))
      (λ i u. word i (omega (arith, length-take 57 (drop (57 * p) (sets w (57 * p) ws)))))
    where
      word : (i : ℕ) → i < 57 → get_or (take 57 (drop (57 * p) (sets w (57 * p) ws))) i 0 ≡ get_or ws i 0
      word i u = get_or-take 57 (drop (57 * p) (sets w (57 * p) ws)) i 0 u ∙ get_or-drop (57 * p) (sets w (57 * p) ws) i 0 ∙ sets_in ws w (57 * p) i 0 (omega arith) (omega arith)

  pub put_page_other : (q : ℕ) → p ≢ q → page_of (put_page w p ws) q ≡ page_of w q
  put_page_other q n = page_apart put_page_kept p q n (omega arith) (omega arith)

  pub put_page_record : p ≤ 160 → (q : ℕ) → record_of (put_page w p ws) q ≡ record_of w q
  put_page_record h q = record_behind put_page_kept q (omega arith)

  pub put_page_head : 1 ≤ p → SameHead w (put_page w p ws)
  put_page_head h = head_before put_page_kept (omega arith)

  pub put_page_used : length w ≡ 12288 → p ≤ 160 → mark_of ws ≢ 0 → page_used (put_page w p ws) p ≡ true
  unfolding page_used
  put_page_used l h n = ap not (eq_no _ 0 (λ e. n (sym (ap mark_of (put_page_here l h)) ∙ e)))

  pub put_page_record_used : p ≤ 160 → (q : ℕ) → record_used (put_page w p ws) q ≡ record_used w q
  put_page_record_used h q = record_used_same w (put_page w p ws) q (put_page_record h q)

-- A PAGE IS GIVEN BACK
module _ (w : List ℕ) (p : ℕ) where
  free_page_kept : Kept w (free_page w p) (57 * p) (57 * p + 1)
  unfolding free_page
  free_page_kept = kept_set w (57 * p) 0

  pub free_page_long : length (free_page w p) ≡ length w
  free_page_long = free_page_kept.long

  pub free_page_mark : length w ≡ 12288 → p ≤ 160 → mark_of (page_of (free_page w p) p) ≡ 0
  unfolding free_page
  free_page_mark l h =
      let e : 57 * p + 0 ≡ 57 * p = omega arith in
      page_word_at (set w (57 * p) 0) p 0 (omega arith) ∙ rw e (get_or-set_same w (57 * p) 0 0 (omega arith))

  pub free_page_other : (q : ℕ) → p ≢ q → page_of (free_page w p) q ≡ page_of w q
  free_page_other q n = page_apart free_page_kept p q n (omega arith) (omega arith)

  pub free_page_record : p ≤ 160 → (q : ℕ) → record_of (free_page w p) q ≡ record_of w q
  free_page_record h q = record_behind free_page_kept q (omega arith)

  pub free_page_head : 1 ≤ p → SameHead w (free_page w p)
  free_page_head h = head_before free_page_kept (omega arith)

  pub free_page_used : length w ≡ 12288 → p ≤ 160 → page_used (free_page w p) p ≡ false
  unfolding page_used
  free_page_used l h = ap not (eq_yes _ 0 (free_page_mark l h))

-- WORDS OF RECORDS leave every page and the header
module _ {w w' : List ℕ} {lo hi : ℕ} (k : Kept w w' lo hi) (past : 9177 ≤ lo) where
  page_left : (p : ℕ) → p ≤ 160 → page_of w' p ≡ page_of w p
  page_left p h = page_before k p (omega arith)

  head_left : SameHead w w'
  head_left = head_before k (omega arith)

-- A RECORD IS WRITTEN
module _ (w : List ℕ) (q : ℕ) (r : Region) (next : ℕ) where
  put_record_kept : Kept w (put_record w q r next) (9177 + 6 * q) (9177 + 6 * q + 5)
  unfolding put_record
  put_record_kept = kept_sets w (9177 + 6 * q) (record_words r next)

  pub put_record_long : length (put_record w q r next) ≡ length w
  put_record_long = put_record_kept.long

  pub put_record_page : (p : ℕ) → p ≤ 160 → page_of (put_record w q r next) p ≡ page_of w p
  put_record_page p h = page_left put_record_kept (omega arith) p h

  pub put_record_head : SameHead w (put_record w q r next)
  put_record_head = head_left put_record_kept (omega arith)

  pub put_record_other : (p : ℕ) → q ≢ p → record_of (put_record w q r next) p ≡ record_of w p
  put_record_other p n = record_apart put_record_kept q p n (omega arith) (omega arith)

  pub put_record_used_other : (p : ℕ) → q ≢ p → record_used (put_record w q r next) p ≡ record_used w p
  put_record_used_other p n = record_used_same w (put_record w q r next) p (put_record_other p n)

  module _ (l : length w ≡ 12288) (h : q ≤ 500) where
    put_record_word : (i : ℕ) → i < 5 → get_or (record_of (put_record w q r next) q) i 0 ≡ get_or (record_words r next) i 0
    unfolding put_record
    put_record_word i u = record_word_at (sets w (9177 + 6 * q) (record_words r next)) q i (omega arith) ∙ sets_in (record_words r next) w (9177 + 6 * q) i 0 u (omega arith)

    pub put_record_region : record_region (put_record w q r next) q ≡ r
    unfolding record_region
    put_record_region =
        λ x. record {
          start = put_record_word 0 (omega arith) x;
          end = put_record_word 1 (omega arith) x;
          level = put_record_word 2 (omega arith) x;
          reference = put_record_word 3 (omega arith) x;
        }

    pub put_record_end : record_end (record_of (put_record w q r next) q) ≡ r.end
    put_record_end = put_record_word 1 (omega arith)

    pub put_record_next : record_next (record_of (put_record w q r next) q) ≡ next
    put_record_next = put_record_word 4 (omega arith)

    pub put_record_used : r.end ≢ 0 → record_used (put_record w q r next) q ≡ true
    unfolding record_used
    put_record_used n = ap not (eq_no _ 0 (λ e. n (sym put_record_end ∙ e)))

-- ANOTHER RECORD BEHIND IT
module _ (w : List ℕ) (q next : ℕ) where
  set_next_kept : Kept w (set_next w q next) (9177 + 6 * q + 4) (9177 + 6 * q + 4 + 1)
  unfolding set_next
  set_next_kept = kept_set w (9177 + 6 * q + 4) next

  pub set_next_long : length (set_next w q next) ≡ length w
  set_next_long = set_next_kept.long

  pub set_next_page : (p : ℕ) → p ≤ 160 → page_of (set_next w q next) p ≡ page_of w p
  set_next_page p h = page_left set_next_kept (omega arith) p h

  pub set_next_head : SameHead w (set_next w q next)
  set_next_head = head_left set_next_kept (omega arith)

  pub set_next_other : (p : ℕ) → q ≢ p → record_of (set_next w q next) p ≡ record_of w p
  set_next_other p n = record_apart set_next_kept q p n (omega arith) (omega arith)

  pub set_next_next : length w ≡ 12288 → q ≤ 500 → record_next (record_of (set_next w q next) q) ≡ next
  unfolding set_next
  set_next_next l h = record_word_at (set w (9177 + 6 * q + 4) next) q 4 (omega arith) ∙ get_or-set_same w (9177 + 6 * q + 4) next 0 (omega arith)

  set_next_word : (p i : ℕ) → i < 4 → get_or (set_next w q next) (9177 + 6 * p + i) 0 ≡ get_or w (9177 + 6 * p + i) 0
  unfolding set_next
  set_next_word p i h = get_or-set_other w (9177 + 6 * q + 4) (9177 + 6 * p + i) next 0 (λ e. omega arith)

  -- of any record
  pub set_next_region : (p : ℕ) → record_region (set_next w q next) p ≡ record_region w p
  set_next_region p = region_same w (set_next w q next) p (set_next_word p)

  pub set_next_end : (p : ℕ) → record_end (record_of (set_next w q next) p) ≡ record_end (record_of w p)
  set_next_end p = record_word_at (set_next w q next) p 1 (omega arith) ∙ set_next_word p 1 (omega arith) ∙ sym (record_word_at w p 1 (omega arith))

  pub set_next_used : (p : ℕ) → record_used (set_next w q next) p ≡ record_used w p
  unfolding record_used
  set_next_used p = ap (λ n. not (eqb n 0)) (set_next_end p)

-- A RECORD IS GIVEN BACK
module _ (w : List ℕ) (q : ℕ) where
  free_record_kept : Kept w (free_record w q) (9177 + 6 * q + 1) (9177 + 6 * q + 1 + 1)
  unfolding free_record
  free_record_kept = kept_set w (9177 + 6 * q + 1) 0

  pub free_record_long : length (free_record w q) ≡ length w
  free_record_long = free_record_kept.long

  pub free_record_page : (p : ℕ) → p ≤ 160 → page_of (free_record w q) p ≡ page_of w p
  free_record_page p h = page_left free_record_kept (omega arith) p h

  pub free_record_head : SameHead w (free_record w q)
  free_record_head = head_left free_record_kept (omega arith)

  pub free_record_other : (p : ℕ) → q ≢ p → record_of (free_record w q) p ≡ record_of w p
  free_record_other p n = record_apart free_record_kept q p n (omega arith) (omega arith)

  pub free_record_end : length w ≡ 12288 → q ≤ 500 → record_end (record_of (free_record w q) q) ≡ 0
  unfolding free_record
  free_record_end l h = record_word_at (set w (9177 + 6 * q + 1) 0) q 1 (omega arith) ∙ get_or-set_same w (9177 + 6 * q + 1) 0 0 (omega arith)

  -- of any record
  pub free_record_next : (p : ℕ) → record_next (record_of (free_record w q) p) ≡ record_next (record_of w p)
  unfolding free_record
  free_record_next p =
      record_word_at (set w (9177 + 6 * q + 1) 0) p 4 (omega arith) ∙ get_or-set_other w (9177 + 6 * q + 1) (9177 + 6 * p + 4) 0 0 (λ e. omega arith)
      ∙ sym (record_word_at w p 4 (omega arith))

  pub free_record_used : length w ≡ 12288 → q ≤ 500 → record_used (free_record w q) q ≡ false
  unfolding record_used
  free_record_used l h = ap not (eq_yes _ 0 (free_record_end l h))

  pub free_record_used_other : (p : ℕ) → q ≢ p → record_used (free_record w q) p ≡ record_used w p
  free_record_used_other p n = record_used_same w (free_record w q) p (free_record_other p n)

-- THE ROOT AND THE HEIGHT leave pages and records
module _ {w w' : List ℕ} {lo hi : ℕ} (k : Kept w w' lo hi) (first : hi ≤ 2) where
  head_page : (p : ℕ) → 1 ≤ p → page_of w' p ≡ page_of w p
  head_page p h = page_behind k p (omega arith)

  head_record : (q : ℕ) → record_of w' q ≡ record_of w q
  head_record q = record_behind k q (omega arith)

module _ (w : List ℕ) (p : ℕ) where
  set_root_kept : Kept w (set_root w p) 0 1
  unfolding set_root
  set_root_kept = kept_set w 0 p

  pub set_root_long : length (set_root w p) ≡ length w
  set_root_long = set_root_kept.long

  pub set_root_root : length w ≡ 12288 → root_of (set_root w p) ≡ p
  unfolding set_root
  set_root_root l = get_or-set_same w 0 p 0 (omega arith)

  pub set_root_shares : shares_of (set_root w p) ≡ shares_of w
  set_root_shares = shares_behind set_root_kept (omega arith)

  pub set_root_page : (q : ℕ) → 1 ≤ q → page_of (set_root w p) q ≡ page_of w q
  set_root_page q h = head_page set_root_kept (omega arith) q h

  pub set_root_record : (q : ℕ) → record_of (set_root w p) q ≡ record_of w q
  set_root_record q = head_record set_root_kept (omega arith) q

module _ (w : List ℕ) (h : ℕ) where
  set_height_kept : Kept w (set_height w h) 1 2
  unfolding set_height
  set_height_kept = kept_set w 1 h

  pub set_height_long : length (set_height w h) ≡ length w
  set_height_long = set_height_kept.long

  pub set_height_root : root_of (set_height w h) ≡ root_of w
  set_height_root = set_height_kept.below 0 (omega arith)

  pub set_height_height : length w ≡ 12288 → height_of (set_height w h) ≡ h
  unfolding set_height
  set_height_height l = get_or-set_same w 1 h 0 (omega arith)

  pub set_height_shares : shares_of (set_height w h) ≡ shares_of w
  set_height_shares = shares_behind set_height_kept (omega arith)

  pub set_height_page : (q : ℕ) → 1 ≤ q → page_of (set_height w h) q ≡ page_of w q
  set_height_page q l = head_page set_height_kept (omega arith) q l

  pub set_height_record : (q : ℕ) → record_of (set_height w h) q ≡ record_of w q
  set_height_record q = head_record set_height_kept (omega arith) q
