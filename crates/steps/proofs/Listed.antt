-- What is listed of a page with a child of it, and with two of them: regions, leaves and pages by lists, records by counts.
-- Assumes nothing.
use Prim.Native.Nat.{ℕ, suc, ◌+◌}
use mathlib.Core.Path.{◌≡◌, refl, sym, ap, ◌∙◌}
use mathlib.Core.List.{List, [], ◌∷◌, ◌++◌, append-nil, append_assoc}
use native.Mathlib.Omega.{arith}
use Rattle.words.specs.Lists.{count}
use Rattle.words.proofs.Counted.{count_append}
use Rattle.xrtree.specs.Tree.{Key, Tree, Listing, weave, listed, list_regions, list_leaves, list_pages, list_records, record_places}
use Rattle.xrtree.specs.Holes.{Post, fill}
use Rattle.xrtree.proofs.Holes.{before_kids, after_kids, listed_parts}
use Rattle.xrtree.specs.Holes.Post.{at_key, at_end}
use Rattle.steps.specs.Steps.{rekeyed, next_places}

module _ {B : Type 0} (L : Listing B) where
  before_more : (h : ℕ) (pre : List (Tree h × Key)) (l : Tree h) (k : Key) → before_kids L h (pre ++ (l, k) ∷ []) ≡ before_kids L h pre ++ (listed L h l ++ (L.on_key k ++ []))
  before_more h [] l k = refl
  before_more h (c ∷ pre) l k = ap (λ (z : List B). listed L h c.0 ++ (L.on_key c.1 ++ z)) (before_more h pre l k) ∙ simp append_assoc

  -- a listing to which keys are nothing
  pub record Keyless : Type 0 where
    pub key : (k : Key) → L.on_key k ≡ []
    pub page : (q m n : ℕ) → L.on_page q m ≡ L.on_page q n

  pub after_rekeyed : Keyless → (h : ℕ) (post : Post (Tree h)) (j : Key) → after_kids L h (rekeyed post j) ≡ after_kids L h post
  after_rekeyed s h (at_key k cs last) j = ap (λ (z : List B). z ++ weave (listed L h) L.on_key cs last) (s.key j ∙ sym (s.key k))
  after_rekeyed s h at_end j = refl

  module _ (s : Keyless) (h q : ℕ) (pre : List (Tree h × Key)) where
    pub page_listed : (post : Post (Tree h)) (t : Tree h) → listed L (suc h) (fill q pre post t) ≡ L.on_page q 0 ++ (before_kids L h pre ++ (listed L h t ++ after_kids L h post))
    page_listed post t =
        listed_parts L 1 h (q, pre, post, tt) t
        ∙ ap (λ (z : List B). (z ++ (before_kids L h pre ++ [])) ++ (listed L h t ++ after_kids L h post)) (s.page q _ 0)
        ∙ simp (append_assoc, append-nil)

    -- with two children
    pub pair_listed : (post : Post (Tree h)) (l r : Tree h) (k : Key)
        → listed L (suc h) (fill q (pre ++ (l, k) ∷ []) post r) ≡ L.on_page q 0 ++ (before_kids L h pre ++ ((listed L h l ++ listed L h r) ++ after_kids L h post))
    pair_listed post l r k =
        listed_parts L 1 h (q, pre ++ (l, k) ∷ [], post, tt) r
        ∙ ap (λ (z : List B). (z ++ (before_kids L h (pre ++ (l, k) ∷ []) ++ [])) ++ (listed L h r ++ after_kids L h post)) (s.page q _ 0)
        ∙ rw (before_more h pre l k, s.key k) (simp (append_assoc, append-nil))

pub regions_keyless : Keyless list_regions
regions_keyless = record { key = λ k. refl; page = λ q m n. refl }

pub leaves_keyless : Keyless list_leaves
leaves_keyless = record { key = λ k. refl; page = λ q m n. refl }

pub pages_keyless : Keyless list_pages
pages_keyless = record { key = λ k. refl; page = λ q m n. refl }

-- what lies around a child, of the page and of all that is around the page
pub around_child : {B : Type 0} (x b t d y : List B) → (x ++ b) ++ (t ++ (d ++ y)) ≡ x ++ ((b ++ (t ++ d)) ++ y)
around_child x b t d y = simp append_assoc

-- RECORDS: those of the children on the left, of the child, of the next key, of the rest
abbrev pub rest_records : (h : ℕ) → Post (Tree h) → List ℕ
rest_records h (at_key k cs last) = weave (listed list_records h) (λ (k : Key). k.places) cs last
rest_records h at_end = []

pub rest_rekeyed : (h : ℕ) (post : Post (Tree h)) (j : Key) → rest_records h (rekeyed post j) ≡ rest_records h post
rest_rekeyed h (at_key k cs last) j = refl
rest_rekeyed h at_end j = refl

module _ (h q x : ℕ) where
  pub page_records : (pre : List (Tree h × Key)) (post : Post (Tree h)) (t : Tree h)
      → count x (record_places (suc h) (fill q pre post t)) ≡ count x (before_kids list_records h pre) + count x (record_places h t) + count x (next_places post) + count x (rest_records h post)
  unfolding count
  page_records pre post t =
      ap (count x) (listed_parts list_records 1 h (q, pre, post, tt) t)
      ∙ omega (arith, count_append x (before_kids list_records h pre ++ []) (record_places h t ++ after_kids list_records h post), count_append x (record_places h t) (after_kids list_records h post), after_parts post, ap (count x) (append-nil (before_kids list_records h pre)))
    where
      after_parts : (post : Post (Tree h)) → count x (after_kids list_records h post) ≡ count x (next_places post) + count x (rest_records h post)
      after_parts (at_key k cs last) = count_append x k.places (rest_records h (at_key k cs last))
      after_parts at_end = refl

  pub pair_records : (pre : List (Tree h × Key)) (post : Post (Tree h)) (l r : Tree h) (k : Key)
      → count x (record_places (suc h) (fill q (pre ++ (l, k) ∷ []) post r))
      ≡ count x (before_kids list_records h pre) + count x (record_places h l) + count x k.places + count x (record_places h r) + count x (next_places post) + count x (rest_records h post)
  unfolding count
  pair_records pre post l r k =
      page_records (pre ++ (l, k) ∷ []) post r
      ∙ rw (before_more list_records h pre l k)
      (omega (arith, count_append x (before_kids list_records h pre) (record_places h l ++ (k.places ++ [])), count_append x (record_places h l) (k.places ++ []), count_append x k.places []))
