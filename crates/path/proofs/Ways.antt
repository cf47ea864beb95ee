-- The way down: the pages of a path, their number, the page reached; fills along it; a turn and the end of the loop that writes it.
-- Assumes nothing.
use Prim.Native.Nat.{ℕ, zero, suc, ◌+◌, ◌-◌, ◌≤◌, ◌<◌}
use mathlib.Core.Path.{◌≡◌, refl, sym, ap, ◌∙◌, subst}
use mathlib.Core.Bool.{◌&&◌}
use mathlib.Core.List.{List, [], ◌∷◌, ◌++◌}
use lib.Dec.{T, eqb}
use lib.ListN.{length, get_or, take, drop, set, replicate, length-set, get_or-append}
use lib.Seq.{take-suc-set, drop-set-lt, drop-drop, set_split, append_snoc, get_or-take}
use native.Mathlib.Omega.{arith}
use native.Mathlib.Numerals.{add-one}
use Rattle.words.proofs.Tests.{and_left, and_right}
use Rattle.words.proofs.Says.{eq_says}
use Rattle.xrtree.specs.Rules.{within}
use Rattle.pages.specs.Layout.{image_words, root_of, height_of, page_of, fill_of, child_in}
use Rattle.image.specs.Read.{depth_of}
use Rattle.image.specs.Fills.{FillsFrom, Fills, root_least}
use Rattle.image.specs.Valid.{sized, valid}
use Rattle.image.proofs.Fills.{within_facts, valid_fills}
use Rattle.path.specs.Path.{rank_in, child_for, path_from, path_of, down_to, padded}
use Rattle.path.proofs.Ranks.{rank_fill}

-- what a valid image is like, before its tree
pub valid_sized : (w : List ℕ) → T (valid w) → (length w ≡ image_words) × (1 ≤ height_of w) × (height_of w ≤ 4)
unfolding valid sized
valid_sized w t =
    let s = and_left (eqb (length w) image_words && within 1 4 (height_of w)) _ t in
    let f = within_facts 1 4 (height_of w) (and_right (eqb (length w) image_words) _ s) in
    ((eq_says (length w) image_words).yes_so (and_left (eqb (length w) image_words) _ s), f.0, f.1)

-- and what the way down asks of it
pub descend_asks : (w : List ℕ) → T (valid w) → ((1 ≤ height_of w) × (height_of w ≤ 4)) × Fills (depth_of w) w (root_of w)
descend_asks w v = let z = valid_sized w v in ((z.1, z.2), valid_fills w v)

module _ (w : List ℕ) (x : ℕ) where
  -- THE PATH
  pub path_end : (p : ℕ) → path_from 0 w x p ≡ p ∷ []
  unfolding path_from
  path_end p = refl

  pub path_more : (h p : ℕ) → path_from (suc h) w x p ≡ p ∷ path_from h w x (child_for w x p)
  unfolding path_from
  path_more h p = refl

  pub path_long : (h p : ℕ) → length (path_from h w x p) ≡ suc h
  unfolding path_from
  path_long zero p = refl
  path_long (suc h) p = ap suc (path_long h (child_for w x p))

  -- its page j steps down
  pub path_at : (h j p : ℕ) → j ≤ h → get_or (path_from h w x p) j 0 ≡ down_to j w x p
  unfolding path_from down_to
  path_at zero zero p l = refl
  path_at zero (suc j) p l = absurd (omega arith)
  path_at (suc h) zero p l = refl
  path_at (suc h) (suc j) p l = path_at h j (child_for w x p) (omega arith)

  -- one step more, at the bottom
  pub down_more : (j p : ℕ) → down_to (suc j) w x p ≡ child_for w x (down_to j w x p)
  unfolding down_to
  down_more zero p = refl
  down_more (suc j) p = down_more j (child_for w x p)

  pub down_none : (p : ℕ) → down_to 0 w x p ≡ p
  unfolding down_to
  down_none p = refl

  pub down_on : (j p : ℕ) → down_to (suc j) w x p ≡ down_to j w x (child_for w x p)
  unfolding down_to
  down_on j p = refl

  -- FILLS ALONG IT
  pub fills_child : (least h p : ℕ) → FillsFrom least (suc h) w p → FillsFrom 4 h w (child_for w x p)
  fills_child least h p f = f.2 (rank_in (page_of w p) x) (rank_fill (page_of w p) x)

  pub fills_most : (least h p : ℕ) → FillsFrom least h w p → FillsFrom 0 h w p
  fills_most least zero p f = (omega arith, f.1)
  fills_most least (suc h) p f = (omega arith, f.1, f.2)

  pub fills_here : (least h p : ℕ) → FillsFrom least h w p → (least ≤ fill_of (page_of w p)) × (fill_of (page_of w p) ≤ 8)
  fills_here least zero p f = f
  fills_here least (suc h) p f = (f.0, f.1)

  -- below the top page, every page has at least four
  pub fills_down : (least h j p : ℕ) → suc j ≤ h → FillsFrom least h w p → FillsFrom 4 (h - suc j) w (down_to (suc j) w x p)
  unfolding down_to
  fills_down least zero j p l f = absurd (omega arith)
  fills_down least (suc h) zero p l f =
      let e : suc h - 1 ≡ h = omega arith in subst (λ k. FillsFrom 4 k w (child_for w x p)) (sym e) (fills_child least h p f)
  fills_down least (suc h) (suc j) p l f =
      let e : suc h - suc (suc j) ≡ h - suc j = omega arith in
      subst (λ k. FillsFrom 4 k w (down_to (suc j) w x (child_for w x p))) (sym e) (fills_down 4 h j (child_for w x p) (omega arith) (fills_child least h p f))

  pub fills_at : (least h j p : ℕ) → j ≤ h → FillsFrom least h w p → FillsFrom 0 (h - j) w (down_to j w x p)
  unfolding down_to
  fills_at least h zero p l f = let e : h - 0 ≡ h = omega arith in subst (λ k. FillsFrom 0 k w p) (sym e) (fills_most least h p f)
  fills_at least h (suc j) p l f = fills_most 4 (h - suc j) (down_to (suc j) w x p) (fills_down least h j p l f)

-- WRITING IT: i pages are written, page at comes next, left more lie below it
pub record Writing (w : List ℕ) (x : ℕ) (path : List ℕ) (at left i : ℕ) : Type 0 where
  pub steps : i + left ≡ depth_of w
  pub low : depth_of w ≤ 3
  pub long : length path ≡ 4
  pub fills : FillsFrom 0 left w at
  pub way : take i path ++ path_from left w x at ≡ path_of w x
  pub rest : drop i path ≡ replicate (4 - i) 0

pub write_start : (w : List ℕ) (x at left : ℕ) → at ≡ root_of w → left ≡ depth_of w → 1 ≤ height_of w → height_of w ≤ 4 → Fills (depth_of w) w (root_of w)
    → Writing w x (replicate 4 0) at left 0
write_start w x at left e d a b f =
    record {
      steps = omega arith;
      low = omega arith;
      long = refl;
      fills = rw (e, d) (fills_most w x (root_least (depth_of w)) (depth_of w) (root_of w) f);
      way = rw (e, d);
      rest = refl;
    }

-- a page with pages below it
pub write_few : (w : List ℕ) (x : ℕ) (path : List ℕ) (at left i : ℕ) → Writing w x path at left i → fill_of (page_of w at) ≤ 8
write_few w x path at left i v = (fills_here w x 0 left at v.fills).1

rest_on : (path : List ℕ) (i at : ℕ) → i < 4 → drop i path ≡ replicate (4 - i) 0 → drop (suc i) path ≡ replicate (4 - suc i) 0
rest_on path i at l e =
    let u : i + 1 ≡ suc i = omega arith in
    let v : 4 - i ≡ suc (4 - suc i) = omega arith in
    rw u at (sym (drop-drop 1 i path)) ∙ ap (drop 1) (rw v at e)

pub write_on : (w : List ℕ) (x : ℕ) (path : List ℕ) (at left i r q more : ℕ) → Writing w x path at left i → left ≡ suc more → r ≡ rank_in (page_of w at) x
    → q ≡ child_in (page_of w at) r → Writing w x (set path i at) q more (i + 1)
write_on w x path at left i r q more v u e d =
    let i4 : i < length path = omega (arith, v.steps, v.low, v.long) in
    record {
      steps = omega (arith, v.steps);
      low = v.low;
      long = simp length-set v.long;
      fills = rw (d, e) (fills_most w x 4 more (child_for w x at) (fills_child w x 0 more at (subst (λ k. FillsFrom 0 k w at) u v.fills)));
      way =
          rw (add-one, take-suc-set path i at i4, append_snoc, d, e)
          (ap (λ l. take i path ++ l) (sym (path_more w x more at)) ∙ rw u at v.way);
      rest = rw (add-one, drop-set-lt (suc i) path i at (omega arith)) (rest_on path i at (omega arith) v.rest);
    }

padded_is : (ps : List ℕ) → length ps ≤ 4 → padded ps ≡ ps ++ replicate (4 - length ps) 0
unfolding padded
padded_is [] l = refl
padded_is (a ∷ []) l = refl
padded_is (a ∷ b ∷ []) l = refl
padded_is (a ∷ b ∷ c ∷ []) l = refl
padded_is (a ∷ b ∷ c ∷ d ∷ []) l = refl
padded_is (a ∷ b ∷ c ∷ d ∷ e ∷ r) l = absurd (omega arith)

pub write_end : (w : List ℕ) (x : ℕ) (path : List ℕ) (at left i n : ℕ) → Writing w x path at left i → left ≡ 0 → n ≡ depth_of w → set path n at ≡ padded (path_of w x)
write_end w x path at left i n v z d =
    let l : n ≡ i = omega (arith, v.steps) in
    let i4 : i < length path = omega (arith, v.steps, v.low, v.long) in
    let is : take i path ++ at ∷ [] ≡ path_of w x = ap (λ l. take i path ++ l) (sym (path_end w x at)) ∙ rw z at v.way in
    let long : length (path_of w x) ≡ suc i = path_long w x (depth_of w) (root_of w) ∙ omega (arith, v.steps) in
    rw l
    (set_split path i at i4 ∙ ap (λ l. take i path ++ at ∷ l) (rest_on path i at (omega arith) v.rest) ∙ sym (append_snoc (take i path) at (replicate (4 - suc i) 0))
    ∙ rw (is, ← long) (sym (padded_is (path_of w x) (omega (arith, v.low, v.steps)))))

-- READING IT: word j of the path in four words is the page j steps down
pub path_read : (w : List ℕ) (x j : ℕ) → height_of w ≤ 4 → 1 ≤ height_of w → j ≤ depth_of w → get_or (padded (path_of w x)) j 0 ≡ down_to j w x (root_of w)
unfolding padded
path_read w x j a b l =
    let n : j < length (path_of w x) = omega (arith, path_long w x (depth_of w) (root_of w)) in
    get_or-take 4 (path_of w x ++ 0 ∷ 0 ∷ 0 ∷ 0 ∷ []) j 0 (omega arith) ∙ get_or-append (path_of w x) (0 ∷ 0 ∷ 0 ∷ 0 ∷ []) 0 j n
    ∙ path_at w x (depth_of w) j (root_of w) l
