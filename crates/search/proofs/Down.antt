-- The search page by page, from the root down: what a tree's page meets and what its child on the path does; a turn and the end of the loop along the path.
-- Assumes nothing.
use Prim.Native.Nat.{ℕ, zero, suc, ◌+◌, ◌-◌, ◌*◌, ◌≤◌, ◌<◌}
use mathlib.Core.Path.{◌≡◌, refl, sym, ap, ◌∙◌}
use mathlib.Core.List.{List, [], ◌∷◌, ◌++◌, append_assoc}
use lib.Dec.{ltb}
use lib.ListN.{get_or, get_or-append}
use lib.Seq.{get_or-take}
use native.Mathlib.Omega.{arith}
use native.Mathlib.Numerals.{add-one}
use Rattle.words.proofs.Tests.{by_test}
use Rattle.regions.specs.declared.Region.{Region}
use Rattle.regions.specs.declared.Choice.{Choice}
use Rattle.pages.specs.Layout.{root_of, page_of, fill_of, key_word, child_in}
use Rattle.xrtree.specs.Search.{run, find_kids, steps_kids, find, steps}
use Rattle.image.specs.Read.{key_at, kids_from, read_tree, depth_of, tree_of}
use Rattle.image.specs.Fills.{Fills, root_least}
use Rattle.path.specs.Path.{rank_from, rank_in, child_for, path_of, down_to, padded}
use Rattle.path.proofs.Ways.{path_long, path_at, down_more, down_none, fills_at, fills_here}
use Rattle.tally.specs.declared.Task.{Task}
use Rattle.tally.specs.declared.Tally.{Tally}
use Rattle.tally.specs.Tallies.{Tallied, stepped, fresh_tally}
use Rattle.leafmet.specs.LeafMet.{leaf_met}
use Rattle.meets.specs.PageMet.{lists_from, lists_looked_from, lists_met, lists_looked}
use Rattle.tally.proofs.Tallies.{Leads, leads_all, tallied_step, tallied_then, leads_on, leads_last}
use Rattle.search.proofs.PathMet.{lists_few, lists_looked_few}

-- A PAGE: its lists, and then the child on the path
module _ {A : Type 0} (child : ℕ → A) (w : List ℕ) (ch : Choice) (p : ℕ) (ws : List ℕ) where
  kids_found : (g : A → List Region) (i m : ℕ) → find_kids g ch p (kids_from child w ws i m) (child (child_in ws (i + m))) ≡ lists_from w ch p ws i m ++ g (child (child_in ws (rank_from ws p i m)))
  unfolding find_kids kids_from rank_from
  kids_found g i zero = let e : i + 0 ≡ i = omega arith in rw e
  kids_found g i (suc m) =
      let e : i + suc m ≡ suc i + m = omega arith in
      let r = run ch p (key_at w ws i) in
      by_test (ltb p (get_or ws (key_word i) 0))
      (λ h. rw h (sym (append_assoc r [] (g (child (child_in ws i))))))
      (λ h. rw (h, e, kids_found g (suc i) m) (sym (append_assoc r (lists_from w ch p ws (suc i) m) (g (child (child_in ws (rank_from ws p (suc i) m)))))))

  kids_stepped : (g : A → ℕ) (i m : ℕ) → steps_kids g ch p (kids_from child w ws i m) (child (child_in ws (i + m))) ≡ lists_looked_from w ch p ws i m + g (child (child_in ws (rank_from ws p i m)))
  unfolding steps_kids kids_from rank_from
  kids_stepped g i zero = let e : i + 0 ≡ i = omega arith in rw e (omega arith)
  kids_stepped g i (suc m) =
      let e : i + suc m ≡ suc i + m = omega arith in
      by_test (ltb p (get_or ws (key_word i) 0))
      (λ h. rw h (omega arith))
      (λ h. rw (h, e, kids_stepped g (suc i) m) (omega arith))

module _ (w : List ℕ) (ch : Choice) (p : ℕ) where
  -- what is found, and the steps made, from page q on with h pages below it
  abbrev pub find_at : ℕ → ℕ → List Region
  find_at h q = find h ch p (read_tree h w q)

  abbrev pub steps_at : ℕ → ℕ → ℕ
  steps_at h q = steps h ch p (read_tree h w q)

  pub find_page : (h q : ℕ) → find_at (suc h) q ≡ lists_met w ch p q ++ find_at h (child_for w p q)
  unfolding find read_tree rank_in
  find_page h q = at_last (fill_of (page_of w q))
    where
      at_last : (n : ℕ) → find_kids (find h ch p) ch p (kids_from (read_tree h w) w (page_of w q) 0 n) (read_tree h w (child_in (page_of w q) n))
          ≡ lists_from w ch p (page_of w q) 0 n ++ find h ch p (read_tree h w (child_in (page_of w q) (rank_from (page_of w q) p 0 n)))
      at_last n = let e : 0 + n ≡ n = omega arith in rw e at (kids_found (read_tree h w) w ch p (page_of w q) (find h ch p) 0 n)

  pub steps_page : (h q : ℕ) → steps_at (suc h) q ≡ 1 + lists_looked w ch p q + steps_at h (child_for w p q)
  unfolding steps read_tree rank_in
  steps_page h q = omega (arith, at_last (fill_of (page_of w q)))
    where
      at_last : (n : ℕ) → steps_kids (steps h ch p) ch p (kids_from (read_tree h w) w (page_of w q) 0 n) (read_tree h w (child_in (page_of w q) n))
          ≡ lists_looked_from w ch p (page_of w q) 0 n + steps h ch p (read_tree h w (child_in (page_of w q) (rank_from (page_of w q) p 0 n)))
      at_last n = let e : 0 + n ≡ n = omega arith in rw e at (kids_stepped (read_tree h w) w ch p (page_of w q) (steps h ch p) 0 n)

  -- A LEAF
  pub find_leaf : (q : ℕ) → find_at 0 q ≡ leaf_met w ch p q
  unfolding find read_tree
  find_leaf q = refl

  pub steps_leaf : (q : ℕ) → steps_at 0 q ≡ 1
  unfolding steps
  steps_leaf q = refl

-- THE PATH by value: its page i
module _ (w : List ℕ) (p : ℕ) (way : List ℕ) (e : way ≡ padded (path_of w p)) (low : depth_of w ≤ 3) (i : ℕ) (l : i ≤ depth_of w) where
  pub way_at : get_or way i 0 ≡ down_to i w p (root_of w)
  unfolding padded
  way_at =
      ap (λ v. get_or v i 0) e
      ∙ get_or-take 4 (path_of w p ++ 0 ∷ 0 ∷ 0 ∷ 0 ∷ []) i 0 (omega arith)
      ∙ get_or-append (path_of w p) (0 ∷ 0 ∷ 0 ∷ 0 ∷ []) 0 i (omega (arith, path_long w p (depth_of w) (root_of w)))
      ∙ path_at w p (depth_of w) i (root_of w) l

  pub way_few : Fills (depth_of w) w (root_of w) → fill_of (page_of w (get_or way i 0)) ≤ 8
  way_few f = rw way_at (fills_here w p 0 (depth_of w - i) (down_to i w p (root_of w)) (fills_at w p (root_least (depth_of w)) (depth_of w) i (root_of w) l f)).1

-- ALONG THE PATH: i pages were searched
abbrev pub Going : Task → List ℕ → List ℕ → Choice → ℕ → List ℕ → Tally → ℕ → Type 0
Going task out₀ w ch p out t i =
    Leads task out₀ fresh_tally (find (depth_of w) ch p (tree_of w)) (steps (depth_of w) ch p (tree_of w)) out t
    (find_at w ch p (depth_of w - i) (down_to i w p (root_of w))) (steps_at w ch p (depth_of w - i) (down_to i w p (root_of w))) (5000 * i)

pub path_start : {task : Task} {out : List ℕ} {t : Tally} (w : List ℕ) (ch : Choice) (p : ℕ) → t ≡ fresh_tally → Going task out w ch p out t 0
path_start w ch p f = let e : depth_of w - 0 ≡ depth_of w = omega arith in rw (f, e, down_none w p (root_of w)) leads_all

module _ {task : Task} {out₀ : List ℕ} (w : List ℕ) (ch : Choice) (p : ℕ) {out : List ℕ} {t : Tally} (i : ℕ) (l : Going task out₀ w ch p out t i)
    (page : ℕ) (e : page ≡ down_to i w p (root_of w)) (t₁ : Tally) (s : t₁ ≡ stepped t) (out₂ : List ℕ) (t₂ : Tally) where
  pub path_on : i < depth_of w → fill_of (page_of w page) ≤ 8 → Tallied task out t₁ (lists_met w ch p page) (lists_looked w ch p page) out₂ t₂ → Going task out₀ w ch p out₂ t₂ (i + 1)
  path_on h few r =
      let q = down_to i w p (root_of w) in
      let m : depth_of w - i ≡ suc (depth_of w - suc i) = omega arith in
      let a = lists_few w ch p (page_of w page) 0 (fill_of (page_of w page)) in
      let b = lists_looked_few w ch p (page_of w page) 0 (fill_of (page_of w page)) in
      rw (add-one i, down_more w p i (root_of w))
      (leads_on l (tallied_then (tallied_step s) r)
      (ap (λ k. find_at w ch p k q) m ∙ find_page w ch p (depth_of w - suc i) q ∙ rw e)
      (ap (λ k. steps_at w ch p k q) m ∙ steps_page w ch p (depth_of w - suc i) q ∙ rw e)
      (omega arith) (omega arith))

  pub path_end : i ≡ depth_of w → Tallied task out t₁ (leaf_met w ch p page) 0 out₂ t₂ → Tallied task out₀ fresh_tally (find (depth_of w) ch p (tree_of w)) (steps (depth_of w) ch p (tree_of w)) out₂ t₂
  path_end h r =
      let q = down_to i w p (root_of w) in
      let m : depth_of w - i ≡ 0 = omega arith in
      leads_last l (tallied_then (tallied_step s) r)
      (ap (λ k. find_at w ch p k q) m ∙ find_leaf w ch p q ∙ rw e)
      (ap (λ k. steps_at w ch p k q) m ∙ steps_leaf w ch p q)
