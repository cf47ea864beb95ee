-- From rule 1's fills to those that the readers of pages ask for.
-- Assumes nothing.
use Prim.Native.Nat.{ℕ, zero, suc, ◌+◌, ◌≤◌}
use mathlib.Core.Path.{◌≡◌}
use mathlib.Core.Bool.{Bool, ◌&&◌}
use mathlib.Core.List.{List}
use lib.Dec.{T, leb, leb→le}
use lib.ListN.{length}
use native.Mathlib.Omega.{arith}
use Rattle.words.proofs.Tests.{and_left, and_right}
use Rattle.xrtree.specs.Tree.{Tree, all_kids}
use Rattle.xrtree.specs.Rules.{within, filled_below, filled, rule1}
use Rattle.pages.specs.Layout.{page_of, fill_of, child_in, root_of}
use Rattle.image.specs.Read.{kids_from, read_tree, depth_of, tree_of}
use Rattle.image.specs.Fills.{FillsFrom, Fills}
use Rattle.image.specs.Shape.{shapely}
use Rattle.image.specs.Valid.{sized, valid, tree_rules}
use Rattle.image.proofs.Listings.{entries_long, kids_long}

pub within_facts : (least most n : ℕ) → T (within least most n) → (least ≤ n) × (n ≤ most)
within_facts least most n t = (leb→le least n (and_left (leb least n) _ t), leb→le n most (and_right (leb least n) _ t))

-- what every child of a page passes, child i + j passes
pub kid_passes : {A : Type 0} (f : A → Bool) (child : ℕ → A) (w ws : List ℕ) (i m j : ℕ) → j ≤ m
    → T (all_kids f (kids_from child w ws i m) (child (child_in ws (i + m)))) → T (f (child (child_in ws (i + j))))
unfolding kids_from all_kids
kid_passes f child w ws i zero j l t = let e : i + j ≡ i + 0 = omega arith in rw e t
kid_passes f child w ws i (suc m) zero l t = let e : i + 0 ≡ i = omega arith in rw e (and_left (f (child (child_in ws i))) _ t)
kid_passes f child w ws i (suc m) (suc j) l t =
    let e : i + suc j ≡ suc i + j = omega arith in
    let g : i + suc m ≡ suc i + m = omega arith in
    rw e (kid_passes f child w ws (suc i) m j (omega arith) (rw g at (and_right (f (child (child_in ws i))) _ t)))

-- an inner page that has its fill, and whose children pass
inner_fills : (least h : ℕ) (w : List ℕ) (p : ℕ) (f : Tree h → Bool) → ((q : ℕ) → T (f (read_tree h w q)) → FillsFrom 4 h w q)
    → T (within least 8 (length (kids_from (read_tree h w) w (page_of w p) 0 (fill_of (page_of w p)))) &&
    all_kids f (kids_from (read_tree h w) w (page_of w p) 0 (fill_of (page_of w p))) (read_tree h w (child_in (page_of w p) (fill_of (page_of w p)))))
    → (least ≤ fill_of (page_of w p)) × (fill_of (page_of w p) ≤ 8) × ((i : ℕ) → i ≤ fill_of (page_of w p) → FillsFrom 4 h w (child_in (page_of w p) i))
inner_fills least h w p f below t =
    let n = fill_of (page_of w p) in
    let own = within_facts least 8 n (rw (kids_long (read_tree h w) w (page_of w p) 0 n) at (and_left (within least 8 (length (kids_from (read_tree h w) w (page_of w p) 0 n))) _ t)) in
    (own.0, own.1, (λ i l. below (child_in (page_of w p) i) (kid i l (and_right (within least 8 (length (kids_from (read_tree h w) w (page_of w p) 0 n))) _ t))))
  where
    last : (n : ℕ) → T (all_kids f (kids_from (read_tree h w) w (page_of w p) 0 n) (read_tree h w (child_in (page_of w p) n)))
        → T (all_kids f (kids_from (read_tree h w) w (page_of w p) 0 n) (read_tree h w (child_in (page_of w p) (0 + n))))
    last n u = let e : 0 + n ≡ n = omega arith in rw e u

    kid : (i : ℕ) → i ≤ fill_of (page_of w p)
        → T (all_kids f (kids_from (read_tree h w) w (page_of w p) 0 (fill_of (page_of w p))) (read_tree h w (child_in (page_of w p) (fill_of (page_of w p))))) → T (f (read_tree h w (child_in (page_of w p) i)))
    kid i l u =
        let e : 0 + i ≡ i = omega arith in
        rw e at (kid_passes f (read_tree h w) w (page_of w p) 0 (fill_of (page_of w p)) i l (last (fill_of (page_of w p)) u))

pub filled_below_lem : (h : ℕ) (w : List ℕ) (p : ℕ) → T (filled_below h (read_tree h w p)) → FillsFrom 4 h w p
unfolding filled_below read_tree
filled_below_lem zero w p t = within_facts 4 8 (fill_of (page_of w p)) (rw (entries_long (page_of w p) 0 (fill_of (page_of w p))) at t)
filled_below_lem (suc h) w p t = inner_fills 4 h w p (filled_below h) (λ q u. filled_below_lem h w q u) t

pub filled_fills : (h : ℕ) (w : List ℕ) (p : ℕ) → T (filled h (read_tree h w p)) → Fills h w p
unfolding filled read_tree
filled_fills zero w p t = within_facts 0 8 (fill_of (page_of w p)) (rw (entries_long (page_of w p) 0 (fill_of (page_of w p))) at t)
filled_fills (suc h) w p t = inner_fills 1 h w p (filled_below h) (λ q u. filled_below_lem h w q u) t

pub shapely_fills : (w : List ℕ) → T (shapely w) → Fills (depth_of w) w (root_of w)
unfolding shapely rule1
shapely_fills w t = filled_fills (depth_of w) w (root_of w) (and_left (filled (depth_of w) (tree_of w)) _ (and_left (rule1 (depth_of w) (tree_of w)) _ (and_right (sized w) _ t)))

pub valid_fills : (w : List ℕ) → T (valid w) → Fills (depth_of w) w (root_of w)
unfolding valid tree_rules rule1
valid_fills w t =
    filled_fills (depth_of w) w (root_of w)
    (and_left (filled (depth_of w) (tree_of w)) _ (and_left (rule1 (depth_of w) (tree_of w)) _ (and_left (tree_rules (depth_of w) (tree_of w)) _ (and_right (sized w) _ t))))
