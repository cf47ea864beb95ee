-- What stays of a page while a child of it becomes two: the children beside it; links; places by counts.
-- Assumes nothing.
use Prim.Native.Nat.{ℕ, zero, suc, ◌+◌, ◌≤◌, ◌<◌}
use mathlib.Core.Path.{◌≡◌, refl}
use mathlib.Core.Bool.{Bool, cond}
use mathlib.Core.List.{List, [], ◌∷◌, ◌++◌}
use lib.Dec.{T, eqb, eqb_refl}
use native.Mathlib.Omega.{arith}
use Rattle.words.specs.Lists.{All, count}
use Rattle.words.proofs.Tests.{and_left, and_right, and_both}
use Rattle.words.proofs.Listed.{all_left, all_right}
use Rattle.xrtree.specs.Tree.{Entry, Key, Leaf, Tree, listed, list_pages, list_records}
use Rattle.xrtree.specs.Rules.{first_place, linked}
use Rattle.xrtree.specs.Claims.{leaf_at}
use Rattle.xrtree.specs.Holes.{Post, fill_kids, fill_last}
use Rattle.xrtree.proofs.Holes.{before_kids, after_kids}
use Rattle.xrtree.specs.Holes.Post.{at_key, at_end}
use Rattle.holding.specs.Held.{EveryKid, Held}
use Rattle.holding.proofs.Frames.{SamePage, SameRecord, held_frame}
use Rattle.standing.specs.Stands.{Places}
use Rattle.steps.specs.Steps.{rekeyed}
use Rattle.steps.proofs.Listed.{rest_records}
use Rattle.steps.proofs.Stays.{kids_stay}

-- ONE CHILD MORE: what every child has
module _ {A : Type 0} (P : A → Type 0) where
  pub every_more : (pre : List (A × Key)) (post : Post A) (t l r : A) (k j : Key) → EveryKid P (fill_kids pre post t) (fill_last post t) → P l → P r
      → EveryKid P (fill_kids (pre ++ (l, k) ∷ []) (rekeyed post j) r) (fill_last (rekeyed post j) r)
  every_more [] (at_key a cs last) t l r k j g x y = (x, (y, g.1))
  every_more [] at_end t l r k j g x y = (x, y)
  every_more (c ∷ pre) (at_key a cs last) t l r k j g x y = (g.0, every_more pre (at_key a cs last) t l r k j g.1 x y)
  every_more (c ∷ pre) at_end t l r k j g x y = (g.0, every_more pre at_end t l r k j g.1 x y)

-- THE CHILDREN BESIDE IT are held as before
module _ (w w' : List ℕ) (h : ℕ) where
  pub held_more : (pre : List (Tree h × Key)) (post : Post (Tree h)) (t l r : Tree h) (k j : Key)
      → All (SamePage w w') (before_kids list_pages h pre) → All (SamePage w w') (after_kids list_pages h post)
      → All (SameRecord w w') (before_kids list_records h pre) → All (SameRecord w w') (rest_records h post)
      → EveryKid (Held w h) (fill_kids pre post t) (fill_last post t) → Held w' h l → Held w' h r
      → EveryKid (Held w' h) (fill_kids (pre ++ (l, k) ∷ []) (rekeyed post j) r) (fill_last (rekeyed post j) r)
  held_more [] (at_key a cs last) t l r k j u v x y g m n = (m, (n, kids_stay w w' h (λ (k : Key). k.places) cs last v y g.1))
  held_more [] at_end t l r k j u v x y g m n = (m, n)
  held_more (c ∷ pre) (at_key a cs last) t l r k j u v x y g m n =
      let rx = all_right (SameRecord w w') (listed list_records h c.0) _ x in (
        held_frame w w' h c.0 (all_left (SamePage w w') (listed list_pages h c.0) _ u) (all_left (SameRecord w w') (listed list_records h c.0) _ x) g.0,
        held_more pre (at_key a cs last) t l r k j (all_right (SamePage w w') (listed list_pages h c.0) _ u) v (all_right (SameRecord w w') c.1.places _ rx) y g.1 m n,
      )
  held_more (c ∷ pre) at_end t l r k j u v x y g m n =
      let rx = all_right (SameRecord w w') (listed list_records h c.0) _ x in (
        held_frame w w' h c.0 (all_left (SamePage w w') (listed list_pages h c.0) _ u) (all_left (SameRecord w w') (listed list_records h c.0) _ x) g.0,
        held_more pre at_end t l r k j (all_right (SamePage w w') (listed list_pages h c.0) _ u) v (all_right (SameRecord w w') c.1.places _ rx) y g.1 m n,
      )

-- LINKS: a leaf became two
pub linked_two : (p n r : ℕ) (es xs ys : List Entry) (us vs : List Leaf)
    → T (linked (us ++ leaf_at p n es ∷ vs)) → T (linked (us ++ leaf_at p r xs ∷ leaf_at r n ys ∷ vs))
unfolding linked first_place
linked_two p n r es xs ys [] vs t = and_both (eqb r r) _ (eqb_refl r) t
linked_two p n r es xs ys (u ∷ []) vs t =
    and_both (eqb u.next p) _ (and_left (eqb u.next p) _ t) (linked_two p n r es xs ys [] vs (and_right (eqb u.next p) _ t))
linked_two p n r es xs ys (u ∷ v ∷ us) vs t =
    and_both (eqb u.next v.place) _ (and_left (eqb u.next v.place) _ t) (linked_two p n r es xs ys (v ∷ us) vs (and_right (eqb u.next v.place) _ t))

-- PLACES: some that were free are in use
module _ {used : ℕ → Bool} {n : ℕ} {ps : List ℕ} (p : Places used n ps) where
  pub places_more : (used' : ℕ → Bool) (fresh qs : List ℕ) → ((x : ℕ) → 1 ≤ x → x ≤ n → cond (used' x) 1 0 ≡ cond (used x) 1 0 + count x fresh)
      → ((x : ℕ) → 0 < count x fresh → (1 ≤ x) × (x ≤ n)) → ((x : ℕ) → count x qs ≡ count x fresh + count x ps) → Places used' n qs
  places_more used' fresh qs u f e =
      record {
        once = λ x a b. omega (arith, e x, p.once x a b, u x a b);
        range = λ x g. by_zero x (count x fresh) refl g;
      }
    where
      by_zero : (x m : ℕ) → count x fresh ≡ m → 0 < count x qs → (1 ≤ x) × (x ≤ n)
      by_zero x zero z g = p.range x (omega (arith, e x))
      by_zero x (suc m) z g = f x (omega arith)
