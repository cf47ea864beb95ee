-- What stays of a page while two children of it become one: the children beside them; links; places by counts.
-- Assumes nothing.
use Prim.Native.Nat.{ℕ, ◌+◌, ◌≤◌}
use mathlib.Core.Path.{◌≡◌}
use mathlib.Core.Bool.{Bool, cond}
use mathlib.Core.List.{List, [], ◌∷◌, ◌++◌}
use lib.Dec.{T, eqb}
use native.Mathlib.Omega.{arith}
use Rattle.words.specs.Lists.{All, count}
use Rattle.words.proofs.Tests.{and_left, and_right, and_both}
use Rattle.words.proofs.Listed.{all_left, all_right}
use Rattle.xrtree.specs.Tree.{Entry, Key, Leaf, Tree, listed, list_pages, list_records}
use Rattle.xrtree.specs.Rules.{first_place, linked}
use Rattle.xrtree.specs.Claims.{leaf_at}
use Rattle.xrtree.specs.Holes.{Post, fill_kids, fill_last}
use Rattle.xrtree.proofs.Holes.{before_kids, after_kids}
use Rattle.xrtree.specs.Holes.Post.{at_key, at_end}
use Rattle.holding.specs.Held.{EveryKid, Held}
use Rattle.holding.proofs.Frames.{SamePage, SameRecord, held_frame}
use Rattle.standing.specs.Stands.{Places}
use Rattle.steps.specs.Steps.{rekeyed}
use Rattle.steps.proofs.Listed.{rest_records}
use Rattle.steps.proofs.Stays.{kids_stay}

-- TWO CHILDREN, AND ONE IN THEIR PLACE: what every child has
module _ {A : Type 0} (P : A → Type 0) where
  pub every_pair : (pre : List (A × Key)) (post : Post A) (l r : A) (k : Key) → EveryKid P (fill_kids (pre ++ (l, k) ∷ []) post r) (fill_last post r) → P l × P r
  every_pair [] (at_key a cs last) l r k g = (g.0, g.1.0)
  every_pair [] at_end l r k g = (g.0, g.1)
  every_pair (c ∷ pre) (at_key a cs last) l r k g = every_pair pre (at_key a cs last) l r k g.1
  every_pair (c ∷ pre) at_end l r k g = every_pair pre at_end l r k g.1

  pub every_joined : (pre : List (A × Key)) (post : Post A) (l r t : A) (k j : Key) → EveryKid P (fill_kids (pre ++ (l, k) ∷ []) post r) (fill_last post r) → P t
      → EveryKid P (fill_kids pre (rekeyed post j) t) (fill_last (rekeyed post j) t)
  every_joined [] (at_key a cs last) l r t k j g x = (x, g.1.1)
  every_joined [] at_end l r t k j g x = x
  every_joined (c ∷ pre) (at_key a cs last) l r t k j g x = (g.0, every_joined pre (at_key a cs last) l r t k j g.1 x)
  every_joined (c ∷ pre) at_end l r t k j g x = (g.0, every_joined pre at_end l r t k j g.1 x)

-- THE CHILDREN BESIDE THEM are held as before
module _ (w w' : List ℕ) (h : ℕ) where
  pub held_joined : (pre : List (Tree h × Key)) (post : Post (Tree h)) (l r t : Tree h) (k j : Key)
      → All (SamePage w w') (before_kids list_pages h pre) → All (SamePage w w') (after_kids list_pages h post)
      → All (SameRecord w w') (before_kids list_records h pre) → All (SameRecord w w') (rest_records h post)
      → EveryKid (Held w h) (fill_kids (pre ++ (l, k) ∷ []) post r) (fill_last post r) → Held w' h t
      → EveryKid (Held w' h) (fill_kids pre (rekeyed post j) t) (fill_last (rekeyed post j) t)
  held_joined [] (at_key a cs last) l r t k j u v x y g m = (m, kids_stay w w' h (λ (k : Key). k.places) cs last v y g.1.1)
  held_joined [] at_end l r t k j u v x y g m = m
  held_joined (c ∷ pre) (at_key a cs last) l r t k j u v x y g m =
      let rx = all_right (SameRecord w w') (listed list_records h c.0) _ x in (
        held_frame w w' h c.0 (all_left (SamePage w w') (listed list_pages h c.0) _ u) (all_left (SameRecord w w') (listed list_records h c.0) _ x) g.0,
        held_joined pre (at_key a cs last) l r t k j (all_right (SamePage w w') (listed list_pages h c.0) _ u) v (all_right (SameRecord w w') c.1.places _ rx) y g.1 m,
      )
  held_joined (c ∷ pre) at_end l r t k j u v x y g m =
      let rx = all_right (SameRecord w w') (listed list_records h c.0) _ x in (
        held_frame w w' h c.0 (all_left (SamePage w w') (listed list_pages h c.0) _ u) (all_left (SameRecord w w') (listed list_records h c.0) _ x) g.0,
        held_joined pre at_end l r t k j (all_right (SamePage w w') (listed list_pages h c.0) _ u) v (all_right (SameRecord w w') c.1.places _ rx) y g.1 m,
      )

-- LINKS: two leaves became one
pub linked_one : (p n n₁ r : ℕ) (es xs ys : List Entry) (us vs : List Leaf)
    → T (linked (us ++ leaf_at p n₁ xs ∷ leaf_at r n ys ∷ vs)) → T (linked (us ++ leaf_at p n es ∷ vs))
unfolding linked first_place
linked_one p n n₁ r es xs ys [] vs t = and_right (eqb n₁ r) _ t
linked_one p n n₁ r es xs ys (u ∷ []) vs t =
    and_both (eqb u.next p) _ (and_left (eqb u.next p) _ t) (linked_one p n n₁ r es xs ys [] vs (and_right (eqb u.next p) _ t))
linked_one p n n₁ r es xs ys (u ∷ v ∷ us) vs t =
    and_both (eqb u.next v.place) _ (and_left (eqb u.next v.place) _ t) (linked_one p n n₁ r es xs ys (v ∷ us) vs (and_right (eqb u.next v.place) _ t))

-- PLACES: some that were in use are free
module _ {used : ℕ → Bool} {n : ℕ} {ps : List ℕ} (p : Places used n ps) where
  pub places_less : (used' : ℕ → Bool) (freed qs : List ℕ) → ((x : ℕ) → 1 ≤ x → x ≤ n → cond (used' x) 1 0 + count x freed ≡ cond (used x) 1 0)
      → ((x : ℕ) → count x qs + count x freed ≡ count x ps) → Places used' n qs
  places_less used' freed qs u e = record { once = λ x a b. omega (arith, e x, p.once x a b, u x a b); range = λ x g. p.range x (omega (arith, e x)) }
