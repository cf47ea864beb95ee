-- A part of a tree at any depth: what is listed around it, and what holds of the whole again once it holds of another part at its place.
-- Assumes nothing.
use Prim.Native.Nat.{ℕ, ◌+◌, ◌≤◌}
use mathlib.Core.Path.{◌≡◌, refl, sym, ap, ◌∙◌, subst}
use mathlib.Core.List.{List, [], ◌∷◌, ◌++◌, append-nil, append_assoc}
use lib.ListN.{length}
use native.Mathlib.Omega.{arith}
use Rattle.words.specs.Lists.{All, count}
use Rattle.words.proofs.Listed.{all_left, all_right}
use Rattle.words.proofs.Counted.{count_append}
use Rattle.xrtree.specs.Tree.{Tree, Listing, listed, list_pages, list_records}
use Rattle.xrtree.proofs.Holes.{before_kids, after_kids, keys_left, listed_parts}
use Rattle.holding.specs.Held.{place_of, Held}
use Rattle.holding.proofs.Frames.{SamePage, SameRecord}
use Rattle.holding.proofs.Holes.{every_hole, held_hole}
use Rattle.standing.specs.Stands.{Roomy}
use Rattle.standing.proofs.Child.{every_put, long_fill}
use Rattle.entries.specs.Ways.{Below, within}
use Rattle.entries.specs.Ways.Below.{here, down}

-- ANY LISTING: what comes before the part, and after it
module _ {B : Type 0} (L : Listing B) where
  unfoldable pub ahead : {m h : ℕ} → Below m h → List B
  ahead here = []
  ahead (down {h} q pre post c) = (L.on_page q (length pre + keys_left L post) ++ before_kids L h pre) ++ ahead c

  unfoldable pub behind : {m h : ℕ} → Below m h → List B
  behind here = []
  behind (down {h} q pre post c) = behind c ++ after_kids L h post

  pub listed_within : {m h : ℕ} (c : Below m h) (t : Tree m) → listed L h (within c t) ≡ ahead c ++ (listed L m t ++ behind c)
  unfolding within ahead behind
  listed_within {m} here t = sym (append-nil (listed L m t))
  listed_within {m} (down {h} q pre post c) t =
      listed_parts L 1 h (q, pre, post, tt) (within c t)
      ∙ ap (λ (z : List B). (L.on_page q (length pre + keys_left L post) ++ (before_kids L h pre ++ [])) ++ (z ++ after_kids L h post)) (listed_within c t)
      ∙ simp (append_assoc, append-nil)

-- THE PLACE of the whole
pub place_within : {m h : ℕ} (c : Below m h) (t t' : Tree m) → place_of m t' ≡ place_of m t → place_of h (within c t') ≡ place_of h (within c t)
unfolding within
place_within here t t' e = e
place_within (down q pre post c) t t' e = refl

-- HELD: the part is, and another one at its place makes the whole so
pub record Refill (w w' : List ℕ) {m h : ℕ} (c : Below m h) (t : Tree m) : Type 0 where
  pub part : Held w m t
  pub again : (t' : Tree m) → place_of m t' ≡ place_of m t → Held w' m t' → Held w' h (within c t')

pub held_within : (w w' : List ℕ) {m h : ℕ} (c : Below m h) (t : Tree m)
    → All (SamePage w w') (ahead list_pages c) → All (SamePage w w') (behind list_pages c) → All (SameRecord w w') (ahead list_records c) → All (SameRecord w w') (behind list_records c)
    → Held w h (within c t) → Refill w w' c t
unfolding within ahead behind
held_within w w' here t a b x y g = record { part = g; again = λ t' e n. n }
held_within w w' (down {h} q pre post c) t a b x y g =
    let P = SamePage w w' in
    let R = SameRecord w w' in
    let p = all_left P (q ∷ before_kids list_pages h pre) (ahead list_pages c) a in
    let r = all_left R (before_kids list_records h pre) (ahead list_records c) x in
    let o = held_hole w w' 1 h (q, pre, post, tt) (within c t)
    (p.0, subst (All P) (sym (append-nil (before_kids list_pages h pre))) p.1) (all_right P (behind list_pages c) (after_kids list_pages h post) b)
    (subst (All R) (sym (append-nil (before_kids list_records h pre))) r) (all_right R (behind list_records c) (after_kids list_records h post) y) g in
    let d = held_within w w' c t (all_right P (q ∷ before_kids list_pages h pre) (ahead list_pages c) a) (all_left P (behind list_pages c) (after_kids list_pages h post) b)
    (all_right R (before_kids list_records h pre) (ahead list_records c) x) (all_left R (behind list_records c) (after_kids list_records h post) y) o.here in
    record { part = d.part; again = λ t' e n. o.refill (within c t') (place_within c t t' e) (d.again t' e n) }

-- ROOM
pub roomy_within : {m h : ℕ} (c : Below m h) (t : Tree m) → Roomy h (within c t) → Roomy m t × ((t' : Tree m) → Roomy m t' → Roomy h (within c t'))
unfolding within
roomy_within here t r = (r, (λ t' n. n))
roomy_within (down {h} q pre post c) t r =
    let d = roomy_within c t (every_hole (Roomy h) pre post (within c t) r.1) in
    (d.0, (λ t' n. (subst (λ k. k ≤ 9) (long_fill pre post (within c t) (within c t')) r.0, every_put (Roomy h) pre post (within c t) (within c t') r.1 (d.1 t' n))))

-- counts around a part
pub count_within : (L : Listing ℕ) {m h : ℕ} (c : Below m h) (t : Tree m) (q : ℕ) → count q (listed L h (within c t)) ≡ count q (ahead L c) + count q (listed L m t) + count q (behind L c)
count_within L {m} c t q = ap (count q) (listed_within L c t) ∙ omega (arith, count_append q (ahead L c) (listed L m t ++ behind L c), count_append q (listed L m t) (behind L c))
