-- Demand 2 of a search: from the call's own record, where its number is 0, the regions listed are exactly those meant, each once, in order; a parent is the one that there is; and a join by
-- parent and child pairs no inner region twice.
-- Assumes nothing.
use Prim.Native.Nat.{ℕ, ◌+◌, ◌<◌, ◌≤◌}
use mathlib.Core.Path.{◌≡◌, refl, sym, ap, ◌∙◌, subst}
use mathlib.Core.Logic.{◌↔◌, inl, inr}
use mathlib.Core.Bool.{Bool, ◌&&◌}
use mathlib.Core.List.{List, [], ◌∷◌}
use lib.Dec.{T}
use lib.ListN.{length}
use native.Mathlib.Omega.{arith}
use Rattle.std.specs.Prelude.{Option, Result}
use Rattle.words.specs.Lists.{filter, Pairs, In}
use Rattle.words.proofs.Tests.{T_of, and_left, and_right}
use Rattle.words.proofs.Listed.{pairs_mono, pairs_kept, in_kept, in_let, in_filter}
use Rattle.words.proofs.Says.{Says, and_says, lt_says, le_says, true_so, so_true}
use Rattle.regions.specs.Numbers.{image_first}
use Rattle.regions.specs.Refusals.{number_told}
use Rattle.regions.specs.declared.Refusal.{Refusal}
use Rattle.regions.specs.declared.Region.{Region}
use Rattle.regions.specs.declared.Choice.{Choice}
use Rattle.regions.specs.declared.Choice.TheVariants.{Strict, WithSelf}
use Rattle.regions.specs.Positions.{spans, holds, inside, is_above, is_below}
use Rattle.regions.specs.Sets.{Set, held_by, starts_behind}
use Rattle.regions.specs.Limits.{region_width, pair_width}
use Rattle.regions.specs.Calls.{region_words, written, count_written, more_remain, point_no, bounds_no, ancestors, parent, descendants, children, pair_words, join_no, joined}
use Rattle.regions.specs.declared.Kind.TheVariants.{Parent as ByParent, AncestorOrSelf as OrSelf}
use Rattle.regions.specs.Sound.{Rising, Nesting, EachWithItself, OneParentEach}
use Rattle.regions.proofs.Means.{inside_says, above_says, below_says, behind_says, contains_says}
use Rattle.regions.proofs.Chain.{ancestors_inward}
use Rattle.regions.proofs.Parents.{parents_few}
use Rattle.image.specs.Read.{set_of}
use Rattle.image.specs.Valid.{valid}
use Rattle.image.proofs.Sound.{set_rises, set_nests, set_leveled, valid_with_itself, valid_one_parent_each}
use Rattle.queries.specs.Searches.{FindsAncestors, parent_found, FindsParent, FindsDescendants, FindsChildren}
use Rattle.queries.specs.Joins.{JoinsSets}
use Rattle.regions.proofs.Numbers.{image_right}
use Rattle.runs.specs.Exact.{AncestorOf, ParentOf, DescendantIn, ChildIn, OuterFirst, SoonerFirst, Exactly, TheOne}

-- A FILTER lists what passes its test; of regions that ascend each is another one
pub filtered : (p : Region → Bool) (M : Region → Type 0) (rs : List Region) → ((r : Region) → Says (p r) (M r)) → (r : Region) → In r (filter p rs) ↔ (In r rs × M r)
filtered p M rs s r = ((λ h. (in_kept p r rs h, true_so (s r) (in_let p r rs h))), (λ h. in_filter p r rs h.0 (so_true (s r) h.1)))

pub apart : (rs : List Region) → Rising rs → Pairs (λ x y. x ≡ y → ⊥) rs
apart rs up = pairs_mono (λ x y l e. let z = ap (λ (r : Region). r.start) e in omega arith) rs up

-- ANCESTORS
meant_says : (ch : Choice) (p : ℕ) (r : Region) → Says (holds ch p r) (AncestorOf ch p r)
unfolding spans holds
meant_says Strict p r = and_says (lt_says r.start p) (lt_says p r.end)
meant_says WithSelf p r = and_says (le_says r.start p) (lt_says p r.end)

pub ancestors_exactly : (S : Set) (ch : Choice) (p : ℕ) → Rising S.regions → Nesting S.regions → Exactly S (AncestorOf ch p) OuterFirst (ancestors ch p S)
ancestors_exactly S ch p up nest =
    record {
      those_meant = filtered (holds ch p) (AncestorOf ch p) S.regions (meant_says ch p);
      each_once = apart (ancestors ch p S) (pairs_kept (λ x y. x.start < y.start) (holds ch p) S.regions up);
      in_order = pairs_mono (λ x y h. true_so (contains_says x y) h) (ancestors ch p S) (ancestors_inward S ch p up nest);
    }

-- DESCENDANTS and CHILDREN: filters of filters
pub bounds_meant : (S : Set) (s e after : ℕ) (r : Region) → In r (descendants s e after S) ↔ (In r S.regions × DescendantIn s e after r)
bounds_meant S s e after r = (
  (λ h.
      let f = (filtered (starts_behind after) (λ x. after < x.start) (filter (inside s e) S.regions) (behind_says after) r).0 h in
      let g = (filtered (inside s e) (λ x. (s < x.start) × (x.start < e)) S.regions (inside_says s e) r).0 f.0 in
      (g.0, (g.1.0, g.1.1, f.1))),
  (λ h.
      (filtered (starts_behind after) (λ x. after < x.start) (filter (inside s e) S.regions) (behind_says after) r).1
      ((filtered (inside s e) (λ x. (s < x.start) × (x.start < e)) S.regions (inside_says s e) r).1 (h.0, (h.1.0, h.1.1)), h.1.2)),
)

pub descendants_rise : (S : Set) (s e after : ℕ) → Rising S.regions → Rising (descendants s e after S)
descendants_rise S s e after up =
    pairs_kept (λ x y. x.start < y.start) (starts_behind after) (filter (inside s e) S.regions) (pairs_kept (λ x y. x.start < y.start) (inside s e) S.regions up)

pub descendants_exactly : (S : Set) (s e after : ℕ) → Rising S.regions → Exactly S (DescendantIn s e after) SoonerFirst (descendants s e after S)
descendants_exactly S s e after up =
    let rise = descendants_rise S s e after up in
    record { those_meant = bounds_meant S s e after; each_once = apart (descendants s e after S) rise; in_order = rise }

pub children_exactly : (S : Set) (s e l after : ℕ) → Rising S.regions → Exactly S (ChildIn s e l after) SoonerFirst (children s e l after S)
children_exactly S s e l after up =
    let rise = pairs_kept (λ x y. x.start < y.start) (is_below l) (descendants s e after S) (descendants_rise S s e after up) in
    record { those_meant = meant; each_once = apart (children s e l after S) rise; in_order = rise }
  where
    meant : (r : Region) → In r (children s e l after S) ↔ (In r S.regions × ChildIn s e l after r)
    meant r =
        let f = filtered (is_below l) (λ x. x.level ≡ l + 1) (descendants s e after S) (below_says l) r in
        let g = bounds_meant S s e after r in
        ((λ h. let k = f.0 h in let m = g.0 k.0 in (m.0, (m.1, k.1))), (λ h. f.1 (g.1 (h.0, h.1.0), h.1.1)))

-- THE CALLS. A number 0 says that the image is valid
module _ (w : List ℕ) (n : ℕ) (z : n ≡ 0) where
  pub image_valid : (own : ℕ) → n ≡ image_first (valid w) own → T (valid w)
  image_valid own e = T_of (image_right (valid w) own (sym z ∙ e))

  -- all of them are counted, and as many as fit are written, from the first on
  pub ancestors_listed : (a p : ℕ) (ch : Choice) (out out' : List ℕ) (total made : ℕ) → FindsAncestors w a p ch out n total made out'
      → (rs : List Region) × Exactly (set_of w) (AncestorOf ch p) OuterFirst rs × (total ≡ length rs) × (out' ≡ written region_words region_width out rs)
  ancestors_listed a p ch out out' total made f =
      let v = image_valid (point_no a p) f.number_is in
      (ancestors ch p (set_of w), ancestors_exactly (set_of w) ch p (set_rises w v) (set_nests w v), (f.done z).0, (f.done z).2)

  -- those that fit are counted and written, and whether more remain is told
  pub descendants_listed : (a s e after : ℕ) (out out' : List ℕ) (count : ℕ) (more : Bool) → FindsDescendants w a s e after out n count more out'
      → (rs : List Region) × Exactly (set_of w) (DescendantIn s e after) SoonerFirst rs
      × (count ≡ count_written region_width out rs) × (more ≡ more_remain region_width out rs) × (out' ≡ written region_words region_width out rs)
  descendants_listed a s e after out out' count more f =
      let v = image_valid (bounds_no a s e) f.number_is in
      (descendants s e after (set_of w), descendants_exactly (set_of w) s e after (set_rises w v), (f.done z).0, (f.done z).1, (f.done z).2)

  pub children_listed : (a s e l after : ℕ) (out out' : List ℕ) (count : ℕ) (more : Bool) → FindsChildren w a s e l after out n count more out'
      → (rs : List Region) × Exactly (set_of w) (ChildIn s e l after) SoonerFirst rs
      × (count ≡ count_written region_width out rs) × (more ≡ more_remain region_width out rs) × (out' ≡ written region_words region_width out rs)
  children_listed a s e l after out out' count more f =
      let v = image_valid (bounds_no a s e) f.number_is in
      (children s e l after (set_of w), children_exactly (set_of w) s e l after (set_rises w v), (f.done z).0, (f.done z).1, (f.done z).2)

-- PARENT
pub parents : (S : Set) (p l : ℕ) (r : Region) → In r (parent p l S) ↔ (In r S.regions × ParentOf p l r)
parents S p l r =
    let f = filtered (is_above l) (λ x. x.level + 1 ≡ l) (ancestors Strict p S) (above_says l) r in
    let g = filtered (holds Strict p) (AncestorOf Strict p) S.regions (meant_says Strict p) r in
    ((λ h. let k = f.0 h in let m = g.0 k.0 in (m.0, (m.1, k.1))), (λ h. f.1 (g.1 (h.0, h.1.0), h.1.1)))

-- a list of one has no other
only_one : (x r : Region) → In x (r ∷ []) → x ≡ r
only_one x r (inl e) = e
only_one x r (inr h) = elim h [ ]

pub the_parent : (S : Set) (p l : ℕ) (r : Region) → parent p l S ≡ r ∷ [] → TheOne S (ParentOf p l) r
the_parent S p l r e =
    let m = (parents S p l r).0 (subst (λ rs. In r rs) (sym e) (inl refl)) in
    record { held = m.0; meant = m.1; no_other = λ x h k. only_one x r (subst (λ rs. In x rs) e ((parents S p l x).1 (h, k))) }

pub no_parent : (S : Set) (p l : ℕ) → parent p l S ≡ [] → (r : Region) → In r S.regions → ParentOf p l r → ⊥
no_parent S p l e r h k = subst (λ rs. In r rs) e ((parents S p l r).1 (h, k))

-- none where the set has none, else the one that it has
pub parent_found_lem : (w : List ℕ) (a p l : ℕ) (x : Result (Option Region) Refusal) → FindsParent w a p l x → number_told x ≡ 0
    → (parent_found x ≡ [] → (r : Region) → In r (set_of w).regions → ParentOf p l r → ⊥)
    × ((r : Region) → parent_found x ≡ r ∷ [] → TheOne (set_of w) (ParentOf p l) r)
parent_found_lem w a p l x f z = ((λ e. no_parent (set_of w) p l (sym (f.done z) ∙ e)), (λ r e. the_parent (set_of w) p l r (sym (f.done z) ∙ e)))

-- ONE IMAGE LENT AS BOTH SETS, BY ANCESTOR OR SELF: of the list, all of which is counted and of which as many as fit are written, each region's own pairs end with the one with itself
pub selves_joined : (w : List ℕ) (a : ℕ) (out out' : List ℕ) (n total : ℕ) → JoinsSets w w a OrSelf out n total out' → n ≡ 0
    → let ps = joined (set_of w) (set_of w) a OrSelf in
    EachWithItself (set_of w) a × (total ≡ length ps) × (out' ≡ written pair_words pair_width out ps)
selves_joined w a out out' n total f z =
    let v = T_of (image_right (valid w && valid w) (join_no a) (sym z ∙ f.number_is)) in
    (valid_with_itself w (and_left (valid w) _ v) a, (f.done z).0, (f.done z).1)

-- THE JOIN BY PARENT AND CHILD: its list, all of which is counted and of which as many as fit are written, pairs no inner region twice; so there are no more pairs than the account has inner
-- regions
pub parents_joined : (outer inner : List ℕ) (a : ℕ) (out out' : List ℕ) (n total : ℕ) → JoinsSets outer inner a ByParent out n total out' → n ≡ 0
    → let ps = joined (set_of outer) (set_of inner) a ByParent in
    OneParentEach (set_of outer) (set_of inner) a × (total ≡ length ps) × (out' ≡ written pair_words pair_width out ps) × (total ≤ held_by a (set_of inner))
parents_joined outer inner a out out' n total f z =
    let both = T_of (image_right (valid outer && valid inner) (join_no a) (sym z ∙ f.number_is)) in
    let u = and_left (valid outer) (valid inner) both in
    let v = and_right (valid outer) (valid inner) both in
    let e = (f.done z).0 in (
      valid_one_parent_each outer inner u v a,
      e,
      (f.done z).1,
      omega (arith, parents_few (set_of outer) (set_rises outer u) (set_nests outer u) (set_leveled outer u) a (set_of inner)),
    )
