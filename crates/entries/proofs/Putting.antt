-- A region comes into the set: its entry into its leaf, and into its owner's list. The rules on plain trees.
-- Assumes nothing.
use Prim.Native.Nat.{ℕ, suc, ◌≤◌, ◌<◌}
use mathlib.Core.Path.{◌≡◌, refl, sym, ap, ap₂, ◌∙◌, subst}
use mathlib.Core.Bool.{Bool, ◌&&◌}
use mathlib.Core.List.{List, ◌∷◌, ◌++◌, map, append_assoc}
use lib.Dec.{ltb, leb}
use lib.ListN.{length, length-append}
use native.Mathlib.Omega.{arith}
use Rattle.words.specs.Lists.{All, Pairs, take_while, drop_while}
use Rattle.words.proofs.Listed.{all_mono, all_left, all_right, all_append, pairs_left, pairs_right_lem, map_append, while_join}
use Rattle.regions.specs.declared.Region.{Region}
use Rattle.xrtree.specs.Tree.{Entry, Key, Tree, listed, region_of, list_regions, regions}
use Rattle.xrtree.specs.Claims.{Over, Fits, Between, Within, In, flag_of}
use Rattle.xrtree.specs.Local.{ListIs, NoLeaf, NoKey, FlagsAre, FirstIs, Part}
use Rattle.xrtree.proofs.Split.{first_of}
use Rattle.xrtree.specs.Moves.{put, own}
use Rattle.xrtree.proofs.Enter.{saved_lists, own_claim}
use Rattle.xrtree.proofs.Saved.{own_regions}
use Rattle.newpages.specs.Pages.{new_entry}
use Rattle.standing.specs.Stands.{top}
use Rattle.entries.specs.Ways.{Below, leaf_on, at_leaf, renew}
use Rattle.entries.specs.Owners.{spot_of, starts_before, put_entry, flag_at}
use Rattle.entries.proofs.Holes.{ahead, behind, listed_within}
use Rattle.entries.proofs.Leafs.{way_of, at_claim}
use Rattle.entries.proofs.Flagged.{on_tree}
use Rattle.entries.proofs.Cuts.{Low, High, NotLow, way_starts, one_cut, taken_low, left_high}

-- what holds of all entries and of the new one
pub all_put : (P : Entry → Type 0) (e : Entry) (es : List Entry) → P e → All P es → All P (put_entry e es)
unfolding put_entry
all_put P e es p a =
    let Q = starts_before e.region.start in
    let b = subst (All P) (sym (while_join Q es)) a in
    all_append P (take_while Q es) (e ∷ drop_while Q es) (all_left P (take_while Q es) (drop_while Q es) b) (p, all_right P (take_while Q es) (drop_while Q es) b)

pub long_put : (e : Entry) (es : List Entry) → length (put_entry e es) ≡ suc (length es)
unfolding put_entry
long_put e es =
    let Q = starts_before e.region.start in
    omega (arith, length-append (take_while Q es) (e ∷ drop_while Q es), length-append (take_while Q es) (drop_while Q es), ap length (while_join Q es))

pub regroup : {A : Type 0} (b x y a : List A) → b ++ ((x ++ y) ++ a) ≡ (b ++ x) ++ (y ++ a)
regroup b x y a = simp append_assoc

-- the leaf's regions, cut at a start
pub leaf_cut : (Q : Entry → Bool) (es : List Entry) → map region_of es ≡ map region_of (take_while Q es) ++ map region_of (drop_while Q es)
leaf_cut Q es = sym (ap (map region_of) (while_join Q es)) ∙ map_append region_of (take_while Q es) (drop_while Q es)

-- the parts of the set before and behind a start, by the leaf's entries and what stands around the leaf
module _ (s h : ℕ) (t : Tree h) (i : In h 0 top t) (us vs : List Region) (is : regions h t ≡ us ++ vs) (o : Pairs Over (us ++ vs)) (low : All (Low s) us) (high : All (NotLow s) vs) where
  abbrev around : Below 0 h
  around = (way_of s h t).around

  abbrev es : List Entry
  es = (leaf_on s h t).entries

  whole_is : ahead list_regions around ++ (map region_of es ++ behind list_regions around) ≡ us ++ vs
  whole_is = sym (ap (regions h) (way_of s h t).was ∙ listed_within list_regions around (leaf_on s h t) ∙ leaf) ∙ is
    where
      leaf : ahead list_regions around ++ (regions 0 (leaf_on s h t) ++ behind list_regions around) ≡ ahead list_regions around ++ (map region_of es ++ behind list_regions around)
      leaf = unfold listed in refl

  sides : All (Low s) (ahead list_regions around) × All (High s) (behind list_regions around)
  sides = way_starts s around (leaf_on s h t) 0 top (way_of s h t).on (subst (In h 0 top) (way_of s h t).was i)

  pub leaf_pairs : Pairs Over (map region_of es)
  leaf_pairs =
      pairs_left Over (map region_of es) (behind list_regions around)
      (pairs_right_lem Over (ahead list_regions around) (map region_of es ++ behind list_regions around) (subst (Pairs Over) (sym whole_is) o))

  pub cut_at : (ahead list_regions around ++ map region_of (take_while (starts_before s) es) ≡ us) × (map region_of (drop_while (starts_before s) es) ++ behind list_regions around ≡ vs)
  cut_at =
      let xs = map region_of (take_while (starts_before s) es) in
      let ys = map region_of (drop_while (starts_before s) es) in
      let e : (ahead list_regions around ++ xs) ++ (ys ++ behind list_regions around) ≡ us ++ vs =
      append_assoc (ahead list_regions around) xs (ys ++ behind list_regions around)
      ∙ ap (λ z. ahead list_regions around ++ z) (sym (append_assoc xs ys (behind list_regions around)) ∙ ap (λ z. z ++ behind list_regions around) (sym (leaf_cut (starts_before s) es)))
      ∙ whole_is in
      one_cut s (ahead list_regions around ++ xs) (ys ++ behind list_regions around) us vs e
      (all_append (Low s) (ahead list_regions around) xs sides.0 (taken_low s es))
      (all_append (NotLow s) ys (behind list_regions around) (left_high s es leaf_pairs) (all_mono (λ r m. omega arith) (behind list_regions around) sides.1))
      low high

  -- other entries in the leaf: the regions of the tree
  pub changed_regions : (g : List Entry → List Entry) → regions h (at_leaf (renew g) s h t) ≡ ahead list_regions around ++ (map region_of (g es) ++ behind list_regions around)
  changed_regions g = ap (regions h) ((way_of s h t).becomes (renew g)) ∙ listed_within list_regions around (renew g (leaf_on s h t)) ∙ leaf
    where
      leaf : ahead list_regions around ++ (regions 0 (renew g (leaf_on s h t)) ++ behind list_regions around) ≡ ahead list_regions around ++ (map region_of (g es) ++ behind list_regions around)
      leaf = unfold listed in refl

module _ (us vs : List Region) (r : Region) (b h : ℕ) (t : Tree h) (part : Part (us ++ vs) h 0 top t) (is : regions h t ≡ us ++ vs) (o : Pairs Over (us ++ vs))
    (low : All (λ (x : Region). x.start < r.start) us) (high : All (λ (x : Region). r.start < x.start) vs) (fits : Fits top r) (flag : b ≡ flag_at (spot_of r.start r.end h t)) where
  abbrev pub entered : Tree h
  entered = at_leaf (renew (put_entry (new_entry r b))) r.start h t

  entered_regions : regions h entered ≡ us ++ r ∷ vs
  entered_regions =
      let s = r.start in
      let e = new_entry r b in
      let high' = all_mono {P = High s} {Q = NotLow s} (λ x l. omega arith) vs high in
      let k = cut_at s h t part.order us vs is o low high' in
      changed_regions s h t part.order us vs is o low high' (put_entry e) ∙ parts (ahead list_regions (way_of s h t).around) (behind list_regions (way_of s h t).around) (leaf_on s h t).entries k.0 k.1
    where
      parts : (B A : List Region) (es : List Entry) → B ++ map region_of (take_while (starts_before r.start) es) ≡ us → map region_of (drop_while (starts_before r.start) es) ++ A ≡ vs
          → B ++ (map region_of (put_entry (new_entry r b) es) ++ A) ≡ us ++ r ∷ vs
      parts B A es p q =
          let Q = starts_before r.start in
          let m : map region_of (put_entry (new_entry r b) es) ≡ map region_of (take_while Q es) ++ r ∷ map region_of (drop_while Q es) = unfold put_entry in map_append region_of (take_while Q es) (new_entry r b ∷ drop_while Q es) in
          ap (λ z. B ++ (z ++ A)) m ∙ regroup B (map region_of (take_while Q es)) (r ∷ map region_of (drop_while Q es)) A ∙ ap₂ (λ x y. x ++ r ∷ y) p q

  module _ (w : Key → List ℕ) where
    pub saved_regions : regions h (own (put r) w r h entered) ≡ us ++ r ∷ vs
    saved_regions = own_regions (put r) w r h entered ∙ entered_regions

    pub saved_part : Part (us ++ r ∷ vs) h 0 top (own (put r) w r h entered)
    saved_part =
        let s = r.start in
        let e = new_entry r b in
        let f = renew (put_entry e) in
        let i : In h 0 top entered = at_claim Between Within f s
        (λ lo hi l x y a. all_put (λ (e : Entry). (lo ≤ suc e.region.start) × (e.region.start < hi)) e l.entries (x, y) a) h 0 top t (omega arith) (omega arith) part.order in
        record {
          order = own_claim Between Within (put r) w r (λ lo hi k v. v) h 0 top entered i;
          lists = saved_lists us vs r w fits.0 low high h 0 top entered (omega arith) fits.1 i
              (at_claim (ListIs (us ++ vs)) NoLeaf f s (λ lo hi l x y a. tt) h 0 top t (omega arith) (omega arith) part.lists);
          flags = own_claim NoKey FlagsAre (put r) w r (λ lo hi k v. v) h 0 top entered
              (on_tree f s r.end b (omega arith)
              (λ lo hi l z a. all_put (λ (e : Entry). e.flag ≡ flag_of (leb lo e.region.start && ltb e.region.end hi)) e l.entries z a)
              h 0 top t part.order (omega arith) fits.1 flag part.flags);
          firsts = own_claim FirstIs NoLeaf (put r) w r (λ lo hi k v. first_of k.key (w k) (put r k.list)) h 0 top entered
              (at_claim FirstIs NoLeaf f s (λ lo hi l x y a. tt) h 0 top t (omega arith) (omega arith) part.firsts);
        }
