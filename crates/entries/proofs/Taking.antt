-- A region leaves the set: its entry its leaf, and its owner's list. The rules on plain trees.
-- Assumes nothing.
use Prim.Native.Nat.{ℕ, suc, ◌≤◌, ◌<◌}
use mathlib.Core.Path.{◌≡◌, refl, sym, ap, ap₂, ◌∙◌, subst}
use mathlib.Core.Bool.{◌&&◌}
use mathlib.Core.List.{List, [], ◌∷◌, ◌++◌, map, head-eq_of_cons-eq, tail-eq_of_cons-eq}
use lib.Dec.{ltb, leb}
use lib.ListN.{length, drop}
use native.Mathlib.Omega.{arith}
use Rattle.words.specs.Lists.{All, Pairs, take_while, drop_while}
use Rattle.words.proofs.Listed.{all_mono, all_left, all_right, all_append, map_append, while_join}
use Rattle.regions.specs.declared.Region.{Region}
use Rattle.xrtree.specs.Tree.{Entry, Key, Tree, region_of, list_regions, regions}
use Rattle.xrtree.specs.Claims.{Over, Fits, Between, Within, In, flag_of}
use Rattle.xrtree.specs.Local.{ListIs, NoLeaf, NoKey, FlagsAre, FirstIs, Part}
use Rattle.xrtree.proofs.Split.{first_of}
use Rattle.xrtree.specs.Moves.{out, own}
use Rattle.xrtree.proofs.Enter.{deleted_lists, own_claim}
use Rattle.xrtree.proofs.Saved.{own_regions}
use Rattle.standing.specs.Stands.{top}
use Rattle.entries.specs.Ways.{leaf_on, at_leaf, renew}
use Rattle.entries.specs.Owners.{starts_before, out_entry}
use Rattle.entries.proofs.Holes.{ahead, behind}
use Rattle.entries.proofs.Leafs.{way_of, at_claim}
use Rattle.entries.proofs.Cuts.{High, NotLow, way_starts}
use Rattle.entries.proofs.Putting.{regroup, cut_at, changed_regions}

pub all_out : (P : Entry → Type 0) (s : ℕ) (es : List Entry) → All P es → All P (out_entry s es)
unfolding out_entry
all_out P s es a =
    let Q = starts_before s in
    let b = subst (All P) (sym (while_join Q es)) a in
    all_append P (take_while Q es) (drop 1 (drop_while Q es)) (all_left P (take_while Q es) (drop_while Q es) b) (less (drop_while Q es) (all_right P (take_while Q es) (drop_while Q es) b))
  where
    less : (xs : List Entry) → All P xs → All P (drop 1 xs)
    less [] a = tt
    less (x ∷ xs) a = a.1

-- THE ENTRY is in the leaf, where the region is in the set
pub record InLeaf (r : Region) (es : List Entry) : Type 0 where
  pub entry : Entry
  pub rest : List Entry
  pub is : drop_while (starts_before r.start) es ≡ entry ∷ rest
  pub region_is : entry.region ≡ r

module _ (us vs : List Region) (r : Region) (h : ℕ) (t : Tree h) (part : Part (us ++ r ∷ vs) h 0 top t) (is : regions h t ≡ us ++ r ∷ vs) (o : Pairs Over (us ++ r ∷ vs))
    (low : All (λ (x : Region). x.start < r.start) us) (high : All (λ (x : Region). r.start < x.start) vs) (fits : Fits top r) where
  abbrev s : ℕ
  s = r.start

  abbrev es : List Entry
  es = (leaf_on s h t).entries

  from : All (NotLow s) (r ∷ vs)
  from = (omega arith, all_mono {P = High s} {Q = NotLow s} (λ x l. omega arith) vs high)

  cut : (ahead list_regions (way_of s h t).around ++ map region_of (take_while (starts_before s) es) ≡ us) × (map region_of (drop_while (starts_before s) es) ++ behind list_regions (way_of s h t).around ≡ r ∷ vs)
  cut = cut_at s h t part.order us (r ∷ vs) is o low from

  behind_high : All (High s) (behind list_regions (way_of s h t).around)
  behind_high = (way_starts s (way_of s h t).around (leaf_on s h t) 0 top (way_of s h t).on (subst (In h 0 top) (way_of s h t).was part.order)).1

  pub in_leaf : InLeaf r es
  in_leaf = go (drop_while (starts_before s) es) refl cut.1 (behind list_regions (way_of s h t).around) refl behind_high
    where
      go : (ds : List Entry) → drop_while (starts_before s) es ≡ ds → map region_of (drop_while (starts_before s) es) ++ behind list_regions (way_of s h t).around ≡ r ∷ vs
          → (A : List Region) → behind list_regions (way_of s h t).around ≡ A → All (High s) (behind list_regions (way_of s h t).around) → InLeaf r es
      go (e ∷ rest) d k A b l = record { entry = e; rest = rest; is = d; region_is = head-eq_of_cons-eq (sym (ap (λ z. map region_of z ++ behind list_regions (way_of s h t).around) d) ∙ k) }
      go [] d k [] b l = absurd (empty (sym (ap₂ (λ x y. map region_of x ++ y) d b) ∙ k))
        where
          empty : [] ≡ r ∷ vs → ⊥
          empty e = omega (arith, ap length e)
      go [] d k (x ∷ A) b l =
          let u : x ≡ r = head-eq_of_cons-eq (sym (ap₂ (λ x y. map region_of x ++ y) d b) ∙ k) in
          let v : All (High s) (x ∷ A) = subst (All (High s)) b l in
          absurd (omega (arith, v.0, ap (λ (r : Region). r.start) u))

  abbrev pub left : Tree h
  left = at_leaf (renew (out_entry s)) s h t

  left_regions : regions h left ≡ us ++ vs
  left_regions =
      changed_regions s h t part.order us (r ∷ vs) is o low from (out_entry s)
      ∙ parts (ahead list_regions (way_of s h t).around) (behind list_regions (way_of s h t).around) es in_leaf cut.0 cut.1
    where
      parts : (B A : List Region) (es : List Entry) → InLeaf r es → B ++ map region_of (take_while (starts_before s) es) ≡ us → map region_of (drop_while (starts_before s) es) ++ A ≡ r ∷ vs
          → B ++ (map region_of (out_entry s es) ++ A) ≡ us ++ vs
      parts B A es n p q =
          let Q = starts_before s in
          let m : map region_of (out_entry s es) ≡ map region_of (take_while Q es) ++ map region_of n.rest =
          unfold out_entry in ap (λ z. map region_of (take_while Q es ++ drop 1 z)) n.is ∙ map_append region_of (take_while Q es) n.rest in
          let v : map region_of n.rest ++ A ≡ vs = tail-eq_of_cons-eq (sym (ap (λ z. map region_of z ++ A) n.is) ∙ q) in
          ap (λ z. B ++ (z ++ A)) m ∙ regroup B (map region_of (take_while Q es)) (map region_of n.rest) A ∙ ap₂ ◌++◌ p v

  module _ (w : Key → List ℕ) where
    pub deleted_regions : regions h (own (out s) w r h left) ≡ us ++ vs
    deleted_regions = own_regions (out s) w r h left ∙ left_regions

    pub deleted_part : Part (us ++ vs) h 0 top (own (out s) w r h left)
    deleted_part =
        let f = renew (out_entry s) in
        let i : In h 0 top left = at_claim Between Within f s
        (λ lo hi l x y a. all_out (λ (e : Entry). (lo ≤ suc e.region.start) × (e.region.start < hi)) s l.entries a) h 0 top t (omega arith) (omega arith) part.order in
        record {
          order = own_claim Between Within (out s) w r (λ lo hi k v. v) h 0 top left i;
          lists = deleted_lists us vs r w fits.0 low high h 0 top left (omega arith) fits.1 i
              (at_claim (ListIs (us ++ r ∷ vs)) NoLeaf f s (λ lo hi l x y a. tt) h 0 top t (omega arith) (omega arith) part.lists);
          flags = own_claim NoKey FlagsAre (out s) w r (λ lo hi k v. v) h 0 top left
              (at_claim NoKey FlagsAre f s (λ lo hi l x y a. all_out (λ (e : Entry). e.flag ≡ flag_of (leb lo e.region.start && ltb e.region.end hi)) s l.entries a)
              h 0 top t (omega arith) (omega arith) part.flags);
          firsts = own_claim FirstIs NoLeaf (out s) w r (λ lo hi k v. first_of k.key (w k) (out s k.list)) h 0 top left
              (at_claim FirstIs NoLeaf f s (λ lo hi l x y a. tt) h 0 top t (omega arith) (omega arith) part.firsts);
        }
