-- Document 01, "A valid image": the rules on the tree, in its order. (D4.n: point n of Definition 4 of the source.)
-- Assumes nothing.
use Rattle.std.specs.Prelude.{ℕ, zero, suc, ◌-◌, Bool, true, false, ◌&&◌, not, cond, List, [], ◌∷◌, ◌++◌, leb, ltb, eqb, length}
use Rattle.words.specs.Lists.{filter, all, all_pairs, count, sum}
use Rattle.regions.specs.Limits.{account_count, most_regions}
use Rattle.regions.specs.Positions.{well_formed, nested, leveled, stabs}
use Rattle.regions.specs.Sets.{Set, held_by, share_of}
use Rattle.regions.specs.declared.Region.{Region}
use Rattle.xrtree.specs.Tree.{Entry, Key, Leaf, Tree, Item, regions, keys_of, leaves, items, keys_in, stab_list, all_kids}
use Rattle.xrtree.specs.Tree.Item.{start, key}

-- RULE 1 (D4.1, D4.2, D4.7): leaves at one depth, as the tree's form has them; linked left to right; starts ascending; fills
abbrev pub within : ℕ → ℕ → ℕ → Bool
within least most n = leb least n && leb n most

unfoldable pub filled_below : (h : ℕ) → Tree h → Bool
filled_below zero t = within 4 8 (length t.entries)
filled_below (suc h) t = within 4 8 (length t.kids) && all_kids (filled_below h) t.kids t.last

-- of the root
unfoldable pub filled : (h : ℕ) → Tree h → Bool
filled zero t = within 0 8 (length t.entries)
filled (suc h) t = within 1 8 (length t.kids) && all_kids (filled_below h) t.kids t.last

unfoldable pub first_place : List Leaf → ℕ
first_place [] = 0
first_place (l ∷ ls) = l.place

unfoldable pub linked : List Leaf → Bool
linked [] = true
linked (l ∷ ls) = eqb l.next (first_place ls) && linked ls

unfoldable pub starts_first : Region → Region → Bool
starts_first x y = ltb x.start y.start

unfoldable pub rule1 : (h : ℕ) → Tree h → Bool
rule1 h t = filled h t && (linked (leaves h t) && all_pairs starts_first (regions h t))

-- RULE 2 (D4.3): a key separates. What stands left of it starts before it, what stands right of it does not
unfoldable pub separates : Item → Item → Bool
separates (start a) (start b) = true
separates (start a) (key k) = ltb a k
separates (key k) (start b) = leb k b
separates (key k) (key l) = true

unfoldable pub rule2 : (h : ℕ) → Tree h → Bool
rule2 h t = all_pairs separates (items h t)

-- (any such key will do. A split takes the one right before the second leaf's first start, unless an entry of the first leaf starts there: fewer regions are stabbed then. Otherwise it takes that first start)
unfoldable pub key_between : ℕ → ℕ → ℕ
key_between last first = cond (ltb last (first - 1)) (first - 1) first

-- RULE 3 (D4.4, D4.6): a page's stab list holds the regions of the set that some key of the page stabs and no key of a page above; a leaf flag says whether any key stabs
unfoldable pub none_stabs : List ℕ → Region → Bool
none_stabs ks r = all (λ k. not (stabs k r)) ks

unfoldable pub same_region : Region → Region → Bool
same_region x y = eqb x.start y.start && (eqb x.end y.end && (eqb x.level y.level && eqb x.reference y.reference))

unfoldable pub same_regions : List Region → List Region → Bool
same_regions [] [] = true
same_regions [] (y ∷ ys) = false
same_regions (x ∷ xs) [] = false
same_regions (x ∷ xs) (y ∷ ys) = same_region x y && same_regions xs ys

abbrev pub topmost : List ℕ → List ℕ → Region → Bool
topmost above ks r = not (none_stabs ks r) && none_stabs above r

unfoldable pub page_lists : List Region → List ℕ → (h : ℕ) → Tree h → Bool
page_lists rs above zero t = true
page_lists rs above (suc h) t =
    same_regions (stab_list t.kids) (filter (topmost above (keys_in t.kids)) rs) &&
    all_kids (page_lists rs (keys_in t.kids ++ above) h) t.kids t.last

abbrev pub flag_right : List ℕ → Entry → Bool
flag_right ks e = eqb e.flag (cond (none_stabs ks e.region) 0 1)

unfoldable pub flagged : List ℕ → List Leaf → Bool
flagged ks ls = all (λ (l : Leaf). all (flag_right ks) l.entries) ls

unfoldable pub rule3 : (h : ℕ) → Tree h → Bool
rule3 h t = page_lists (regions h t) [] h t && flagged (keys_of h t) (leaves h t)

-- RULE 4 (D4.5, Definition 2): a key's own list holds those of the page's stab list that it is the smallest key of the page to stab. (Ascending starts: outermost first)
abbrev pub primary : List ℕ → ℕ → Region → Bool
primary earlier k r = stabs k r && none_stabs earlier r

module _ {A : Type 0} where
  unfoldable pub own_lists : List Region → List ℕ → List (A × Key) → Bool
  own_lists page earlier [] = true
  own_lists page earlier (c ∷ cs) =
      same_regions c.1.list (filter (primary earlier c.1.key) page) && own_lists page (c.1.key ∷ earlier) cs

unfoldable pub rule4 : (h : ℕ) → Tree h → Bool
rule4 zero t = true
rule4 (suc h) t = own_lists (stab_list t.kids) [] t.kids && all_kids (rule4 h) t.kids t.last

-- RULE 5 (Definition 3): a key's stored pair repeats the two positions of the region at the head of its list; two zeros say that there is none
unfoldable pub pair_right : Key → List Region → Bool
pair_right k [] = eqb k.pair_start 0 && eqb k.pair_end 0
pair_right k (r ∷ rs) = eqb k.pair_start r.start && eqb k.pair_end r.end

module _ {A : Type 0} where
  unfoldable pub pairs_right : List (A × Key) → Bool
  pairs_right [] = true
  pairs_right (c ∷ cs) = pair_right c.1 c.1.list && pairs_right cs

unfoldable pub rule5 : (h : ℕ) → Tree h → Bool
rule5 zero t = true
rule5 (suc h) t = pairs_right t.kids && all_kids (rule5 h) t.kids t.last

-- RULE 6: of the set: every region well formed, every two nested rightly and leveled as they nest (change request C-15), each account within its share, and the shares within 500 together
unfoldable pub shares_kept : ℕ → Set → Bool
shares_kept zero S = true
shares_kept (suc a) S = leb (held_by a S) (share_of a S) && shares_kept a S

unfoldable pub rule6 : Set → Bool
rule6 S =
    all well_formed S.regions &&
    (all_pairs nested S.regions && (all_pairs leveled S.regions && (shares_kept account_count S && leb (sum S.shares) most_regions)))

-- RULE 7: of the places 1 to n, those in use are listed once and the others not at all; no other place is listed
unfoldable pub once_or_free : (ℕ → Bool) → ℕ → List ℕ → Bool
once_or_free used zero ps = true
once_or_free used (suc n) ps = eqb (count (suc n) ps) (cond (used (suc n)) 1 0) && once_or_free used n ps

unfoldable pub placed : (ℕ → Bool) → ℕ → List ℕ → Bool
placed used n ps = all (within 1 n) ps && once_or_free used n ps
