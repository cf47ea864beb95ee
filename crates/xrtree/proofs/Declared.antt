-- THE DECLARED RULES ⟺ GOOD: rules 2 to 5 as document 01 words them, and the form with boxes and bounds behind all laws, are the same under rules 1 and 6.
-- Rules 3 and 4 declare the lists in two steps (the page's stab list, and each key's part of it); `page_lists_lem` joins them for one page.
-- Assumes nothing.
use Prim.Native.Nat.{ℕ, zero, suc, ◌≤◌}
use mathlib.Core.Path.{◌≡◌, refl, sym, ap, ap₂, ◌∙◌, subst}
use mathlib.Core.Bool.{Bool, true, false, ◌&&◌, not}
use mathlib.Core.Logic.{◌↔◌}
use mathlib.Core.List.{List, [], ◌∷◌, ◌++◌}
use lib.Dec.{T}
use native.Mathlib.Omega.{arith}
use Rattle.words.specs.Lists.{filter, all, All, Pairs}
use Rattle.words.proofs.Tests.{T_of, by_test, and_left, and_right, and_both, and_comm, and_false, and_true}
use Rattle.words.proofs.Listed.{all_every, filter_same, filter_filter, filter_never, pairs_filter, begins, rests, while_join, all_test_append}
use Rattle.words.proofs.Says.{Says, always, says_iff, and_says, eq_says, all_says}
use Rattle.regions.specs.Positions.{stabs}
use Rattle.regions.specs.declared.Region.{Region}
use Rattle.xrtree.specs.Tree.{Entry, Key, Leaf, Tree, weave, listed, leaves, keys_in, stab_list, all_kids}
use Rattle.xrtree.specs.Tree.Item.{start}
use Rattle.xrtree.specs.Rules.{none_stabs, same_region, same_regions, topmost, primary, page_lists, own_lists, pair_right, pairs_right, flag_right, flagged, rule4, rule5}
use Rattle.xrtree.specs.Claims.{InKids, In, held_here, ListsIn, Kids, Lists, pair_is, PairsIn, Firsts, flag_of, Flags}
use Rattle.xrtree.proofs.Box.{of_stabs, to_stabs}
use Rattle.xrtree.proofs.Local.{keys_above}
use Rattle.xrtree.proofs.Order.{Rising}

-- THE SAME REGION, the same regions
pub same_says : (x y : Region) → Says (same_region x y) (x ≡ y)
unfolding same_region
same_says x y =
    let w = and_says (eq_says x.start y.start) (and_says (eq_says x.end y.end) (and_says (eq_says x.level y.level) (eq_says x.reference y.reference))) in
    record {
      yes_so = λ t. joined (w.yes_so t);
      so_yes = λ e. w.so_yes (ap (λ (z : Region). z.start) e, (ap (λ (z : Region). z.end) e, (ap (λ (z : Region). z.level) e, ap (λ (z : Region). z.reference) e)));
    }
  where
    joined : (x.start ≡ y.start) × ((x.end ≡ y.end) × ((x.level ≡ y.level) × (x.reference ≡ y.reference))) → x ≡ y
    joined m = λ i. record { start = m.0 i; end = m.1.0 i; level = m.1.1.0 i; reference = m.1.1.1 i }

pub sames_say : (xs ys : List Region) → Says (same_regions xs ys) (xs ≡ ys)
unfolding same_regions
sames_say [] [] = record { yes_so = λ t. refl; so_yes = λ e. tt }
sames_say [] (y ∷ ys) = record { yes_so = λ t. absurd t; so_yes = λ e. let z : ◌≡◌ {A = ℕ} 0 1 = cc in absurd (omega arith) }
sames_say (x ∷ xs) [] = record { yes_so = λ t. absurd t; so_yes = λ e. let z : ◌≡◌ {A = ℕ} 0 1 = cc in absurd (omega arith) }
sames_say (x ∷ xs) (y ∷ ys) =
    let w = and_says (same_says x y) (sames_say xs ys) in
    record { yes_so = λ t. ap₂ ◌∷◌ (w.yes_so t).0 (w.yes_so t).1; so_yes = λ e. let p : x ≡ y = cc in let q : xs ≡ ys = cc in w.so_yes (p, q) }

-- ONE PAGE. A key that stabs is one of the keys that do
some_first : (s n : Bool) → T s → T (not (not s && n))
some_first true n h = tt
some_first false n h = absurd h

some_later : (s n : Bool) → T (not n) → T (not (not s && n))
some_later true n h = tt
some_later false n h = h

mine : (a b s e : Bool) → (T s → T a) → ((a && b) && (s && e)) ≡ (s && (e && b))
mine true b true e f = and_comm b e
mine true true false e f = refl
mine true false false e f = refl
mine false b true e f = absurd (f tt)
mine false b false e f = refl

-- a key's part of the page's stab list
own_part : (above ks earlier : List ℕ) (k : ℕ) → ((r : Region) → T (stabs k r) → T (not (none_stabs ks r))) → (rs : List Region)
    → filter (primary earlier k) (filter (topmost above ks) rs) ≡ filter (held_here above earlier k) rs
own_part above ks earlier k f rs =
    filter_filter (topmost above ks) (primary earlier k) rs
    ∙ filter_same (λ r. topmost above ks r && primary earlier k r) (held_here above earlier k) rs
    (all_every (λ r. mine (not (none_stabs ks r)) (none_stabs above r) (stabs k r) (none_stabs earlier r) (f r)) rs)

module _ {A : Type 0} (rs S : List Region) (above ks : List ℕ) (e : S ≡ filter (topmost above ks) rs) where
  own_says : (earlier : List ℕ) (cs : List (A × Key)) → ((r : Region) → T (not (none_stabs (keys_in cs) r)) → T (not (none_stabs ks r)))
      → Says (own_lists S earlier cs) (ListsIn rs above earlier cs)
  unfolding own_lists keys_in none_stabs all
  own_says earlier [] f = always
  own_says earlier (c ∷ cs) f =
      let k = c.1.key in
      let q : filter (primary earlier k) S ≡ filter (held_here above earlier k) rs =
      ap (filter (primary earlier k)) e ∙ own_part above ks earlier k (λ r h. f r (some_first (stabs k r) _ h)) rs in
      and_says (says_iff (sames_say c.1.list (filter (primary earlier k) S)) (λ d. d ∙ q) (λ d. d ∙ sym q))
      (own_says (k ∷ earlier) cs (λ r h. f r (some_later (stabs k r) _ h)))

-- what some key from k on stabs ends at k or later
late : (k : ℕ) (ks : List ℕ) (r : Region) → All (λ j. k ≤ j) ks → T (not (none_stabs ks r)) → k ≤ r.end
unfolding none_stabs all
late k [] r a h = absurd h
late k (j ∷ js) r a h =
    by_test (stabs j r)
    (λ t. let s = of_stabs j r (T_of t) in omega (arith, a.0))
    (λ t. late k js r a.1 (subst (λ b. T (not (not b && none_stabs js r))) t h))

first_of_two : (s n g : Bool) → ((not (not s && n) && g) && s) ≡ (s && g)
first_of_two true n g = and_true g
first_of_two false true g = refl
first_of_two false false true = refl
first_of_two false false false = refl

second_of_two : (s n e a : Bool) → ((not (not s && n) && (e && a)) && not s) ≡ (not n && ((not s && e) && a))
second_of_two true true e a = and_false (e && a)
second_of_two true false e a = and_false (e && a)
second_of_two false true e a = refl
second_of_two false false e a = and_true (e && a)

-- the page's stab list is its keys' lists, one after the other: a later key's regions start later
module _ {A : Type 0} (R : ℕ → ℕ → A → Type 0) (rs : List Region) (o : Rising rs) (above : List ℕ) where
  abbrev any_here : List ℕ → List ℕ → Region → Bool
  any_here ks earlier r = not (none_stabs ks r) && (none_stabs earlier r && none_stabs above r)

  stab_list_lem : (lo hi : ℕ) (earlier : List ℕ) (cs : List (A × Key)) (last : A) → InKids R lo hi cs last → ListsIn rs above earlier cs
      → stab_list cs ≡ filter (any_here (keys_in cs) earlier) rs
  unfolding stab_list keys_in none_stabs all
  stab_list_lem lo hi earlier [] last i l = sym (filter_never (λ (r : Region). false) (λ r h. h) rs)
  stab_list_lem lo hi earlier (c ∷ cs) last i l =
      let k = c.1.key in
      let P : (Region → Bool) = any_here (k ∷ keys_in cs) earlier in
      let w : Pairs (λ x y. T (stabs k y) → T (stabs k x)) (filter P rs) =
      pairs_filter P (λ x y p q v h.
      let s = of_stabs k y h in
      let b = late k (k ∷ keys_in cs) x (omega arith, keys_above R k (suc k) hi cs last (omega arith) i.2) (and_left (not (none_stabs (k ∷ keys_in cs) x)) _ p) in
      to_stabs k x (omega arith)) rs o in
      ap₂ ◌++◌ l.0 (stab_list_lem (suc k) hi (k ∷ earlier) cs last i.2 l.1)
      ∙ sym (sym (while_join (stabs k) (filter P rs))
      ∙ ap₂ ◌++◌
      (begins (stabs k) (filter P rs) w ∙ filter_filter P (stabs k) rs
      ∙ filter_same _ (held_here above earlier k) rs (all_every (λ r. first_of_two (stabs k r) (none_stabs (keys_in cs) r) (none_stabs earlier r && none_stabs above r)) rs))
      (rests (stabs k) (filter P rs) w ∙ filter_filter P (λ r. not (stabs k r)) rs
      ∙ filter_same _ (any_here (keys_in cs) (k ∷ earlier)) rs (all_every (λ r. second_of_two (stabs k r) (none_stabs (keys_in cs) r) (none_stabs earlier r) (none_stabs above r)) rs)))

  -- THE LISTS OF ONE PAGE: both declarations ⟺ each key's list by itself
  pub page_lists_lem : (lo hi : ℕ) (cs : List (A × Key)) (last : A) → InKids R lo hi cs last
      → (T (same_regions (stab_list cs) (filter (topmost above (keys_in cs)) rs)) × T (own_lists (stab_list cs) [] cs)) ↔ ListsIn rs above [] cs
  unfolding none_stabs all
  page_lists_lem lo hi cs last i = (
    (λ b. (own_says rs (stab_list cs) above (keys_in cs) ((sames_say (stab_list cs) _).yes_so b.0) [] cs (λ r h. h)).yes_so b.1),
    (λ l.
        let e : stab_list cs ≡ filter (topmost above (keys_in cs)) rs = stab_list_lem lo hi [] cs last i l in
        ((sames_say (stab_list cs) _).so_yes e, (own_says rs (stab_list cs) above (keys_in cs) e [] cs (λ r h. h)).so_yes l)),
  )

-- THE LISTS OF A TREE: rules 3 and 4 ⟺ each key's list by itself
module _ {A : Type 0} (p q : A → Bool) (M : A → Type 0) (P : ℕ → ℕ → A → Type 0) (e : (lo hi : ℕ) (c : A) → P lo hi c → (T (p c) × T (q c)) ↔ M c) where
  kids_two : (lo hi : ℕ) (cs : List (A × Key)) (last : A) → InKids P lo hi cs last → (T (all_kids p cs last) × T (all_kids q cs last)) ↔ Kids M cs last
  unfolding all_kids
  kids_two lo hi [] last i = e lo hi last i
  kids_two lo hi (c ∷ cs) last i =
      let w = e lo c.1.key c.0 i.1 in
      let v = kids_two (suc c.1.key) hi cs last i.2 in (
        (λ b. (w.0 (and_left (p c.0) _ b.0, and_left (q c.0) _ b.1), v.0 (and_right (p c.0) _ b.0, and_right (q c.0) _ b.1))),
        (λ m. (and_both (p c.0) _ (w.1 m.0).0 (v.1 m.1).0, and_both (q c.0) _ (w.1 m.0).1 (v.1 m.1).1)),
      )

pub lists_declared : (rs : List Region) → Rising rs → (h : ℕ) (above : List ℕ) (lo hi : ℕ) (t : Tree h) → In h lo hi t → (T (page_lists rs above h t) × T (rule4 h t)) ↔ Lists h rs above t
unfolding page_lists rule4
lists_declared rs o zero above lo hi t i = ((λ b. tt), (λ l. (tt, tt)))
lists_declared rs o (suc h) above lo hi t i =
    let ks = keys_in t.kids in
    let S = same_regions (stab_list t.kids) (filter (topmost above ks) rs) in
    let W = own_lists (stab_list t.kids) [] t.kids in
    let w = page_lists_lem (In h) rs o above lo hi t.kids t.last i in
    let v = kids_two (page_lists rs (ks ++ above) h) (rule4 h) (Lists h rs (ks ++ above)) (In h) (λ lo hi c j. lists_declared rs o h (ks ++ above) lo hi c j) lo hi t.kids t.last i in (
      (λ b. (w.0 (and_left S _ b.0, and_left W _ b.1), v.0 (and_right S _ b.0, and_right W _ b.1))),
      (λ l. (and_both S _ (w.1 l.0).0 (v.1 l.1).0, and_both W _ (w.1 l.0).1 (v.1 l.1).1)),
    )

-- RULE 5
pair_says : (k : Key) (l : List Region) → Says (pair_right k l) (pair_is k l)
unfolding pair_right
pair_says k [] = and_says (eq_says k.pair_start 0) (eq_says k.pair_end 0)
pair_says k (r ∷ rs) = and_says (eq_says k.pair_start r.start) (eq_says k.pair_end r.end)

module _ {A : Type 0} where
  pairs_in_say : (cs : List (A × Key)) → Says (pairs_right cs) (PairsIn cs)
  unfolding pairs_right
  pairs_in_say [] = always
  pairs_in_say (c ∷ cs) = and_says (pair_says c.1 c.1.list) (pairs_in_say cs)

  kids_say : (f : A → Bool) (P : A → Type 0) → ((c : A) → Says (f c) (P c)) → (cs : List (A × Key)) (last : A) → Says (all_kids f cs last) (Kids P cs last)
  unfolding all_kids
  kids_say f P e [] last = e last
  kids_say f P e (c ∷ cs) last = and_says (e c.0) (kids_say f P e cs last)

pub rule5_says : (h : ℕ) (t : Tree h) → Says (rule5 h t) (Firsts h t)
unfolding rule5
rule5_says zero t = always
rule5_says (suc h) t = and_says (pairs_in_say t.kids) (kids_say (rule5 h) (Firsts h) (λ c. rule5_says h c) t.kids t.last)

-- THE FLAGS
abbrev leaves_in : (h : ℕ) → List (Tree h × Key) → Tree h → List Leaf
leaves_in h cs z = weave (leaves h) (λ (k : Key). []) cs z

one_leaf : {b : Bool} {M : Type 0} → Says b M → Says (b && true) M
one_leaf {b} e = rw (and_true b) e

kids_flags : (h : ℕ) (ks : List ℕ) → ((c : Tree h) → Says (flagged ks (leaves h c)) (Flags h ks c)) → (cs : List (Tree h × Key)) (last : Tree h)
    → Says (flagged ks (leaves_in h cs last)) (Kids (Flags h ks) cs last)
unfolding weave flagged
kids_flags h ks ih [] last = ih last
kids_flags h ks ih (c ∷ cs) last = rw (all_test_append (λ (l : Leaf). all (flag_right ks) l.entries) (leaves h c.0) (leaves_in h cs last)) (and_says (ih c.0) (kids_flags h ks ih cs last))

pub flags_say : (h : ℕ) (ks : List ℕ) (t : Tree h) → Says (flagged ks (leaves h t)) (Flags h ks t)
unfolding listed flagged
flags_say zero ks t = unfold all in one_leaf (all_says (λ (e : Entry). eq_says e.flag (flag_of (none_stabs ks e.region))) t.entries)
flags_say (suc h) ks t = kids_flags h ks (λ c. flags_say h ks c) t.kids t.last
