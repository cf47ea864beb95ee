-- A region goes out of a key's list; all records of a list are given back.
-- Assumes nothing.
use Prim.Native.Nat.{ℕ, ◌+◌, ◌≤◌, ◌<◌}
use mathlib.Core.Path.{◌≡◌, refl, sym, ap, ap₂, ◌∙◌, subst}
use mathlib.Core.Logic.{◌≢◌}
use mathlib.Core.Bool.{true}
use mathlib.Core.List.{List, [], ◌∷◌, ◌++◌, map}
use lib.ListN.{length, take, drop, take-append-drop}
use native.Mathlib.Omega.{arith}
use native.Mathlib.Decide.{ℕ_discrete}
use Rattle.words.specs.Lists.{All, count, take_while, drop_while, last_or}
use Rattle.words.proofs.Listed.{all_right, all_two, map_append, while_join}
use Rattle.words.proofs.Counted.{count_append, count_same, count_other, count_more, all_off}
use Rattle.regions.specs.declared.Region.{Region}
use Rattle.xrtree.specs.Tree.{Key}
use Rattle.xrtree.specs.Moves.{key_with, out, behind as rest}
use Rattle.pages.specs.Layout.{record_of, record_next, record_used}
use Rattle.pages.specs.declared.KeyWords.{KeyWords}
use Rattle.image.specs.Read.{list_places, record_region}
use Rattle.holding.specs.Held.{Chain, KeyHeld}
use Rattle.holding.specs.Held.Chain.{done, link}
use Rattle.holding.proofs.Chains.{chain_range}
use Rattle.store.specs.Store.{free_record}
use Rattle.store.proofs.Frames.{free_record_long, free_record_other, free_record_next, free_record_used, free_record_used_other}
use Rattle.records.specs.Touched.{Touched, Uses, AllUsed, Ends}
use Rattle.records.specs.Ways.{before, passing, LastOf, behind, linked_words, linked_head, key_from, free_all}
use Rattle.records.specs.Kept.{Went, front_places, back_places, Dropped}
use Rattle.records.proofs.Chains.{chain_once, places_are, More, more, ended, step, none_at, behind_chain}
use Rattle.records.proofs.Marks.{touched_none, touched_in, touched_then, touched_free, uses_same, uses_then, uses_freed}
use Rattle.records.proofs.Splices.{Linked, linked, linked_list, splice, renewed_held, Cut, cut}
use Rattle.records.proofs.Coming.{last_apart, touched_last, map_same, low_of, region_of_lem}

-- a record given back still names the next one
pub free_chain : {w : List ℕ} (q : ℕ) {h : ℕ} {ps : List ℕ} → Chain w h ps → Chain (free_record w q) h ps
free_chain q done = done
free_chain {w} q (link {q = x} {ps = ps} l u c) = link {ps = ps} l u (subst (λ z. Chain (free_record w q) z ps) (sym (free_record_next w q x)) (free_chain q c))

-- what is left, by regions and by places
out_is : {w : List ℕ} (s : ℕ) {h p : ℕ} {xs ys : List ℕ} {l : List Region} → Cut (before s) w h p xs ys l → out s l ≡ map (record_region w) (xs ++ drop 1 ys)
unfolding out
out_is {w} s {xs = xs} {ys = ys} c =
    ap₂ ◌++◌ (sym c.front) (ap rest (sym c.back) ∙ rest_map ys) ∙ sym (map_append (record_region w) xs (drop 1 ys))
  where
    rest_map : (ys : List ℕ) → rest (map (record_region w) ys) ≡ map (record_region w) (drop 1 ys)
    rest_map [] = refl
    rest_map (y ∷ ys) = refl

-- A REGION GOES: q is the first record of the second part
module _ (w : List ℕ) (h p q : ℕ) (s : ℕ) (xs zs : List ℕ) (l : List Region) (long : length w ≡ 12288) (small : p ≤ 500) (high : q ≤ 500)
    (c : Cut (before s) w h p xs (q ∷ zs) l) (on : Chain w (record_next (record_of w q)) zs) where
  abbrev next : ℕ
  next = record_next (record_of w q)

  abbrev after : List ℕ
  after = linked_words (free_record w q) p next

  goes_on : Linked (free_record w q) after p next
  goes_on = linked (free_record w q) p next (free_record_long w q ∙ long) small

  once : (x : ℕ) → count x xs + count x (q ∷ zs) ≤ 1
  once x = omega (arith, chain_once c.chain x, count_append x xs (q ∷ zs))

  left_chain : Chain after (linked_head h p next) (xs ++ zs)
  left_chain =
      splice goes_on h xs (q ∷ zs) zs c.last (free_chain q c.chain)
      (linked_list goes_on
      (ap (λ z. count z zs) c.last ∙ last_apart xs zs (λ x. omega (arith, once x, count_more x q zs)) (low_of on))
      (free_chain q on))

  left_list : out s l ≡ map (record_region after) (xs ++ zs)
  left_list =
      out_is s c
      ∙ sym (map_same (record_region after) (record_region w) (xs ++ zs)
      (all_off (λ y. record_region after y ≡ record_region w y) q (xs ++ zs) (omega (arith, once q, count_same q zs, count_append q xs zs))
      (λ y d. goes_on.region y ∙ region_of_lem w (free_record w q) y (free_record_other w q y (λ e. d (sym e))))))

  left_touched : Touched w after (xs ++ q ∷ zs)
  left_touched =
      let t = touched_then (touched_free w q) (touched_last goes_on.touched xs (q ∷ zs) c.last) in
      touched_in t (xs ++ q ∷ zs)
      (λ x m z.
      elim (ℕ_discrete x q) [
        | yes e ↦ absurd (omega (arith, rw e at z, count_append q xs (q ∷ zs), count_same q zs))
        | no n ↦ count_other x q (xs ++ q ∷ zs) n ∙ z
      ])

  left_uses : record_used w q ≡ true → Uses w after [] (q ∷ [])
  left_uses u = uses_then (uses_freed u (free_record_used w q long high) (free_record_used_other w q)) (uses_same goes_on.used)

-- the second part is not empty, and its first record is q
left_some : (w : List ℕ) (k : KeyWords) (s p q : ℕ) (key : Key) → length w ≡ 12288 → p ≤ 500 → KeyHeld w k key → (xs ys : List ℕ) → xs ++ ys ≡ key.places → Cut (before s) w k.head p xs ys key.list
    → More w q ys → AllUsed w key.places
    → Touched w (linked_words (free_record w q) p (record_next (record_of w q))) key.places
    × Uses w (linked_words (free_record w q) p (record_next (record_of w q))) [] (take 1 ys)
    × KeyHeld (linked_words (free_record w q) p (record_next (record_of w q))) (key_from (linked_words (free_record w q) p (record_next (record_of w q))) k.key (linked_head k.head p (record_next (record_of w q))))
    (key_with key.key (xs ++ drop 1 ys) (out s key.list))
left_some w k s p q key l m h xs ys j c o a =
    let d = subst (λ z. Cut (before s) w k.head p xs z key.list) o.is c in
    let w' = linked_words (free_record w q) p (record_next (record_of w q)) in
    let i : xs ++ q ∷ o.rest ≡ key.places = ap (λ z. xs ++ z) (sym o.is) ∙ j in
    let u = all_right (λ x. record_used w x ≡ true) xs (q ∷ o.rest) (subst (AllUsed w) (sym i) a) in
    rw o.is (
      subst (Touched w w') i (left_touched w k.head p q s xs o.rest key.list l m o.high d o.on),
      left_uses w k.head p q s xs o.rest key.list l m o.high d o.on u.0,
      renewed_held k.key key.key (out s key.list) h.key_is (left_chain w k.head p q s xs o.rest key.list l m o.high d o.on)
          (left_list w k.head p q s xs o.rest key.list l m o.high d o.on),
    )

pub left_law : (w w₁ w₂ : List ℕ) (k : KeyWords) (s p q n d : ℕ) (t : KeyWords) → length w ≡ 12288 → LastOf (before s) w k.head p → q ≡ behind w k.head p → q ≢ 0
    → n ≡ record_next (record_of w q) → w₁ ≡ free_record w q → d ≡ linked_head k.head p n → w₂ ≡ linked_words w₁ p n → t ≡ key_from w₂ k.key d
    → (key : Key) → KeyHeld w k key → AllUsed w key.places → Went w w₂ key s t
left_law w w₁ w₂ k s p q n d t l o eq nz en e₁ ed e₂ et key h a =
    let xs = front_places s key in
    let ys = back_places s key in
    let c = cut k key p o h in
    let j : xs ++ ys ≡ key.places = take-append-drop (length (take_while (before s) key.list)) key.places in
    let b : Chain w q ys = subst (λ z. Chain w z ys) (sym (eq ∙ ap (behind w k.head) c.last)) (behind_chain w k.head xs ys c.chain) in
    let m = left_some w k s p q key l o.high h xs ys j c (more b nz) a in
    let g : w₂ ≡ linked_words (free_record w q) p (record_next (record_of w q)) = e₂ ∙ ap₂ (λ (x : List ℕ) (y : ℕ). linked_words x p y) e₁ en in
    let r : t ≡ key_from w₂ k.key (linked_head k.head p (record_next (record_of w q))) = et ∙ ap (key_from w₂ k.key) (ed ∙ ap (linked_head k.head p) en) in
    subst (λ x. Went w w₂ key s x) (sym r)
    (subst (λ x. Went w x key s (key_from x k.key (linked_head k.head p (record_next (record_of w q))))) (sym g) (record { touched = m.0; uses = m.1; held = m.2 }))

-- the second part is empty: nothing goes
pub left_none : (w : List ℕ) (k : KeyWords) (s p q : ℕ) (t : KeyWords) → LastOf (before s) w k.head p → q ≡ behind w k.head p → q ≡ 0 → t ≡ key_from w k.key k.head
    → (key : Key) → KeyHeld w k key → AllUsed w key.places → Went w w key s t
left_none w k s p q t o eq z et key h a =
    let xs = front_places s key in
    let ys = back_places s key in
    let c = cut k key p o h in
    let b : Chain w q ys = subst (λ z. Chain w z ys) (sym (eq ∙ ap (behind w k.head) c.last)) (behind_chain w k.head xs ys c.chain) in
    let e : ys ≡ [] = ended b z in
    subst (λ x. Went w w key s x) (sym et)
    (record {
      touched = touched_none w key.places;
      uses = subst (λ x. Uses w w [] (take 1 x)) (sym e) (uses_same (λ q. refl));
      held =
          renewed_held k.key key.key (out s key.list) h.key_is
          (subst (λ x. Chain w k.head (xs ++ x)) (e ∙ sym (ap (drop 1) e)) c.chain) (out_is s c);
    })

-- the record behind the first part is in range, if there is one
pub left_range : (w : List ℕ) (s h p q : ℕ) → Ends w h → LastOf (before s) w h p → q ≡ behind w h p → q ≢ 0 → (1 ≤ q) × (q ≤ 500)
left_range w s h p q e o eq nz =
    let xs = take_while (passing (before s) w) e.places in
    let ys = drop_while (passing (before s) w) e.places in
    let l : p ≡ last_or 0 xs = o.is ∙ ap (λ z. last_or 0 (take_while (passing (before s) w) z)) (places_are e.chain) in
    let c : Chain w h (xs ++ ys) = subst (Chain w h) (sym (while_join (passing (before s) w) e.places)) e.chain in
    let m = more (subst (λ z. Chain w z ys) (sym (eq ∙ ap (behind w h) l)) (behind_chain w h xs ys c)) nz in
    (m.low, m.high)

-- ALL RECORDS of a list
freed_list : (w : List ℕ) (qs : List ℕ) → length w ≡ 12288 → All (λ q. (1 ≤ q) × (q ≤ 500)) qs → ((x : ℕ) → count x qs ≤ 1) → AllUsed w qs → Dropped w (free_all w qs) qs
unfolding free_all
freed_list w [] l r o a = record { touched = touched_none w []; uses = uses_same (λ q. refl) }
freed_list w (q ∷ qs) l r o a =
    let z : count q qs ≡ 0 = omega (arith, o q, count_same q qs) in
    let b : AllUsed (free_record w q) qs =
    all_two (λ y (n : y ≢ q) u. free_record_used_other w q y (λ e. n (sym e)) ∙ u) qs (all_off (λ y. y ≢ q) q qs z (λ y n. n)) a.1 in
    let d = freed_list (free_record w q) qs (free_record_long w q ∙ l) r.1 (λ x. omega (arith, o x, count_more x q qs)) b in
    record {
      touched = touched_then (touched_free w q) d.touched;
      uses = uses_then (uses_freed a.0 (free_record_used w q l r.0.1) (free_record_used_other w q)) d.uses;
    }

pub record DropInv (w₀ : List ℕ) (head : ℕ) (w : List ℕ) (q : ℕ) : Type 0 where
  pub long : length w ≡ length w₀
  pub ends : Ends w q
  pub goal : free_all w (list_places w q) ≡ free_all w₀ (list_places w₀ head)

pub drop_start : {w : List ℕ} {head : ℕ} → Ends w head → DropInv w head w head
drop_start e = record { long = refl; ends = e; goal = refl }

module _ {w₀ : List ℕ} {head : ℕ} {w : List ℕ} {q : ℕ} (v : DropInv w₀ head w q) where
  -- the list behind a record given back is as it was
  kept_places_lem : q ≢ 0 → list_places (free_record w q) (record_next (record_of w q)) ≡ list_places w (record_next (record_of w q))
  kept_places_lem n = let c = (step v.ends n).on.chain in places_are (free_chain q c) ∙ sym (places_are c)

  pub drop_less : q ≢ 0 → length (list_places (free_record w q) (record_next (record_of w q))) < length (list_places w q)
  drop_less n = omega (arith, ap length (kept_places_lem n), ap length (step v.ends n).is)

  pub drop_on : q ≢ 0 → DropInv w₀ head (free_record w q) (record_next (record_of w q))
  unfolding free_all
  drop_on n =
      let s = step v.ends n in
      record {
        long = free_record_long w q ∙ v.long;
        ends = record { places = s.on.places; chain = free_chain q s.on.chain };
        goal = ap (free_all (free_record w q)) (kept_places_lem n) ∙ sym (ap (free_all w) s.is) ∙ v.goal;
      }

  pub drop_end : q ≡ 0 → length w₀ ≡ 12288 → (qs : List ℕ) → Chain w₀ head qs → AllUsed w₀ qs → Dropped w₀ w qs
  unfolding free_all
  drop_end z l qs c a =
      let e : w ≡ free_all w₀ qs = sym (ap (free_all w) (none_at v.ends z)) ∙ v.goal ∙ ap (free_all w₀) (places_are c) in
      subst (λ x. Dropped w₀ x qs) (sym e) (freed_list w₀ qs l (chain_range c) (chain_once c) a)
