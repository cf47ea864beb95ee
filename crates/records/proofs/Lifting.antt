-- The beginning of one key's list that x stabs goes in front of another's.
-- Assumes nothing.
use Prim.Native.Nat.{ℕ, ◌+◌}
use mathlib.Core.Path.{◌≡◌, sym, ap, ap₂, ◌∙◌, subst}
use mathlib.Core.List.{List, ◌++◌, map}
use lib.ListN.{length, take-append-drop}
use native.Mathlib.Omega.{arith}
use Rattle.words.specs.Lists.{count, take_while, drop_while}
use Rattle.words.proofs.Listed.{all_every, map_append}
use Rattle.words.proofs.Counted.{count_append}
use Rattle.regions.specs.Positions.{stabs}
use Rattle.xrtree.specs.Tree.{Key}
use Rattle.xrtree.specs.Moves.{moved_places, kept_places}
use Rattle.pages.specs.declared.KeyWords.{KeyWords}
use Rattle.image.specs.Read.{record_region}
use Rattle.holding.specs.Held.{Chain, KeyHeld}
use Rattle.records.specs.Touched.{Touched}
use Rattle.records.specs.Ways.{LastOf, behind, linked_words, linked_head, key_from}
use Rattle.records.specs.Kept.{Lifts, Apart}
use Rattle.records.proofs.Chains.{chain_once, behind_chain}
use Rattle.records.proofs.Marks.{uses_same}
use Rattle.records.proofs.Splices.{linked, linked_list, splice, renewed_held, cut}
use Rattle.records.proofs.Coming.{last_apart, touched_last, map_same, low_of}

pub lifted_at : (w : List ℕ) (k j : KeyWords) (x p : ℕ) (a b : Key) → length w ≡ 12288 → LastOf (stabs x) w k.head p → KeyHeld w k a → KeyHeld w j b → Apart a.places b.places
    → Lifts w (linked_words w p j.head) a b x
    (record { from = key_from (linked_words w p j.head) k.key (behind w k.head p); to = key_from (linked_words w p j.head) j.key (linked_head k.head p j.head) })
lifted_at w k j x p a b l o ha hb f =
    let xs = moved_places x a.list a.places in
    let ys = kept_places x a.list a.places in
    let w' = linked_words w p j.head in
    let c = cut k a p o ha in
    let e : xs ++ ys ≡ a.places = take-append-drop (length (take_while (stabs x) a.list)) a.places in
    let n : (y : ℕ) → count y xs + count y ys ≡ count y a.places = λ y. sym (count_append y xs ys) ∙ ap (count y) e in
    let m = linked w p j.head l o.high in
    let rest : Chain w (behind w k.head p) ys = subst (λ z. Chain w (behind w k.head z) ys) (sym c.last) (behind_chain w k.head xs ys c.chain) in
    let rest' : Chain w' (behind w k.head p) ys =
    linked_list m (ap (λ z. count z ys) c.last ∙ last_apart xs ys (λ y. omega (arith, n y, chain_once ha.chain y)) (low_of rest)) rest in
    let to' : Chain w' j.head b.places =
    linked_list m (ap (λ z. count z b.places) c.last ∙ last_apart xs b.places (λ y. omega (arith, n y, f y)) (low_of hb.chain)) hb.chain in
    let same : (zs : List ℕ) → map (record_region w') zs ≡ map (record_region w) zs = λ zs. map_same (record_region w') (record_region w) zs (all_every m.region zs) in
    record {
      touched = subst (Touched w w') e (touched_last m.touched xs ys c.last);
      uses = uses_same m.used;
      from_held = renewed_held k.key a.key (drop_while (stabs x) a.list) ha.key_is rest' (sym (same ys ∙ c.back));
      to_held =
          renewed_held j.key b.key (take_while (stabs x) a.list ++ b.list) hb.key_is (splice m k.head xs ys b.places c.last c.chain to')
          (ap₂ ◌++◌ (sym c.front) hb.list_is ∙ sym (map_append (record_region w) xs b.places) ∙ sym (same (xs ++ b.places)));
    }

pub lifted_law : (w w' : List ℕ) (k j : KeyWords) (x p n d : ℕ) (gave took : KeyWords) → length w ≡ 12288 → LastOf (stabs x) w k.head p
    → n ≡ behind w k.head p → d ≡ linked_head k.head p j.head → w' ≡ linked_words w p j.head → gave ≡ key_from w' k.key n → took ≡ key_from w' j.key d
    → (a b : Key) → KeyHeld w k a → KeyHeld w j b → Apart a.places b.places → Lifts w w' a b x (record { from = gave; to = took })
lifted_law w w' k j x p n d gave took l o en ed ew eg et a b ha hb f =
    let g : gave ≡ key_from w' k.key (behind w k.head p) = eg ∙ ap (key_from w' k.key) en in
    let t : took ≡ key_from w' j.key (linked_head k.head p j.head) = et ∙ ap (key_from w' j.key) ed in
    rw (g, t)
    (subst (λ z. Lifts w z a b x (record { from = key_from z k.key (behind w k.head p); to = key_from z j.key (linked_head k.head p j.head) })) (sym ew) (lifted_at w k j x p a b l o ha hb f))
