-- The pairs of one d with all that the stack holds, and what the rest of a join adds to them.
-- Assumes nothing.
use Prim.Native.Nat.{ℕ, suc, ◌+◌, ◌-◌, ◌≤◌, ◌<◌}
use mathlib.Core.Path.{◌≡◌, refl, sym, ap, ◌∙◌, subst}
use mathlib.Core.Logic.{⊎_elim, inl, inr}
use mathlib.Core.Bool.{Bool, true, false}
use mathlib.Core.List.{List, [], ◌∷◌, ◌++◌, map}
use lib.ListN.{length, length-append}
use native.Mathlib.Omega.{arith}
use native.Mathlib.Decide.{dec_le}
use native.Mathlib.Numerals.{add-one}
use Rattle.words.specs.Lists.{filter, All}
use Rattle.words.proofs.Tests.{T_of, of_T, and_left}
use Rattle.words.proofs.Listed.{all_mono, all_every, all_append, pairs_across, filter_none, filter_append, filter_filter, filter_within, map_append, filter_map}
use Rattle.words.proofs.Says.{so_false, false_so}
use Rattle.regions.specs.Positions.{holds}
use Rattle.regions.specs.Calls.{Pair, room, choice_of, pairs_with, pair_of, pairs_of, pair_words}
use Rattle.regions.specs.Desk.{is_past, past}
use Rattle.regions.specs.Sound.{Rising}
use Rattle.regions.specs.declared.Region.{Region}
use Rattle.regions.specs.declared.Kind.{Kind}
use Rattle.regions.specs.declared.Mark.{Mark}
use Rattle.regions.specs.declared.Mark.TheVariants.{Fresh, Last}
use Rattle.regions.proofs.Joined.{pairs_hold, later_says}
use Rattle.answers.specs.Items.{written_from}
use Rattle.answers.proofs.Items.{from_none, from_long, from_full, from_append}
use Rattle.pairing.specs.Pairs.{paired, pairs_past, counted, PairedUp}
use Rattle.pairing.proofs.Pairs.{takes_not}
use Rattle.stack.specs.Stacks.{region_at, stacked}
use Rattle.stack.proofs.Stacked.{stacked_long, stacked_more, stacked_front}

-- KINDS
pub pairs_not : (k : Kind) (d a : Region) → holds (choice_of k) d.start a ≡ false → false ≡ pairs_with k d a
unfolding pairs_with
pairs_not k d a h = rw h

-- of two outer regions the one that starts sooner: where the other's pair is not past the mark, its own is not
past_sooner : (m : Mark) (d a b : Region) → a.start ≤ b.start → is_past m (pair_of d b) ≡ false → is_past m (pair_of d a) ≡ false
unfolding is_past
past_sooner Fresh d a b l e = e
past_sooner (Last x y) d a b l e =
    so_false (later_says x y (pair_of d a))
    (λ h. false_so (later_says x y (pair_of d b)) e (⊎_elim (λ u. inl u) (λ u. inr (u.0, omega arith)) h))

-- so the top of the stack tells for all of it
pub past_none : (ws : List ℕ) (n : ℕ) (m : Mark) (d a : Region) → (n ≡ 0 → ⊥) → Rising (stacked ws n) → a ≡ region_at ws (n - 1) → is_past m (pair_of d a) ≡ false
    → All (λ (x : Region). is_past m (pair_of d x) ≡ false) (stacked ws n)
past_none ws n m d a z up e h =
    let us = stacked ws (n - 1) in
    let r = region_at ws (n - 1) in
    let one : n ≡ suc (n - 1) = omega arith in
    let is : stacked ws n ≡ us ++ r ∷ [] = ap (stacked ws) one ∙ stacked_more ws (n - 1) in
    let top : is_past m (pair_of d r) ≡ false = rw e at h in
    rw is
    (all_append (λ (x : Region). is_past m (pair_of d x) ≡ false) us (r ∷ [])
    (all_mono {Q = λ (x : Region). is_past m (pair_of d x) ≡ false} (λ x k. past_sooner m d x r (omega (arith, k.0)) top) us
    (pairs_across (λ x y. x.start < y.start) us (r ∷ []) (rw is at up)))
    (top, tt))

pub past_empty : (ws : List ℕ) (n : ℕ) (P : Region → Type 0) → n ≡ 0 → All P (stacked ws n)
unfolding stacked
past_empty ws n P e = rw e tt

-- of all that hold d: the pairs of d in the whole set
pub pairs_past_lem : (k : Kind) (m : Mark) (d : Region) (rs : List Region) → pairs_past k m d (filter (holds (choice_of k) d.start) rs) ≡ past m (pairs_of k rs d)
unfolding paired pairs_of
pairs_past_lem k m d rs =
    ap (map (pair_of d))
    (sym (filter_within (paired k m d) (holds (choice_of k) d.start) rs (all_every (λ a h. pairs_hold k d a (of_T _ (and_left (pairs_with k d a) _ (T_of h)))) rs))
    ∙ sym (filter_filter (pairs_with k d) (λ a. is_past m (pair_of d a)) rs))
    ∙ sym (filter_map (pair_of d) (is_past m) (filter (pairs_with k d) rs))

-- WRITTEN AND COUNTED
-- Two numbers that count alike are one, or the room is full: what comes then is written alike, and counts alike
counts_on : (all : Bool) (out out' : List ℕ) (i j : ℕ) → length out' ≡ length out → counted all out i ≡ counted all out j → (rest : List Pair)
    → (written_from pair_words 4 i out' rest ≡ written_from pair_words 4 j out' rest) × (counted all out (i + length rest) ≡ counted all out (j + length rest))
counts_on true out out' i j l e rest = (ap (λ n. written_from pair_words 4 n out' rest) e, ap (λ n. n + length rest) e)
counts_on false out out' i j l e rest =
    elim (dec_le (room 4 out) j) [
      | yes h ↦ (from_full pair_words 4 i out' rest (omega arith) ∙ sym (from_full pair_words 4 j out' rest (omega arith)), omega arith)
      | no h ↦ let f : i ≡ j = omega arith in (ap (λ n. written_from pair_words 4 n out' rest) f, omega arith)
    ]

module _ {rs : List Region} {k : Kind} {m : Mark} {d : Region} {all : Bool} {out : List ℕ} {n : ℕ} {out' : List ℕ} {n' : ℕ} (g : PairedUp rs k m d all out n out' n') where
  pub paired_long : length out' ≡ length out
  paired_long = ap length g.words ∙ from_long pair_words 4 n out (pairs_past k m d rs)

  -- what comes behind them comes behind all of them, though not all may have been looked for
  pub paired_whole : (qs : List Pair) → pairs_past k m d rs ≡ qs → (rest : List Pair)
      → (written_from pair_words 4 n' out' rest ≡ written_from pair_words 4 n out (qs ++ rest)) × (counted all out (n' + length rest) ≡ counted all out (n + length (qs ++ rest)))
  paired_whole qs e rest =
      let c = counts_on all out out' n' (n + length qs) paired_long (g.total ∙ ap (λ l. counted all out (n + length l)) e) rest in
      let s : n + length qs + length rest ≡ n + length (qs ++ rest) = omega (arith, length-append qs rest) in (
        c.0 ∙ ap (λ l. written_from pair_words 4 (n + length qs) l rest) (g.words ∙ ap (written_from pair_words 4 n out) e)
            ∙ sym (from_append pair_words 4 (λ x. refl) n out qs rest),
        c.1 ∙ ap (counted all out) s,
      )

-- none is past the mark: nothing is written, nothing counted
pub paired_nothing : {rs : List Region} {k : Kind} {m : Mark} {d : Region} {all : Bool} {out : List ℕ} {n : ℕ} → All (λ (x : Region). is_past m (pair_of d x) ≡ false) rs
    → PairedUp rs k m d all out n out n
paired_nothing {rs} {k} {m} {d} {all} {out} {n} h =
    let none : filter (paired k m d) rs ≡ [] = filter_none (paired k m d) rs (all_mono {Q = λ x. paired k m d x ≡ false} (λ x e. sym (takes_not k m d x e)) rs h) in
    let z : n ≡ n + 0 = omega arith in
    record { words = rw none (sym (from_none pair_words 4 n out)); total = rw none (ap (counted all out) z); few = omega arith }

module _ {k : Kind} {m : Mark} {d : Region} {out : List ℕ} {n : ℕ} where
  -- with the stack: none of it yet, one more, and all of it
  pub paired_start : (ws : List ℕ) → PairedUp (stacked ws 0) k m d true out n out n
  unfolding stacked filter
  paired_start ws = record { words = sym (from_none pair_words 4 n out); total = omega arith; few = omega arith }

  module _ (ws : List ℕ) (i : ℕ) {out' : List ℕ} {n' : ℕ} (g : PairedUp (stacked ws i) k m d true out n out' n') where
    -- the pairs with some others, behind them
    behind : (ts vs : List Region) → ts ≡ stacked ws i ++ vs
        → (written_from pair_words 4 n' out' (pairs_past k m d vs) ≡ written_from pair_words 4 n out (pairs_past k m d ts)) × (n' + length (pairs_past k m d vs) ≡ n + length (pairs_past k m d ts))
    behind ts vs e = rw (e, filter_append, map_append) (paired_whole g (pairs_past k m d (stacked ws i)) refl (pairs_past k m d vs))

    pub paired_more : {a : Region} {out'' : List ℕ} {n'' : ℕ} → a ≡ region_at ws i → PairedUp (a ∷ []) k m d true out' n' out'' n'' → PairedUp (stacked ws (i + 1)) k m d true out n out'' n''
    paired_more {a} e h =
        let is : stacked ws (i + 1) ≡ stacked ws i ++ a ∷ [] = ap (stacked ws) (add-one i) ∙ stacked_more ws i ∙ ap (λ r. stacked ws i ++ r ∷ []) (sym e) in
        let t = behind (stacked ws (i + 1)) (a ∷ []) is in
        record { words = h.words ∙ t.0; total = h.total ∙ t.1; few = omega (arith, h.few, g.few, ap length is, length-append (stacked ws i) (a ∷ [])) }

    pub paired_done : (j : ℕ) (all : Bool) → i ≤ j → j ≤ i → PairedUp (stacked ws j) k m d all out n out' n'
    paired_done j all a b =
        let e : i ≡ j = omega arith in
        subst (λ (x : ℕ). PairedUp (stacked ws x) k m d all out n out' n') e (record { words = g.words; total = ap (counted all out) g.total; few = g.few })

    -- the room is full, and no more are counted than fit: the others add nothing
    pub paired_full : (j : ℕ) → room 4 out ≤ n' → i ≤ j → PairedUp (stacked ws j) k m d false out n out' n'
    paired_full j h l =
        let r = stacked_front ws i j l in
        let t = behind (stacked ws j) r.0 r.1 in
        record {
          words = sym (from_full pair_words 4 n' out' (pairs_past k m d r.0) (omega (arith, paired_long g))) ∙ t.0;
          total = omega (arith, t.1);
          few = omega (arith, g.few, stacked_long ws i, stacked_long ws j);
        }
