-- The stack on plain lists: regions that hold one place lie one in the other, so they are few, and end the sooner the later they start: popping from the top is a
-- filter. Those that hold the next place are those of them that end behind it, and those that start on the way, entry by entry.
-- Assumes nothing.
use Prim.Native.Nat.{ℕ, suc, ◌≤◌, ◌<◌}
use mathlib.Core.Path.{◌≡◌, sym, ap, ap₂, ◌∙◌, subst}
use mathlib.Core.Bool.{Bool, true, false, ◌&&◌}
use mathlib.Core.List.{List, [], ◌∷◌, ◌++◌, append-nil}
use lib.ListN.{length, length-append}
use native.Mathlib.Omega.{arith}
use native.Mathlib.Decide.{dec_lt}
use Rattle.words.specs.Lists.{filter, All}
use Rattle.words.proofs.Listed.{all_mono, all_two, none_of, all_every, all_append, all_right, all_kept, all_let, pairs_mono, pairs_kept, pairs_across, filter_yes, filter_no, filter_append, filter_all, filter_none, filter_same, filter_filter, filter_comm, filter_within}
use Rattle.words.proofs.Says.{Says, says_same, says_iff, and_says, lt_says, true_so, so_true, false_so, so_false}
use Rattle.words.proofs.Counted.{filter_short}
use Rattle.regions.specs.Limits.{most_around}
use Rattle.regions.specs.Positions.{holds, too_late}
use Rattle.regions.specs.Sets.{Set, starts_before, starts_from}
use Rattle.regions.specs.Sound.{Wf, Rising, Nesting, Sound}
use Rattle.regions.specs.declared.Region.{Region}
use Rattle.regions.specs.declared.Choice.{Choice}
use Rattle.regions.proofs.Means.{formed_says, holds_says, before_says, from_says, contains_says}
use Rattle.regions.proofs.Rising.{parts}
use Rattle.regions.proofs.Chain.{Inward, together_inward, around_few}
use Rattle.stack.specs.Stacks.{holds_up_to, ends_behind, Falling}

-- WHAT THE TESTS SAY
pub upto_says : (s p : ℕ) (r : Region) → Says (holds_up_to s p r) ((r.start < s) × (p < r.end))
unfolding holds_up_to
upto_says s p r = and_says (lt_says r.start s) (lt_says p r.end)

pub ends_says : (q : ℕ) (r : Region) → Says (ends_behind q r) (q < r.end)
unfolding ends_behind
ends_says q r = lt_says q r.end

-- by the choice
pub upto_holds : (ch : Choice) (p : ℕ) (rs : List Region) → filter (holds_up_to (too_late ch p) p) rs ≡ filter (holds ch p) rs
upto_holds ch p rs = filter_same (holds_up_to (too_late ch p) p) (holds ch p) rs (all_every (λ r. says_same (upto_says (too_late ch p) p r) (holds_says ch p r)) rs)

-- ONE IN THE OTHER: those that hold one place, by themselves or with one that starts there
module _ (s p : ℕ) (l : s ≤ suc p) where
  holders_inward : (rs : List Region) → Rising rs → Nesting rs → Inward (filter (holds_up_to s p) rs)
  holders_inward rs up nest =
      together_inward (holds_up_to s p) (λ x y a b. let u = (upto_says s p x).yes_so a in let v = (upto_says s p y).yes_so b in omega arith) rs up nest

  -- so their ends fall
  pub holders_fall : (rs : List Region) → Rising rs → Nesting rs → Falling (filter (holds_up_to s p) rs)
  holders_fall rs up nest =
      pairs_mono {S = λ x y. y.end < x.end} (λ x y c. (true_so (contains_says x y) c).1) (filter (holds_up_to s p) rs) (holders_inward rs up nest)

  -- and of a set there are no more than levels
  pub holders_few : (S : Set) → Sound S → length (filter (holds_up_to s p) S.regions) ≤ most_around
  holders_few S g = around_few S g (holds_up_to s p) (holders_inward S.regions g.rising g.nesting)

-- POPPING from the top while it has ended: a filter. One is popped; the first that stays, stays with all below it
pub pop_one : (q : ℕ) (us : List Region) (r : Region) → r.end ≤ q → filter (ends_behind q) (us ++ r ∷ []) ≡ filter (ends_behind q) us
pop_one q us r l =
    filter_append (ends_behind q) us (r ∷ [])
    ∙ ap (λ vs. filter (ends_behind q) us ++ vs) (filter_none (ends_behind q) (r ∷ []) (so_false (ends_says q r) (λ k. omega arith), tt))
    ∙ append-nil (filter (ends_behind q) us)

pub pop_stop : (q : ℕ) (us : List Region) (r : Region) → Falling (us ++ r ∷ []) → q < r.end → filter (ends_behind q) (us ++ r ∷ []) ≡ us ++ r ∷ []
pop_stop q us r f l =
    filter_all (ends_behind q) (us ++ r ∷ [])
    (all_append (λ x. ends_behind q x ≡ true) us (r ∷ [])
    (all_mono {Q = λ x. ends_behind q x ≡ true} (λ x h. so_true (ends_says q x) (let k = h.0 in omega arith)) us (pairs_across (λ x y. y.end < x.end) us (r ∷ []) f))
    (so_true (ends_says q r) l, tt))

-- FROM A LATER BOUND on
pub from_within : (y y' : ℕ) (rs : List Region) → y ≤ y' → filter (starts_from y') rs ≡ filter (starts_from y') (filter (starts_from y) rs)
from_within y y' rs l =
    filter_within (starts_from y') (starts_from y) rs
    (all_every {P = λ r. starts_from y' r ≡ true → starts_from y r ≡ true} (λ r h. so_true (from_says y r) (let k = true_so (from_says y' r) h in omega arith)) rs)

-- THE NEXT PLACE q, with its bound z: of those that started before s, the ones that hold q are the ones that held p and end behind q
module _ (s p z q : ℕ) (l : s ≤ z) (k : p ≤ q) (rs : List Region) where
  pub holders_kept : filter (ends_behind q) (filter (holds_up_to s p) rs) ≡ filter (holds_up_to z q) (filter (starts_before s) rs)
  holders_kept =
      filter_filter (holds_up_to s p) (ends_behind q) rs
      ∙ filter_same (λ r. holds_up_to s p r && ends_behind q r) (λ r. starts_before s r && holds_up_to z q r) rs
      (all_every (λ r. says_same (and_says (upto_says s p r) (ends_says q r)) (says_iff (and_says (before_says s r) (upto_says z q r)) (λ h. to r h) (λ h. from r h))) rs)
      ∙ sym (filter_filter (starts_before s) (holds_up_to z q) rs)
    where
      to : (r : Region) → (r.start < s) × ((r.start < z) × (q < r.end)) → ((r.start < s) × (p < r.end)) × (q < r.end)
      to r h = ((omega arith, omega arith), omega arith)

      from : (r : Region) → ((r.start < s) × (p < r.end)) × (q < r.end) → (r.start < s) × ((r.start < z) × (q < r.end))
      from r h = (omega arith, (omega arith, omega arith))

-- NONE HOLDS p, and none starts from its bound s on and before z: then none holds a place x, up to the one whose bound y is z
pub holders_skip : (s p y x z : ℕ) (rs : List Region) → filter (holds_up_to s p) rs ≡ [] → All (λ (r : Region). s ≤ r.start → z ≤ r.start) rs → p ≤ x → y ≤ z → filter (holds_up_to y x) rs ≡ []
holders_skip s p y x z rs e c l u =
    filter_none (holds_up_to y x) rs
    (all_two (λ r n m. so_false (upto_says y x r) (λ h. none r n m h)) rs (none_of (holds_up_to s p) rs e) c)
  where
    none : (r : Region) → holds_up_to s p r ≡ false → (s ≤ r.start → z ≤ r.start) → (r.start < y) × (x < r.end) → ⊥
    none r n m h =
        elim (dec_lt r.start s) [
          | yes k ↦ false_so (upto_says s p r) n (k, omega arith)
          | no k ↦ let v = m (omega arith) in omega arith
        ]

-- ENTRY BY ENTRY, from a bound y on: none is left that starts before z
module _ (y z q : ℕ) (rs : List Region) (up : Rising rs) where
  pub come_all : All (λ (r : Region). z ≤ r.start) (filter (starts_from y) rs) → filter (holds_up_to z q) (filter (starts_before y) rs) ≡ filter (holds_up_to z q) rs
  come_all h =
      let us = filter (starts_before y) rs in
      let vs = filter (starts_from y) rs in
      let none : filter (holds_up_to z q) vs ≡ [] =
      filter_none (holds_up_to z q) vs (all_mono {Q = λ r. holds_up_to z q r ≡ false} (λ r k. so_false (upto_says z q r) (λ m. omega arith)) vs h) in
      sym
      (ap (filter (holds_up_to z q)) (parts y rs up) ∙ filter_append (holds_up_to z q) us vs ∙ ap (λ ws. filter (holds_up_to z q) us ++ ws) none
      ∙ append-nil (filter (holds_up_to z q) us))

  pub come_same : y ≤ z → All (λ (r : Region). z ≤ r.start) (filter (starts_from y) rs) → filter (starts_from y) rs ≡ filter (starts_from z) rs
  come_same l h =
      sym
      (from_within y z rs l
      ∙ filter_all (starts_from z) (filter (starts_from y) rs) (all_mono {Q = λ r. starts_from z r ≡ true} (λ r k. so_true (from_says z r) k) (filter (starts_from y) rs) h))

-- THE FIRST from a bound on, and the others: those that start behind it
pub record First (rs : List Region) (y : ℕ) (e : Region) (rest : List Region) : Type 0 where
  pub low : y ≤ e.start
  pub least : All (λ (r : Region). e.start ≤ r.start) (e ∷ rest)
  pub others : rest ≡ filter (starts_from (suc e.start)) rs
  pub front : filter (starts_before (suc e.start)) rs ≡ filter (starts_before y) rs ++ e ∷ []

pub first_from : (rs : List Region) (y : ℕ) (e : Region) (rest : List Region) → Rising rs → filter (starts_from y) rs ≡ e ∷ rest → First rs y e rest
first_from rs y e rest up is =
    let later : Rising (e ∷ rest) = subst (λ (l : List Region). Rising l) is (pairs_kept (λ a b. a.start < b.start) (starts_from y) rs up) in
    let l : y ≤ e.start = true_so (from_says y e) (subst (λ (l : List Region). All (λ x. starts_from y x ≡ true) l) is (all_let (starts_from y) rs)).0 in
    let n = suc e.start in
    let us = filter (starts_before y) rs in
    record {
      low = l;
      least = (omega arith, all_mono {Q = λ r. e.start ≤ r.start} (λ r k. omega arith) rest later.0);
      others =
          sym
          (from_within y n rs (omega arith) ∙ ap (filter (starts_from n)) is
          ∙ filter_no (starts_from n) e rest (so_false (from_says n e) (λ k. omega arith))
          ∙ filter_all (starts_from n) rest (all_mono {Q = λ x. starts_from n x ≡ true} (λ x k. so_true (from_says n x) (omega arith)) rest later.0));
      front =
          ap (filter (starts_before n)) (parts y rs up ∙ ap (λ vs. us ++ vs) is) ∙ filter_append (starts_before n) us (e ∷ rest)
          ∙ ap₂ ◌++◌
          (filter_all (starts_before n) us
          (all_mono {Q = λ x. starts_before n x ≡ true} (λ x k. so_true (before_says n x) (let m = true_so (before_says y x) k in omega arith)) us (all_let (starts_before y) rs)))
          (filter_yes (starts_before n) e rest (so_true (before_says n e) (omega arith))
          ∙ ap (e ∷◌) (filter_none (starts_before n) rest (all_mono {Q = λ x. starts_before n x ≡ false} (λ x k. so_false (before_says n x) (λ m. omega arith)) rest later.0)));
    }

-- one more: where it ends behind q, it holds q too
pub come_one : (y z q : ℕ) (rs : List Region) (e : Region) (rest : List Region) → First rs y e rest → e.start < z
    → filter (holds_up_to z q) (filter (starts_before y) rs) ++ filter (ends_behind q) (e ∷ []) ≡ filter (holds_up_to z q) (filter (starts_before (suc e.start)) rs)
come_one y z q rs e rest f l =
    ap (λ vs. filter (holds_up_to z q) (filter (starts_before y) rs) ++ vs)
    (filter_same (ends_behind q) (holds_up_to z q) (e ∷ []) (says_same (ends_says q e) (says_iff (upto_says z q e) (λ h. h.1) (λ h. (l, h))), tt))
    ∙ sym (filter_append (holds_up_to z q) (filter (starts_before y) rs) (e ∷ [])) ∙ ap (filter (holds_up_to z q)) (sym f.front)

-- and the stack has room for it, whether it holds q or not: it and all that the stack has by then hold the position where it starts
module _ (y z q : ℕ) (S : Set) (g : Sound S) (e : Region) (rest : List Region) (f : First S.regions y e rest) (l : e.start < z) (k : z ≤ suc q) where
  abbrev here : Region → Bool
  here = holds_up_to (suc e.start) e.start

  abbrev earlier : List Region
  earlier = filter (starts_before y) S.regions

  own : here e ≡ true
  own =
      let w = subst (λ (rs : List Region). All Wf rs) f.front (all_kept Wf (starts_before (suc e.start)) S.regions g.formed) in
      so_true (upto_says (suc e.start) e.start e) (omega arith, (true_so (formed_says e) (all_right Wf earlier (e ∷ []) w).0).order)

  within : filter (holds_up_to z q) earlier ≡ filter (holds_up_to z q) (filter here earlier)
  within =
      filter_within (holds_up_to z q) here earlier
      (all_mono {Q = λ r. holds_up_to z q r ≡ true → here r ≡ true} (λ r b h. there r (true_so (before_says y r) b) (true_so (upto_says z q r) h)) earlier (all_let (starts_before y) S.regions))
    where
      there : (r : Region) → r.start < y → (r.start < z) × (q < r.end) → here r ≡ true
      there r b h = so_true (upto_says (suc e.start) e.start r) (omega (arith, f.low), omega arith)

  pub front_few : length (filter (holds_up_to z q) earlier) < most_around
  front_few =
      omega (
        arith,
        ap length within,
        filter_short (holds_up_to z q) (filter here earlier),
        length-append (filter here earlier) (filter here (e ∷ [])),
        ap length (filter_yes here e [] own),
        ap length (ap (filter here) f.front ∙ filter_append here earlier (e ∷ [])),
        ap length (filter_comm here (starts_before (suc e.start)) S.regions),
        filter_short (starts_before (suc e.start)) (filter here S.regions),
        holders_few (suc e.start) e.start (omega arith) S g,
      )
