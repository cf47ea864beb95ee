-- Places by counts: one taken, one given back; what is in use is listed.
-- Assumes nothing.
use Prim.Native.Nat.{ℕ, ◌≤◌}
use mathlib.Core.Path.{◌≡◌, ap, ◌∙◌}
use mathlib.Core.Logic.{◌≢◌}
use mathlib.Core.Bool.{Bool, true, false}
use mathlib.Core.List.{List, ◌∷◌}
use Rattle.words.specs.Lists.{count}
use Rattle.words.proofs.Counted.{one}
use Rattle.standing.specs.Stands.{Places}
use Rattle.standing.proofs.Counting.{all_counted, counted_all}
use Rattle.store.proofs.Places.{Fair, fair_more, fair_less}

pub fair : {used : ℕ → Bool} {n : ℕ} {ps : List ℕ} → Places used n ps → Fair used n ps
fair {used} {n} {ps} p = record { range = all_counted (λ q. (1 ≤ q) × (q ≤ n)) ps p.range; counts = p.once }

pub places : {used : ℕ → Bool} {n : ℕ} {ps : List ℕ} → Fair used n ps → Places used n ps
places {used} {n} {ps} f = record { once = f.counts; range = counted_all (λ q. (1 ≤ q) × (q ≤ n)) ps f.range }

-- A PLACE IS TAKEN, or given back; qs is the list afterwards, in any order
pub places_more : {used used' : ℕ → Bool} {n : ℕ} {ps : List ℕ} (q : ℕ) (qs : List ℕ) → Places used n ps → 1 ≤ q → q ≤ n → used q ≡ false → used' q ≡ true
    → ((i : ℕ) → 1 ≤ i → i ≤ n → q ≢ i → used' i ≡ used i) → ((i : ℕ) → count i qs ≡ count i (q ∷ ps)) → Places used' n qs
places_more {used} {used'} q qs p l h was is u c = places (fair_more (fair p) used' q qs l h was is u c)

pub places_less : {used used' : ℕ → Bool} {n : ℕ} {ps : List ℕ} (q : ℕ) (qs : List ℕ) → Places used n ps → used' q ≡ false
    → ((i : ℕ) → 1 ≤ i → i ≤ n → q ≢ i → used' i ≡ used i) → ((i : ℕ) → count i ps ≡ count i (q ∷ qs)) → Places used' n qs
places_less {used} {used'} q qs p is u c = places (fair_less (fair p) used' q qs is u c)

-- a free place is not listed
pub free_unlisted : {used : ℕ → Bool} {n : ℕ} {ps : List ℕ} (q : ℕ) → Places used n ps → 1 ≤ q → q ≤ n → used q ≡ false → count q ps ≡ 0
free_unlisted q p l h f = p.once q l h ∙ ap one f
