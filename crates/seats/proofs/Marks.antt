-- The mark that is read back behind pairs which stand as words is the mark behind those pairs.
-- Assumes nothing.
use Prim.Native.Nat.{ℕ, zero, suc, ◌+◌, ◌*◌, ◌-◌, ◌<◌, ◌≤◌}
use native.Mathlib.Omega.{arith}
use mathlib.Core.Path.{◌≡◌, refl, ap, ap₂, ◌∙◌}
use mathlib.Core.List.{List, [], ◌∷◌, flat_map}
use lib.ListN.{length, get_or}
use lib.Seq.{sets, get_or-append-add}
use Rattle.words.specs.Lists.{last_or}
use Rattle.words.proofs.Tests.{eq_no}
use Rattle.words.proofs.Written.{sets_in, flat_long}
use Rattle.regions.specs.Calls.{Pair, pair_words}
use Rattle.regions.specs.Desk.{mark_behind}
use Rattle.regions.specs.declared.Mark.{Mark}
use Rattle.regions.specs.declared.Mark.TheVariants.{Last}
use Rattle.regions.proofs.Fits.{pair_wide}
use Rattle.seats.specs.Steps.{mark_read}

-- the last pair's words
last_word : (q : Pair) (qs : List Pair) (k : ℕ) → k < 4 → get_or (flat_map pair_words (q ∷ qs)) (4 * length qs + k) 0 ≡ get_or (pair_words (last_or q qs)) k 0
unfolding flat_map last_or
last_word q [] zero h = refl
last_word q [] (suc zero) h = refl
last_word q [] (suc (suc zero)) h = refl
last_word q [] (suc (suc (suc zero))) h = refl
last_word q [] (suc (suc (suc (suc k)))) h = absurd (omega arith)
last_word q (r ∷ qs) k h =
    let e : 4 * suc (length qs) + k ≡ 4 + (4 * length qs + k) = omega arith in
    ap (λ (m : ℕ). get_or (flat_map pair_words (q ∷ r ∷ qs)) m 0) e ∙ get_or-append-add (pair_words q) (flat_map pair_words (r ∷ qs)) (4 * length qs + k) 0 ∙ last_word r qs k h

-- pairs written over some words from `first` on
pub mark_read_lem : (m : Mark) (ws : List ℕ) (first : ℕ) (ps : List Pair) → first + 4 * length ps ≤ length ws → mark_read m (sets ws first (flat_map pair_words ps)) first (length ps) ≡ mark_behind m ps
unfolding mark_read mark_behind flat_map
mark_read_lem m ws first [] h = refl
mark_read_lem m ws first (q ∷ qs) h =
    let vs = flat_map pair_words (q ∷ qs) in
    let long = flat_long pair_words 4 pair_wide (q ∷ qs) in
    let e : first + 4 * (suc (length qs) - 1) ≡ first + (4 * length qs + 0) = omega arith in
    let e' : first + 4 * (suc (length qs) - 1) + 2 ≡ first + (4 * length qs + 2) = omega arith in
    let at : (k : ℕ) → k < 4 → get_or (sets ws first vs) (first + (4 * length qs + k)) 0 ≡ get_or (pair_words (last_or q qs)) k 0 =
    (λ k l. sets_in vs ws first (4 * length qs + k) 0 (omega arith) (omega arith) ∙ last_word q qs k l) in
    rw (eq_no (suc (length qs)) 0 (λ z. omega arith))
    (ap₂ Last (ap (λ (p : ℕ). get_or (sets ws first vs) p 0) e ∙ at 0 (omega arith)) (ap (λ (p : ℕ). get_or (sets ws first vs) p 0) e' ∙ at 2 (omega arith)))
