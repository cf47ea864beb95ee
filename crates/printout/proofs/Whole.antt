-- Batch after batch from a mark on, until one is empty: together they are the text of all pairs past the mark, each once and in order; and such a run of batches ends.
-- Assumes nothing.
use Prim.Native.Nat.{ℕ, zero, suc, ◌<◌, ◌≤◌}
use native.Mathlib.Omega.{arith}
use mathlib.Core.Path.{◌≡◌, refl, sym, ap, ◌∙◌}
use mathlib.Core.List.{List, [], ◌∷◌, ◌++◌, flat_map}
use lib.Dec.{T, eqb}
use lib.ListN.{length, take, drop, length-take, length-drop, take-append-drop}
use Rattle.words.specs.Lists.{All}
use Rattle.words.proofs.Listed.{all_mono, flat_append, flat_same}
use Rattle.words.proofs.Tests.{by_test, eq_of, ne_of}
use Rattle.regions.specs.Calls.{Pair, joined}
use Rattle.regions.specs.Desk.{past, mark_behind}
use Rattle.regions.specs.declared.Kind.TheVariants.{Ancestor}
use Rattle.regions.specs.declared.Mark.{Mark}
use Rattle.regions.specs.declared.Mark.TheVariants.{Fresh}
use Rattle.regions.specs.Sound.{Ascending}
use Rattle.regions.proofs.Joined.{joined_ascends, past_fresh, past_next}
use Rattle.image.specs.Read.{set_of}
use Rattle.image.specs.Valid.{valid}
use Rattle.image.proofs.Sound.{set_rises}
use Rattle.regions.specs.Limits.{accounts}
use Rattle.printout.specs.Printed.{pair_line, pairs_text, batch_pairs, batch, Batches, none_left, one_more, account_text, join_text}

none_long : {A : Type 0} (xs : List A) → length xs ≡ 0 → xs ≡ []
none_long [] e = refl
none_long (x ∷ xs) e = absurd (omega arith)

none_taken : {A : Type 0} (n : ℕ) (xs : List A) → take (suc n) xs ≡ [] → xs ≡ []
none_taken n [] e = refl
none_taken n (x ∷ xs) e = absurd (let z : suc (length (take n xs)) ≡ 0 = ap length e in omega arith)

-- past the mark behind a batch stands what follows it
pub batch_next : (m : Mark) (qs : List Pair) → Ascending qs → past (mark_behind m (batch m qs)) qs ≡ drop batch_pairs (past m qs)
batch_next m qs h = past_next m batch_pairs qs h

-- so a batch that is not empty leaves fewer
pub batch_less : (m : Mark) (qs : List Pair) → Ascending qs → (length (batch m qs) ≡ 0 → ⊥) → length (past (mark_behind m (batch m qs)) qs) < length (past m qs)
batch_less m qs h n = omega (arith, ap length (batch_next m qs h), length-drop batch_pairs (past m qs), length-take batch_pairs (past m qs))

pub batches_past : (qs : List Pair) {m : Mark} {text : List ℕ} → Ascending qs → Batches qs m text → text ≡ pairs_text (past m qs)
unfolding flat_map
batches_past qs {m} h (none_left e) = ap pairs_text (sym (none_taken 255 (past m qs) e))
batches_past qs {m} h (one_more r) =
    ap (λ (t : List ℕ). pairs_text (batch m qs) ++ t) (batches_past qs h r ∙ ap pairs_text (batch_next m qs h))
    ∙ sym (flat_append pair_line (batch m qs) (drop batch_pairs (past m qs)))
    ∙ ap pairs_text (take-append-drop batch_pairs (past m qs))

-- and there is such a run
ends_within : (k : ℕ) (qs : List Pair) (m : Mark) → Ascending qs → length (past m qs) ≤ k → (text : List ℕ) × Batches qs m text
ends_within zero qs m h f = ([], none_left (none_long (batch m qs) (omega (arith, length-take batch_pairs (past m qs)))))
ends_within (suc k) qs m h f =
    by_test (eqb (length (batch m qs)) 0)
    (λ e. ([], none_left (none_long (batch m qs) (eq_of _ _ e))))
    (λ e. let r = ends_within k qs (mark_behind m (batch m qs)) h (omega (arith, batch_less m qs h (ne_of _ _ e))) in (pairs_text (batch m qs) ++ r.0, one_more r.1))

pub batches_end : (qs : List Pair) (m : Mark) → Ascending qs → (text : List ℕ) × Batches qs m text
batches_end qs m h = ends_within (length (past m qs)) qs m h (omega arith)

-- of two valid images: from the fresh mark on the account's whole join
pub join_ascends : (outer inner : List ℕ) (a : ℕ) → T (valid outer) → T (valid inner) → Ascending (joined (set_of outer) (set_of inner) a Ancestor)
join_ascends outer inner a v w = joined_ascends (set_of outer) (set_of inner) a Ancestor (set_rises outer v) (set_rises inner w)

pub batches_whole : (outer inner : List ℕ) (a : ℕ) {text : List ℕ} → T (valid outer) → T (valid inner)
    → Batches (joined (set_of outer) (set_of inner) a Ancestor) Fresh text → text ≡ account_text (set_of outer) (set_of inner) a
batches_whole outer inner a v w b =
    let qs = joined (set_of outer) (set_of inner) a Ancestor in
    batches_past qs (join_ascends outer inner a v w) b ∙ ap pairs_text (past_fresh qs)

-- and account after account the whole join
pub accounts_whole : (outer inner : List ℕ) (texts : ℕ → List ℕ) → T (valid outer) → T (valid inner)
    → All (λ a. Batches (joined (set_of outer) (set_of inner) a Ancestor) Fresh (texts a)) accounts → flat_map texts accounts ≡ join_text (set_of outer) (set_of inner)
accounts_whole outer inner texts v w b =
    flat_same texts (account_text (set_of outer) (set_of inner)) accounts
    (all_mono {Q = λ a. texts a ≡ account_text (set_of outer) (set_of inner) a} (λ a r. batches_whole outer inner a v w r) accounts b)
