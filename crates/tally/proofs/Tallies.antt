-- Tallies: nothing met, one region met, one part after another, and what is still to be met on the way to a whole.
-- Assumes nothing.
use Prim.Native.Nat.{ℕ, ◌+◌, ◌≤◌}
use mathlib.Core.Path.{◌≡◌, sym, refl, ap, ◌∙◌, subst}
use mathlib.Core.Bool.{true, false}
use Rattle.std.specs.Prelude.{Option, Some}
use mathlib.Core.List.{List, [], ◌∷◌, ◌++◌}
use lib.ListN.{length, length-append}
use native.Mathlib.Omega.{arith}
use Rattle.words.specs.Lists.{filter}
use Rattle.words.proofs.Listed.{filter_no, filter_append}
use Rattle.words.proofs.Counted.{filter_short}
use Rattle.regions.specs.declared.Region.{Region}
use Rattle.regions.specs.Limits.{region_width}
use Rattle.regions.specs.Calls.{region_words}
use Rattle.answers.specs.Items.{written_from}
use Rattle.answers.proofs.Items.{from_none, from_long, from_append}
use Rattle.tally.specs.declared.Task.{Task}
use Rattle.tally.specs.declared.Tally.{Tally}
use Rattle.tally.specs.Tasks.{accepts}
use Rattle.tally.specs.Tallies.{last_found, taken, Tallied, stepped}

-- one region taken
abbrev pub counted : Tally → Region → Tally
counted t a = record { total = t.total + 1; steps = t.steps; last = Some a }

module _ {task : Task} {out : List ℕ} {t : Tally} where
  -- ONE REGION MET: not asked for, or taken
  pub tallied_pass : {a : Region} → accepts task a ≡ false → Tallied task out t (a ∷ []) 0 out t
  unfolding filter last_found
  tallied_pass {a} h =
      let e : taken task (a ∷ []) ≡ [] = filter_no (accepts task) a [] h in
      record {
        words = rw e (sym (from_none region_words region_width t.total out));
        total = rw e (omega arith);
        steps = omega arith;
        last = rw e;
      }

  pub tallied_take : {a : Region} {out' : List ℕ} → accepts task a ≡ true → out' ≡ written_from region_words region_width t.total out (a ∷ [])
      → Tallied task out t (a ∷ []) 0 out' (counted t a)
  unfolding filter last_found
  tallied_take {a} h w = record { words = rw h w; total = rw h; steps = omega arith; last = rw h }

-- WHAT IS STILL TO BE MET: whatever meets it makes the whole. At most so many were taken, and steps made, by now
pub record Leads (task : Task) (out₀ : List ℕ) (t₀ : Tally) (whole : List Region) (all : ℕ) (out : List ℕ) (t : Tally) (rest : List Region) (n most : ℕ) : Type 0 where
  pub on : (out' : List ℕ) (t' : Tally) → Tallied task out t rest n out' t' → Tallied task out₀ t₀ whole all out' t'
  pub long : length out ≡ length out₀
  pub total : t.total ≤ t₀.total + most
  pub steps : t.steps ≤ t₀.steps + most

pub leads_all : {task : Task} {out : List ℕ} {t : Tally} {whole : List Region} {all : ℕ} → Leads task out t whole all out t whole all 0
leads_all = record { on = λ out' t' r. r; long = refl; total = omega arith; steps = omega arith }

pub last_append : (f : Option Region) (xs ys : List Region) → last_found f (xs ++ ys) ≡ last_found (last_found f xs) ys
unfolding last_found
last_append f [] ys = refl
last_append f (x ∷ xs) ys = last_append (Some x) xs ys

module _ {task : Task} {out : List ℕ} {t : Tally} where
  pub tallied_short : {rs : List Region} {n : ℕ} {out' : List ℕ} {t' : Tally} → Tallied task out t rs n out' t' → t'.total ≤ t.total + length rs
  tallied_short {rs} r = omega (arith, r.total, filter_short (accepts task) rs)

  -- NOTHING MET
  pub tallied_none : Tallied task out t [] 0 out t
  unfolding filter last_found
  tallied_none = record { words = sym (from_none region_words region_width t.total out); total = omega arith; steps = omega arith; last = refl }

  pub tallied_step : {t' : Tally} → t' ≡ stepped t → Tallied task out t [] 1 out t'
  unfolding filter last_found
  tallied_step e =
      subst (λ (u : Tally). Tallied task out t [] 1 out u) (sym e)
      (record { words = sym (from_none region_words region_width t.total out); total = omega arith; steps = refl; last = refl })

  -- FIRST SOME, THEN MORE
  pub tallied_then : {xs ys : List Region} {n m : ℕ} {out' out'' : List ℕ} {t' t'' : Tally} → Tallied task out t xs n out' t' → Tallied task out' t' ys m out'' t''
      → Tallied task out t (xs ++ ys) (n + m) out'' t''
  tallied_then {xs} {ys} {n} {m} {out'} {out''} r s =
      let e : taken task (xs ++ ys) ≡ taken task xs ++ taken task ys = filter_append (accepts task) xs ys in
      record {
        words = rw (e, from_append region_words region_width (λ a. refl) t.total out (taken task xs) (taken task ys), ← r.words, ← r.total) s.words;
        total = rw (e, length-append (taken task xs) (taken task ys)) (omega (arith, r.total, s.total));
        steps = omega (arith, r.steps, s.steps);
        last = rw (e, last_append t.last (taken task xs) (taken task ys), ← r.last) s.last;
      }

module _ {task : Task} {out₀ out : List ℕ} {t₀ t : Tally} {whole rest : List Region} {all n most : ℕ} (l : Leads task out₀ t₀ whole all out t rest n most) where
  -- a part of it was met
  pub leads_on : {some more : List Region} {m k most' : ℕ} {out₁ : List ℕ} {t₁ : Tally} → Tallied task out t some m out₁ t₁ → rest ≡ some ++ more → n ≡ m + k
      → most + length some ≤ most' → most + m ≤ most' → Leads task out₀ t₀ whole all out₁ t₁ more k most'
  leads_on {some} r e f a b =
      record {
        on = λ out' t' s. l.on out' t' (rw (e, f) (tallied_then r s));
        long = ap length r.words ∙ from_long region_words region_width t.total out (taken task some) ∙ l.long;
        total = omega (arith, l.total, tallied_short r);
        steps = omega (arith, l.steps, r.steps);
      }

  -- the last part was met; there was none
  pub leads_last : {out' : List ℕ} {t' : Tally} {last : List Region} {m : ℕ} → Tallied task out t last m out' t' → rest ≡ last → n ≡ m → Tallied task out₀ t₀ whole all out' t'
  leads_last {out'} {t'} r e f = l.on out' t' (rw (e, f) r)

  pub leads_done : rest ≡ [] → n ≡ 0 → Tallied task out₀ t₀ whole all out t
  leads_done e f = leads_last tallied_none e f

module _ {task : Task} {out : List ℕ} {t : Tally} where
  -- the same regions, said otherwise
  pub tallied_same : {xs ys : List Region} {n : ℕ} {out' : List ℕ} {t' : Tally} → xs ≡ ys → Tallied task out t xs n out' t' → Tallied task out t ys n out' t'
  tallied_same {n = n} {out' = out'} {t' = t'} e r = subst (λ (l : List Region). Tallied task out t l n out' t') e r
