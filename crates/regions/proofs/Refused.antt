-- A refusal's number is never 0, and no two refusals share one: so the number that an answer is told by fixes which refusal it is.
-- Assumes nothing.
use Prim.Native.Nat.{ℕ, ◌-◌}
use mathlib.Core.Path.{◌≡◌, refl, sym, ap, ◌∙◌}
use mathlib.Core.List.{List, [], ◌∷◌}
use lib.ListN.{get_or}
use native.Mathlib.Omega.{arith}
use Rattle.std.specs.Prelude.{Result, Ok, Err}
use Rattle.regions.specs.Refusals.{refusal_number, number_told}
use Rattle.regions.specs.declared.Refusal.{Refusal}
use Rattle.regions.specs.declared.Refusal.TheVariants.{Image, Region, Account, Held, Cross, Share, Absent, Shares, Seat, Limit, Desk, Form, Room, Level}

pub refused_some : (r : Refusal) → refusal_number r ≡ 0 → ⊥
refused_some Image e = omega arith
refused_some Region e = omega arith
refused_some Account e = omega arith
refused_some Held e = omega arith
refused_some Cross e = omega arith
refused_some Share e = omega arith
refused_some Absent e = omega arith
refused_some Shares e = omega arith
refused_some Seat e = omega arith
refused_some Limit e = omega arith
refused_some Desk e = omega arith
refused_some Form e = omega arith
refused_some Room e = omega arith
refused_some Level e = omega arith

-- the refusals in the order of their numbers
abbrev table : List Refusal
table = Image ∷ Region ∷ Account ∷ Held ∷ Cross ∷ Share ∷ Absent ∷ Shares ∷ Seat ∷ Limit ∷ Desk ∷ Form ∷ Room ∷ Level ∷ []

named : (r : Refusal) → get_or table (refusal_number r - 1) Image ≡ r
named Image = refl
named Region = refl
named Account = refl
named Held = refl
named Cross = refl
named Share = refl
named Absent = refl
named Shares = refl
named Seat = refl
named Limit = refl
named Desk = refl
named Form = refl
named Room = refl
named Level = refl

pub same_refusal : (r s : Refusal) → refusal_number r ≡ refusal_number s → r ≡ s
same_refusal r s e = sym (named r) ∙ ap (λ (n : ℕ). get_or table (n - 1) Image) e ∙ named s

-- two answers that are told by one number are equal where what they answer when done is
pub same_told : {A : Type 0} (x y : Result A Refusal) → number_told x ≡ number_told y → ((a b : A) → x ≡ Ok a → y ≡ Ok b → a ≡ b) → x ≡ y
same_told (Ok a) (Ok b) e f = ap Ok (f a b refl refl)
same_told (Ok a) (Err s) e f = absurd (refused_some s (sym e))
same_told (Err r) (Ok b) e f = absurd (refused_some r e)
same_told (Err r) (Err s) e f = ap Err (same_refusal r s e)
