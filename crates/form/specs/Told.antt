-- What a reader's answer comes to in numbers: what was read, and 0 where it was refused.
-- Assumes nothing.
use Rattle.std.specs.Prelude.{ℕ, Result, Ok, Err}
use Rattle.regions.specs.Numbers.{DONE}
use Rattle.regions.specs.Refusals.{refusal_number}
use Rattle.form.specs.Form.{Shares, no_shares}
use Rattle.form.specs.declared.Given.{Given}
use Rattle.form.specs.declared.RefusedLine.{RefusedLine}

abbrev pub told : {A E : Type 0} → (A → ℕ) → Result A E → ℕ
told f (Ok x) = f x
told f (Err _) = 0

-- of what reads from a line on: its number, and the line that it is refused at, or else the next one
abbrev pub number_heard : {A : Type 0} → Result A RefusedLine → ℕ
number_heard (Ok _) = DONE
number_heard (Err r) = refusal_number r.refusal

abbrev pub line_told : {A : Type 0} → (A → ℕ) → Result A RefusedLine → ℕ
line_told f (Ok x) = f x
line_told f (Err r) = r.line

abbrev pub shares_told : Result Given RefusedLine → Shares
shares_told (Ok g) = record { sixteen = g.shares; from = g.from }
shares_told (Err _) = no_shares
