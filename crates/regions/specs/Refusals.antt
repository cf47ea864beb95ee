-- Document 01, "Refusals by number": what a refusal is, beside its number, and the number of an answer.
-- Assumes nothing.
use Rattle.std.specs.Prelude.{ℕ, Result, Ok, Err}
use Rattle.regions.specs.Numbers.{DONE, IMAGE, REGION, ACCOUNT, HELD, CROSS, SHARE, ABSENT, SHARES, SEAT, LIMIT, DESK, FORM, ROOM, LEVEL}
use Rattle.regions.specs.declared.Refusal.{Refusal}
use Rattle.regions.specs.declared.Refusal.TheVariants.{Image, Region, Account, Held, Cross, Share, Absent, Shares, Seat, Limit, Desk, Form, Room, Level}

abbrev pub refusal_number : Refusal → ℕ
refusal_number Image = IMAGE
refusal_number Region = REGION
refusal_number Account = ACCOUNT
refusal_number Held = HELD
refusal_number Cross = CROSS
refusal_number Share = SHARE
refusal_number Absent = ABSENT
refusal_number Shares = SHARES
refusal_number Seat = SEAT
refusal_number Limit = LIMIT
refusal_number Desk = DESK
refusal_number Form = FORM
refusal_number Room = ROOM
refusal_number Level = LEVEL

-- a call that was done is told as DONE, a refused one by its refusal's number
abbrev pub number_told : {A : Type 0} → Result A Refusal → ℕ
number_told (Ok _) = DONE
number_told (Err r) = refusal_number r
