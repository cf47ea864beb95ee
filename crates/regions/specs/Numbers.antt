-- Document 01, "Refusals by number": the table's names, and how a call comes to its number.
-- Assumes nothing.
use Rattle.std.specs.Prelude.{ℕ, Bool, cond, eqb}

abbrev pub DONE : ℕ
DONE = 0

abbrev pub IMAGE : ℕ
IMAGE = 1

abbrev pub REGION : ℕ
REGION = 2

abbrev pub ACCOUNT : ℕ
ACCOUNT = 3

abbrev pub HELD : ℕ
HELD = 4

abbrev pub CROSS : ℕ
CROSS = 5

abbrev pub SHARE : ℕ
SHARE = 6

abbrev pub ABSENT : ℕ
ABSENT = 7

abbrev pub SHARES : ℕ
SHARES = 8

abbrev pub SEAT : ℕ
SEAT = 9

abbrev pub LIMIT : ℕ
LIMIT = 10

abbrev pub DESK : ℕ
DESK = 11

abbrev pub FORM : ℕ
FORM = 12

-- (change request C-14)
abbrev pub ROOM : ℕ
ROOM = 13

-- (change request C-15)
abbrev pub LEVEL : ℕ
LEVEL = 14

-- what is so where the number is 0, and what where the call is refused
abbrev pub unless : {X : Type 0} → ℕ → X → X → X
unless number done refused = cond (eqb number DONE) done refused

-- every call on an image tests IMAGE before all else
abbrev pub image_first : Bool → ℕ → ℕ
image_first fits number = cond fits number IMAGE
