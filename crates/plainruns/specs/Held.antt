-- Read off a history alone, that is, off its calls and the answers given: what a set holds, and which words of a part a round has written since
-- its seat was opened.
-- Assumes nothing.
use Rattle.std.specs.Prelude.{ℕ, ◌*◌, ◌≡◌, Bool, true, false, ◌&&◌, cond, List, [], ◌∷◌, ◌++◌, ltb, eqb, get_or}
use Rattle.words.specs.Lists.{All}
use Rattle.regions.specs.declared.Region.{Region}
use Rattle.regions.specs.Numbers.{DONE}
use Rattle.plainruns.specs.Calls.{Which, Call, Shown, Done}
use Rattle.plainruns.specs.Calls.Which.{outer, inner}
use Rattle.plainruns.specs.Calls.Call.{save, delete, look, round, open_seat, close_seat, ask_part, ask_part_no, no_batch}

abbrev pub is_which : Which → Which → Bool
is_which outer outer = true
is_which outer inner = false
is_which inner outer = false
is_which inner inner = true

-- answered 0
abbrev pub is_done : Shown → Bool
is_done x = eqb x.number DONE

-- WHAT A SET HOLDS. A save or delete in set w of the start p
abbrev pub is_about : Which → ℕ → Call → Bool
is_about w p (save v a r) = is_which v w && eqb r.start p
is_about w p (delete v a q) = is_which v w && eqb q p
is_about w p (look a o) = false
is_about w p (round x y) = false
is_about w p (open_seat i a k l) = false
is_about w p (close_seat i) = false
is_about w p (ask_part i n) = false
is_about w p (ask_part_no i n) = false
is_about w p (no_batch v ws places) = false

-- and an accepted one
abbrev pub decides : Which → ℕ → Done → Bool
decides w p d = is_done d.told.shown && is_about w p d.call

-- what stands at its start behind it: a save's region, behind a delete none
abbrev pub brought_by : Call → List Region
brought_by (save v a r) = r ∷ []
brought_by (delete v a q) = []
brought_by (look a o) = []
brought_by (round x y) = []
brought_by (open_seat i a k l) = []
brought_by (close_seat i) = []
brought_by (ask_part i n) = []
brought_by (ask_part_no i n) = []
brought_by (no_batch v ws places) = []

-- what is held at start p in set w behind a history, none or one, if `before` was held there before it: the last accepted save or delete decides
unfoldable pub held_from : Which → ℕ → List Region → List Done → List Region
held_from w p before [] = before
held_from w p before (d ∷ ds) = held_from w p (cond (decides w p d) (brought_by d.call) before) ds

-- the last accepted save or delete of r's start in set w was a save of r: `it`, by account `by`
pub record Stands (w : Which) (r : Region) (ds : List Done) : Type 0 where
  pub earlier : List Done
  pub it : Done
  pub since : List Done
  pub by : ℕ
  pub whole : ds ≡ earlier ++ it ∷ since
  pub saves : it.call ≡ save w by r
  pub accepted : it.told.shown.number ≡ DONE
  pub untouched : All (λ d. decides w r.start d ≡ false) since

-- WORDS OF A PART. Seat i was opened; a round wrote word k of seat i's part, having told its count
abbrev pub opens_seat : ℕ → Call → Bool
opens_seat i (save v a r) = false
opens_seat i (delete v a q) = false
opens_seat i (look a o) = false
opens_seat i (round x y) = false
opens_seat i (open_seat j a k l) = eqb j i
opens_seat i (close_seat j) = false
opens_seat i (ask_part j n) = false
opens_seat i (ask_part_no j n) = false
opens_seat i (no_batch v ws places) = false

abbrev pub is_round : Call → Bool
is_round (save v a r) = false
is_round (delete v a q) = false
is_round (look a o) = false
is_round (round x y) = true
is_round (open_seat j a k l) = false
is_round (close_seat j) = false
is_round (ask_part j n) = false
is_round (ask_part_no j n) = false
is_round (no_batch v ws places) = false

abbrev pub writes_word : ℕ → ℕ → Done → Bool
writes_word i k d = is_round d.call && ltb k (4 * get_or d.told.shown.counts i 0)

-- whether a round has written it since the seat was opened, if `before` says so of what came before the history
unfoldable pub wrote_from : ℕ → ℕ → Bool → List Done → Bool
wrote_from i k before [] = before
wrote_from i k before (d ∷ ds) =
    wrote_from i k (cond (is_done d.told.shown && opens_seat i d.call) false (cond (writes_word i k d) true before)) ds
