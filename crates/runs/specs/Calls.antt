-- Runs of the public calls: what a caller lends (two images, eight seats, a round buffer), one call by its own record, a run of calls and batches, and how it begins.
-- Assumes nothing.
use Rattle.std.specs.Prelude.{ℕ, suc, ◌*◌, ◌<◌, min, ◌≡◌, Bool, true, false, List, [], ◌∷◌, ◌++◌, length, take, drop, get_or, replicate, Option, Result}
use Rattle.std.specs.Borrow.{Bor}
use Rattle.regions.specs.Limits.{account_count, buffer_words}
use Rattle.regions.specs.declared.Region.{Region}
use Rattle.regions.specs.declared.Choice.{Choice}
use Rattle.regions.specs.declared.Kind.{Kind}
use Rattle.regions.specs.declared.Mark.{Mark}
use Rattle.regions.specs.declared.Open.{Open}
use Rattle.regions.specs.declared.Seat.{Seat}
use Rattle.regions.specs.Sets.{Set}
use Rattle.regions.specs.Numbers.{DONE}
use Rattle.regions.specs.Refusals.{number_told}
use Rattle.regions.specs.declared.Refusal.{Refusal}
use Rattle.regions.specs.Items.{Item, items_of}
use Rattle.regions.specs.Items.Item.{save_item, delete_item, unknown_item}
use Rattle.regions.specs.Desk.{closed, open_at, seat_at, seat_word}
use Rattle.image.specs.Read.{set_of}
use Rattle.image.specs.Valid.{valid}
use Rattle.index.specs.Opening.{OpensSet}
use Rattle.index.specs.Changes.{Saves, Deletes}
use Rattle.index.specs.Batches.{Single, Batches}
use Rattle.queries.specs.Searches.{FindsAncestors, FindsParent, FindsDescendants, FindsChildren, parent_found}
use Rattle.queries.specs.Joins.{JoinsSets}
use Rattle.desk.specs.Promises.{OpensDesk, OpensSeat, ClosesSeat, Rounds, LendsPart, PartNumber}
use Rattle.plainruns.specs.Calls.{Which, State, Call, Shown, Answer, Done, left, Served, Passed}
use Rattle.plainruns.specs.Calls.Which.{outer, inner}
use Rattle.plainruns.specs.Calls.Look.{ancestor_search, parent_search, descendant_search, child_search, join, no_item}
use Rattle.plainruns.specs.Calls.Call.{save, delete, look, round, open_seat, close_seat, ask_part, ask_part_no, no_batch}

-- WHAT THE CALLER LENDS, in words and seats
pub record Lent : Type 0 where
  pub outer_image : List ℕ
  pub inner_image : List ℕ
  pub desk : List Seat
  pub buffer : List ℕ

abbrev pub image_of : Which → Lent → List ℕ
image_of outer l = l.outer_image
image_of inner l = l.inner_image

abbrev pub with_image : Which → List ℕ → Lent → Lent
with_image outer w l = record { outer_image = w; inner_image = l.inner_image; desk = l.desk; buffer = l.buffer }
with_image inner w l = record { outer_image = l.outer_image; inner_image = w; desk = l.desk; buffer = l.buffer }

abbrev pub with_seats : List Seat → List ℕ → Lent → Lent
with_seats desk buffer l = record { outer_image = l.outer_image; inner_image = l.inner_image; desk = desk; buffer = buffer }

-- both images valid
abbrev pub Valid : Lent → Type 0
Valid l = (w : Which) → valid (image_of w l) ≡ true

-- THE ANSWERS of the calls, all in the one form of histories
abbrev pub tells : ℕ → ℕ → Bool → List Region → List ℕ → ℕ → Answer
tells number count more found words steps =
    record { shown = record { number = number; count = count; more = more; found = found; counts = []; hands = []; words = words }; steps = steps }

-- a round tells eight counts; the words handed to a seat are those that its count points at in the buffer
unfoldable pub parts_of : ℕ → List ℕ → List ℕ → List (List ℕ)
parts_of i [] b = []
parts_of i (n ∷ ns) b = take (4 * n) (drop (seat_word i) b) ∷ parts_of (suc i) ns b

abbrev pub tells_round : ℕ → List ℕ → List ℕ → Answer
tells_round number counts buffer =
    record { shown = record { number = number; count = 0; more = false; found = []; counts = counts; hands = parts_of 0 counts buffer; words = [] }; steps = 0 }

-- ONE CALL from what is lent before to what is lent afterwards: the call's own record
pub data Does : Lent → Call → Answer → Lent → Type 0 where
  saves : {l : Lent} {a : ℕ} {r : Region} {number : ℕ} {w' : List ℕ} (w : Which) → Saves (image_of w l) a r number w'
      → Does l (save w a r) (tells number 0 false [] [] 0) (with_image w w' l)
  deletes : {l : Lent} {a p : ℕ} {number : ℕ} {w' : List ℕ} (w : Which) → Deletes (image_of w l) a p number w'
      → Does l (delete w a p) (tells number 0 false [] [] 0) (with_image w w' l)
  finds_ancestors : {l : Lent} {a p : ℕ} {ch : Choice} {out : List ℕ} {number total steps : ℕ} {out' : List ℕ} (w : Which)
      → FindsAncestors (image_of w l) a p ch out number total steps out' → Does l (look a (ancestor_search w p ch out)) (tells number total false [] out' steps) l
  finds_parent : {l : Lent} {a p v : ℕ} {x : Result (Option Region) Refusal} (w : Which) → FindsParent (image_of w l) a p v x
      → Does l (look a (parent_search w p v)) (tells (number_told x) 0 false (parent_found x) [] 0) l
  finds_descendants : {l : Lent} {a b e f : ℕ} {out : List ℕ} {number count : ℕ} {more : Bool} {out' : List ℕ} (w : Which)
      → FindsDescendants (image_of w l) a b e f out number count more out' → Does l (look a (descendant_search w b e f out)) (tells number count more [] out' 0) l
  finds_children : {l : Lent} {a b e v f : ℕ} {out : List ℕ} {number count : ℕ} {more : Bool} {out' : List ℕ} (w : Which)
      → FindsChildren (image_of w l) a b e v f out number count more out' → Does l (look a (child_search w b e v f out)) (tells number count more [] out' 0) l
  joins_sets : {l : Lent} {a : ℕ} {k : Kind} {out : List ℕ} {number total : ℕ} {out' : List ℕ} (x y : Which)
      → JoinsSets (image_of x l) (image_of y l) a k out number total out' → Does l (look a (join x y k out)) (tells number total false [] out' 0) l
  rounds : {l : Lent} {number : ℕ} {counts : List ℕ} {desk' : List Seat} {buffer' : List ℕ} (x y : Which)
      → Rounds (image_of x l) (image_of y l) l.desk l.buffer number counts desk' buffer'
      → Does l (round x y) (tells_round number counts buffer') (with_seats desk' buffer' l)
  opens_seat : {l : Lent} {number : ℕ} {desk' : List Seat} (i a : ℕ) (k : Kind) (limit : ℕ) → OpensSeat l.desk i a k limit number desk'
      → Does l (open_seat i a k limit) (tells number 0 false [] [] 0) (with_seats desk' l.buffer l)
  closes_seat : {l : Lent} {number : ℕ} {desk' : List Seat} (i : ℕ) → ClosesSeat l.desk i number desk'
      → Does l (close_seat i) (tells number 0 false [] [] 0) (with_seats desk' l.buffer l)
  -- the buffer is lent by some reference, and the part stands in it; what is told is the words of the part
  parts : {l : Lent} {buffer r : Bor (List ℕ)} (i n : ℕ) → buffer.now ≡ l.buffer → LendsPart l.desk buffer i n r
      → Does l (ask_part i n) (tells 0 0 false [] r.now 0) l
  part_numbers : {l : Lent} {number : ℕ} (i n : ℕ) → PartNumber l.desk l.buffer i n number → Does l (ask_part_no i n) (tells number 0 false [] [] 0) l
  -- an item of a batch that is neither a save nor a delete, and a batch that is refused as a whole
  refuses_item : {l : Lent} {a k : ℕ} {number : ℕ} {w' : List ℕ} (w : Which) → Single (image_of w l) (unknown_item a k) number w'
      → Does l (look a (no_item w k)) (tells number 0 false [] [] 0) (with_image w w' l)
  refuses_batch : {l : Lent} {words places : List ℕ} {number : ℕ} {w' places' : List ℕ} (w : Which) → Batches (image_of w l) words places number w' places' → (number ≡ DONE → ⊥)
      → Does l (no_batch w words places) (tells number 0 false [] places' 0) (with_image w w' l)

-- A BATCH (change request C-14) counts as the calls of its items, each of its account and answered by the number in its place
abbrev pub item_call : Which → Item → Call
item_call w (save_item a r) = save w a r
item_call w (delete_item a p) = delete w a p
item_call w (unknown_item a k) = look a (no_item w k)

abbrev pub items_done : Which → List Item → List ℕ → List Done
items_done w [] places = []
items_done w (i ∷ is) [] = []
items_done w (i ∷ is) (n ∷ places) = record { call = item_call w i; told = tells n 0 false [] [] 0 } ∷ items_done w is places

-- A RUN: call after call, batches that are not refused as a whole among them, and nobody else writes in between
pub data Runs : Lent → List Done → Lent → Type 0 where
  stop : {l : Lent} → Runs l [] l
  go : {l m n : Lent} {d : Done} {ds : List Done} → Does l d.call d.told m → Runs m ds n → Runs l (d ∷ ds) n
  batch : {l n : Lent} {words places w' places' : List ℕ} {ds : List Done} (w : Which) → Batches (image_of w l) words places DONE w' places' → Runs (with_image w w' l) ds n
      → Runs l (items_done w (items_of words) places' ++ ds) n

-- and one of single calls alone
pub data Singles : Lent → List Done → Lent → Type 0 where
  none : {l : Lent} → Singles l [] l
  then : {l m n : Lent} {d : Done} {ds : List Done} → Does l d.call d.told m → Singles m ds n → Singles l (d ∷ ds) n

-- HOW A RUN BEGINS: two sets opened with sixteen shares each and the desk opened, all three answered 0; a buffer of 1,024 words, any ones
pub record Ready (so si : List ℕ) (l : Lent) : Type 0 where
  pub outer_lent : List ℕ
  pub inner_lent : List ℕ
  pub desk_lent : List Seat
  pub outer_shares : length so ≡ account_count
  pub inner_shares : length si ≡ account_count
  pub opens_outer : OpensSet outer_lent so DONE l.outer_image
  pub opens_inner : OpensSet inner_lent si DONE l.inner_image
  pub opens_desk : OpensDesk desk_lent DONE l.desk
  pub buffer_is : length l.buffer ≡ buffer_words

-- WHAT IT MEANS: the two sets that the images mean, the seats, the buffer; beside it the notes of histories, which no call reads and nobody lends
abbrev pub meaning : Lent → List Bool → State
meaning l notes = record { outer_set = set_of l.outer_image; inner_set = set_of l.inner_image; desk = l.desk; buffer = l.buffer; wrote = notes }

-- at the beginning no round has written any word
abbrev pub unwritten : List Bool
unwritten = replicate buffer_words false

-- WHAT A ROUND HANDS over X and Y, from l to m, answered by z: number 0 and eight counts; every open seat is served, as many as its limit or all that are left
-- if these are fewer; every closed one is passed
abbrev pub RoundHands : Set → Set → Lent → Lent → Shown → Type 0
RoundHands X Y l m z =
    (z.number ≡ 0) × (length z.counts ≡ 8)
    × ((i : ℕ) (o : Open) → i < 8 → seat_at l.desk i ≡ open_at o
    → Served X Y (meaning l unwritten) (meaning m unwritten) z i o (min o.limit (length (left X Y o))) (take o.limit (left X Y o)))
    × ((i : ℕ) → i < 8 → seat_at l.desk i ≡ closed → Passed (meaning l unwritten) (meaning m unwritten) z i)

-- seat i has been opened for an account and a kind, with that limit stored, and is open still: a round over X and Y, from l, tells as many pairs as its
-- limit, or all that are left if these are fewer
pub record HandsUpTo (limit : ℕ) (X Y : Set) (l : Lent) (z : Shown) (i a : ℕ) (k : Kind) : Type 0 where
  pub mark : Mark
  pub seat_is : seat_at l.desk i ≡ open_at (record { account = a; kind = k; limit = limit; mark = mark })
  pub told_count : get_or z.counts i 0 ≡ min limit (length (left X Y (record { account = a; kind = k; limit = limit; mark = mark })))
