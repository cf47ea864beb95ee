-- Histories: what two sets, the desk and the round buffer are, the calls on them, what each call answers and leaves, runs of calls, and the
-- words of demand 3 (one account's calls left out, answers that agree, a seat served).
-- Assumes nothing.
use Rattle.std.specs.Prelude.{ℕ, ◌+◌, ◌*◌, ◌<◌, ◌≤◌, min, ◌≡◌, Bool, true, false, not, ◌||◌, eqb, length, take, drop, get_or, set, replicate}
use mathlib.Core.List.{List, [], ◌∷◌, map, flat_map}
use Rattle.std.proofs.lemmas.List.Edits.{sets}
use Rattle.words.specs.Lists.{filter}
use Rattle.regions.specs.declared.Region.{Region}
use Rattle.regions.specs.declared.Choice.{Choice}
use Rattle.regions.specs.declared.Kind.{Kind}
use Rattle.regions.specs.declared.Open.{Open}
use Rattle.regions.specs.declared.State.{State as SeatState}
use Rattle.regions.specs.declared.State.TheVariants.{Closed, Open as Serving}
use Rattle.regions.specs.declared.Seat.{Seat}
use Rattle.regions.specs.Sets.{Set, empty_set, saved, deleted}
use Rattle.regions.specs.Numbers.{DONE, IMAGE, DESK, FORM, unless}
use Rattle.regions.specs.Limits.{region_width, pair_width, account_count, buffer_words, seat_width}
use Rattle.regions.specs.Calls.{written, count_written, more_remain, region_words, open_set_no, save_no, delete_no, point_no, ancestors, parent, bounds_no, descendants, children, Pair, joined, join_no, pair_words}
use Rattle.regions.specs.Items.{batch_no}
use Rattle.regions.specs.Desk.{past, mark_behind, closed, open_at, opened, seat_at, open_seat_no, close_seat_no, turned, handed_words, seat_word, poured, served, counts, round_no, part_no, part}

-- WHAT THE CALLER HAS: two sets, the desk, one round buffer. Every call names a set by its place, so there is no third one; a call that
-- takes two sets may take them in either order, or one of them twice
pub data Which : Type 0 where
  outer : Which
  inner : Which

-- `wrote` stands beside the buffer and no call reads it: of each word, whether a round has written it since its seat was opened
pub record State : Type 0 where
  pub outer_set : Set
  pub inner_set : Set
  pub desk : List Seat
  pub buffer : List ℕ
  pub wrote : List Bool

abbrev pub set_of : Which → State → Set
set_of outer s = s.outer_set
set_of inner s = s.inner_set

abbrev pub with_set : Which → Set → State → State
with_set outer S s = record { outer_set = S; inner_set = s.inner_set; desk = s.desk; buffer = s.buffer; wrote = s.wrote }
with_set inner S s = record { outer_set = s.outer_set; inner_set = S; desk = s.desk; buffer = s.buffer; wrote = s.wrote }

abbrev pub with_desk : List Seat → List ℕ → List Bool → State → State
with_desk desk buffer wrote s = record { outer_set = s.outer_set; inner_set = s.inner_set; desk = desk; buffer = buffer; wrote = wrote }

-- THE CALLS. What an account asks without changing anything: the searches, the join among them, and an item of a batch that is neither a save nor a delete, with the word that should say which.
-- The words lent for an answer come as they are before the call. The account stands in the call
pub data Look : Type 0 where
  ancestor_search : Which → ℕ → Choice → List ℕ → Look
  parent_search : Which → ℕ → ℕ → Look
  descendant_search : Which → ℕ → ℕ → ℕ → List ℕ → Look
  child_search : Which → ℕ → ℕ → ℕ → ℕ → List ℕ → Look
  join : Which → Which → Kind → List ℕ → Look
  no_item : Which → ℕ → Look

-- all calls but an opening of a set or of the desk. `ask_part` is answered by words, `ask_part_no` by the number that belongs to them. A batch (change request C-14) stands here as its items, each the
-- call of its account; only where it is refused as a whole it is a call itself, `no_batch`, of no account: the words of its items, and the places for answers as they are before it
pub data Call : Type 0 where
  save : Which → ℕ → Region → Call
  delete : Which → ℕ → ℕ → Call
  look : ℕ → Look → Call
  round : Which → Which → Call
  open_seat : ℕ → ℕ → Kind → ℕ → Call
  close_seat : ℕ → Call
  ask_part : ℕ → ℕ → Call
  ask_part_no : ℕ → ℕ → Call
  no_batch : Which → List ℕ → List ℕ → Call

-- WHAT A CALL ANSWERS, but for its step count. One record for all calls: what a call does not answer is 0, false or empty.
-- `found` is the parent search's region or none; `words` are the lent words afterwards, or a part; `counts` and `hands` are a round's: how many
-- pairs each seat is handed, and the words of these pairs
pub record Shown : Type 0 where
  pub number : ℕ
  pub count : ℕ
  pub more : Bool
  pub found : List Region
  pub counts : List ℕ
  pub hands : List (List ℕ)
  pub words : List ℕ

-- the whole answer. Nothing is said here of a step count: it reads the image, not the set
pub record Answer : Type 0 where
  pub shown : Shown
  pub steps : ℕ

abbrev pub says : ℕ → Shown
says number = record { number = number; count = 0; more = false; found = []; counts = []; hands = []; words = [] }

-- a refused search leaves the lent words
abbrev pub refuses : ℕ → List ℕ → Shown
refuses number out = record { number = number; count = 0; more = false; found = []; counts = []; hands = []; words = out }

-- the total, and as many as fit
abbrev pub lists : List ℕ → List Region → Shown
lists out rs =
    record { number = DONE; count = length rs; more = false; found = []; counts = []; hands = []; words = written region_words region_width out rs }

-- how many were written, whether more remain, and these
abbrev pub pages : List ℕ → List Region → Shown
pages out rs =
    record {
      number = DONE;
      count = count_written region_width out rs;
      more = more_remain region_width out rs;
      found = [];
      counts = [];
      hands = [];
      words = written region_words region_width out rs;
    }

abbrev pub finds : List Region → Shown
finds rs = record { number = DONE; count = 0; more = false; found = rs; counts = []; hands = []; words = [] }

abbrev pub joins : List ℕ → List Pair → Shown
joins out qs = record { number = DONE; count = length qs; more = false; found = []; counts = []; hands = []; words = written pair_words pair_width out qs }

abbrev pub deals : List ℕ → List (List ℕ) → Shown
deals ns hs = record { number = DONE; count = 0; more = false; found = []; counts = ns; hands = hs; words = [] }

abbrev pub deals_none : ℕ → Shown
deals_none number = record { number = number; count = 0; more = false; found = []; counts = replicate 8 0; hands = replicate 8 []; words = [] }

abbrev pub hands_back : List ℕ → Shown
hands_back ws = record { number = DONE; count = 0; more = false; found = []; counts = []; hands = []; words = ws }

-- a search by its account
unfoldable pub looked : ℕ → Look → State → Shown
looked a (ancestor_search w p ch out) s = unless (point_no a p) (lists out (ancestors ch p (set_of w s))) (refuses (point_no a p) out)
looked a (parent_search w p l) s = unless (point_no a p) (finds (parent p l (set_of w s))) (says (point_no a p))
looked a (descendant_search w b e after out) s = unless (bounds_no a b e) (pages out (descendants b e after (set_of w s))) (refuses (bounds_no a b e) out)
looked a (child_search w b e l after out) s = unless (bounds_no a b e) (pages out (children b e l after (set_of w s))) (refuses (bounds_no a b e) out)
looked a (join x y k out) s = unless (join_no a) (joins out (joined (set_of x s) (set_of y s) a k)) (refuses (join_no a) out)
looked a (no_item w k) s = says FORM

-- a round over two sets
abbrev pub dealt : Set → Set → List Seat → Shown
dealt X Y desk = deals (counts X Y desk) (map (handed_words X Y) desk)

unfoldable pub answer : Call → State → Shown
answer (save w a r) s = says (save_no (set_of w s) a r)
answer (delete w a p) s = says (delete_no (set_of w s) a p)
answer (look a o) s = looked a o s
answer (round x y) s = unless (round_no s.desk s.buffer) (dealt (set_of x s) (set_of y s) s.desk) (deals_none (round_no s.desk s.buffer))
answer (open_seat i a k l) s = says (open_seat_no s.desk i a l)
answer (close_seat i) s = says (close_seat_no s.desk i)
answer (ask_part i n) s = hands_back (part s.desk s.buffer i n)
answer (ask_part_no i n) s = says (part_no s.desk s.buffer i n)
answer (no_batch w ws places) s = refuses (batch_no (length ws) (length places)) places

-- WHAT A CALL LEAVES: a refused call and a search, all as it was
abbrev pub is_written : ℕ → Bool
is_written n = true

-- the words that a round writes for a seat, as notes
abbrev pub noted : Set → Set → Seat → List Bool
noted X Y s = map is_written (handed_words X Y s)

-- behind a round: marks moved, the buffer's words written, and noted
abbrev pub behind_round : Set → Set → State → State
behind_round X Y s = with_desk (map (turned X Y) s.desk) (served X Y s.desk s.buffer) (poured (noted X Y) 0 s.desk s.wrote) s

-- behind the opening of a seat: no round has written its 128 words since
abbrev pub unnoted : ℕ → List Bool → List Bool
unnoted i wrote = sets wrote (seat_word i) (replicate seat_width false)

abbrev pub behind_open : ℕ → Seat → State → State
behind_open i seat s = with_desk (set s.desk i seat) s.buffer (unnoted i s.wrote) s

abbrev pub behind_close : ℕ → State → State
behind_close i s = with_desk (set s.desk i closed) s.buffer s.wrote s

unfoldable pub next : Call → State → State
next (save w a r) s = unless (save_no (set_of w s) a r) (with_set w (saved r (set_of w s)) s) s
next (delete w a p) s = unless (delete_no (set_of w s) a p) (with_set w (deleted p (set_of w s)) s) s
next (look a o) s = s
next (round x y) s = unless (round_no s.desk s.buffer) (behind_round (set_of x s) (set_of y s) s) s
next (open_seat i a k l) s = unless (open_seat_no s.desk i a l) (behind_open i (opened a k l) s) s
next (close_seat i) s = unless (close_seat_no s.desk i) (behind_close i s) s
next (ask_part i n) s = s
next (ask_part_no i n) s = s
next (no_batch w ws places) s = s

-- RUNS. One call with its answer, from a state to the next: nobody else writes in between
pub record Step (s : State) (c : Call) (a : Answer) (t : State) : Type 0 where
  pub answers : a.shown ≡ answer c s
  pub leaves : t ≡ next c s

-- a history: calls with the answers given
pub record Done : Type 0 where
  pub call : Call
  pub told : Answer

pub data Run : State → List Done → State → Type 0 where
  none : {s : State} → Run s [] s
  then : {s t u : State} {d : Done} {ds : List Done} → Step s d.call d.told t → Run t ds u → Run s (d ∷ ds) u

abbrev pub calls_of : List Done → List Call
calls_of ds = map (λ (d : Done). d.call) ds

-- HOW A HISTORY BEGINS: two sets opened with sixteen shares each, both answered 0, so both empty; all eight seats closed; 1,024 words, any ones,
-- and no round has written any
pub record Opened (so si : List ℕ) (s : State) : Type 0 where
  pub outer_shares : length so ≡ account_count
  pub inner_shares : length si ≡ account_count
  pub outer_done : open_set_no so ≡ DONE
  pub inner_done : open_set_no si ≡ DONE
  pub outer_is : s.outer_set ≡ empty_set so
  pub inner_is : s.inner_set ≡ empty_set si
  pub desk_is : s.desk ≡ replicate 8 closed
  pub buffer_is : length s.buffer ≡ buffer_words
  pub wrote_is : s.wrote ≡ replicate buffer_words false

-- an account's share of a set, as given at its opening
abbrev pub share_given : List ℕ → List ℕ → Which → ℕ → ℕ
share_given so si outer a = get_or so a 0
share_given so si inner a = get_or si a 0

-- LEAVING OUT AN ACCOUNT: its saves, deletes, searches and items, by the account that the call names, refused or not
abbrev pub by_account : ℕ → Call → Bool
by_account A (save w a r) = eqb a A
by_account A (delete w a p) = eqb a A
by_account A (look a o) = eqb a A
by_account A (round x y) = false
by_account A (open_seat i a k l) = false
by_account A (close_seat i) = false
by_account A (ask_part i n) = false
by_account A (ask_part_no i n) = false
by_account A (no_batch w ws places) = false

abbrev pub left_out : ℕ → List Call → List Call
left_out A cs = filter (λ c. not (by_account A c)) cs

-- a seat that reads an account is open for it
unfoldable pub state_reads : ℕ → SeatState → Bool
state_reads A Closed = false
state_reads A (Serving o) = eqb o.account A

abbrev pub reads : ℕ → Seat → Bool
reads A s = state_reads A s.state

-- word k of an answer may differ. Only a part has such words: all of them while its seat reads the account, and else those that no round has put there in this
-- opening of the seat
abbrev pub excepted : ℕ → State → Call → ℕ → Bool
excepted A s (save w a r) k = false
excepted A s (delete w a p) k = false
excepted A s (look a o) k = false
excepted A s (round x y) k = false
excepted A s (open_seat i a j l) k = false
excepted A s (close_seat i) k = false
excepted A s (ask_part i n) k = reads A (seat_at s.desk i) || not (get_or s.wrote (seat_word i + k) false)
excepted A s (ask_part_no i n) k = false
excepted A s (no_batch w ws places) k = false

-- TWO ANSWERS TO ONE CALL THAT AGREE, the first given in state s. Free are the step count (it is not shown), the count and words of a seat that reads the
-- account, and the words excepted; and even of these there are equally many. All else is the same
pub record Same (A : ℕ) (s : State) (c : Call) (x y : Shown) : Type 0 where
  pub number : x.number ≡ y.number
  pub count : x.count ≡ y.count
  pub more : x.more ≡ y.more
  pub found : x.found ≡ y.found
  pub counts_many : length x.counts ≡ length y.counts
  pub counts : (i : ℕ) → reads A (seat_at s.desk i) ≡ false → get_or x.counts i 0 ≡ get_or y.counts i 0
  pub hands_many : length x.hands ≡ length y.hands
  pub hands : (i : ℕ) → reads A (seat_at s.desk i) ≡ false → get_or x.hands i [] ≡ get_or y.hands i []
  pub words_many : length x.words ≡ length y.words
  pub words : (k : ℕ) → excepted A s c k ≡ false → get_or x.words k 0 ≡ get_or y.words k 0

-- a whole history, from state s, beside one in which the account's calls are left out: call by call, every answer that both have agrees
pub data Agree (A : ℕ) : State → List Done → List Done → Type 0 where
  ended : {s : State} → Agree A s [] []
  without : {s : State} {d : Done} {ds es : List Done} → by_account A d.call ≡ true → Agree A (next d.call s) ds es → Agree A s (d ∷ ds) es
  together : {s : State} {d e : Done} {ds es : List Done} → by_account A d.call ≡ false → d.call ≡ e.call
      → Same A s d.call d.told.shown e.told.shown → Agree A (next d.call s) ds es → Agree A s (d ∷ ds) (e ∷ es)

-- A SEAT IN A ROUND over X and Y, from state s to t, answered by x. What is left past its mark in the join's list
abbrev pub left : Set → Set → Open → List Pair
left X Y o = past o.mark (joined X Y o.account o.kind)

-- the seat with its mark moved behind these pairs; all else of it stays
abbrev pub moved : Open → List Pair → Open
moved o qs = record { account = o.account; kind = o.kind; limit = o.limit; mark = mark_behind o.mark qs }

-- seat i, open as o, is handed the pairs `these`, n of them. How many: its limit, or all that is left if that is less. Which: the first n of what is left.
-- The round tells n and the words of these pairs; they stand in the seat's part of the buffer from its first word on, and behind them its words stay;
-- the mark is moved behind them
pub record Served (X Y : Set) (s t : State) (x : Shown) (i : ℕ) (o : Open) (n : ℕ) (these : List Pair) : Type 0 where
  pub many : n ≡ min o.limit (length (left X Y o))
  pub next_ones : these ≡ take n (left X Y o)
  pub handed_count : length these ≡ n
  pub told_count : get_or x.counts i 0 ≡ n
  pub told : get_or x.hands i [] ≡ flat_map pair_words these
  pub told_long : length (get_or x.hands i []) ≡ 4 * n
  pub lies : take (4 * n) (drop (seat_word i) t.buffer) ≡ flat_map pair_words these
  pub rest : (j : ℕ) → 4 * n ≤ j → j < seat_width → get_or t.buffer (seat_word i + j) 0 ≡ get_or s.buffer (seat_word i + j) 0
  pub seat_then : seat_at t.desk i ≡ open_at (moved o these)

-- a closed seat is handed nothing, and stays closed
pub record Passed (s t : State) (x : Shown) (i : ℕ) : Type 0 where
  pub told_count : get_or x.counts i 0 ≡ 0
  pub told : get_or x.hands i [] ≡ []
  pub rest : (j : ℕ) → j < seat_width → get_or t.buffer (seat_word i + j) 0 ≡ get_or s.buffer (seat_word i + j) 0
  pub seat_then : seat_at t.desk i ≡ closed

-- THE SHARES that each set was opened with
abbrev pub shares_given : List ℕ → List ℕ → Which → List ℕ
shares_given so si outer = so
shares_given so si inner = si

-- a number that tells of nothing spoiled: neither IMAGE nor DESK
abbrev pub Fair : ℕ → Type 0
Fair n = (n ≡ IMAGE → ⊥) × (n ≡ DESK → ⊥)
