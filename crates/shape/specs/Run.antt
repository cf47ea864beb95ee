-- The pass over the tree, as a run over a flat list of events that the code follows.
-- Assumes nothing.
use Rattle.std.specs.Prelude.{ℕ, zero, suc, ◌+◌, ◌*◌, Bool, false, ◌&&◌, cond, List, [], ◌∷◌, ◌++◌, get_or, Option, Some, None, option_and_then}
use Rattle.xrtree.specs.Tree.{Item}
use Rattle.xrtree.specs.Tree.Item.{start, key}
use Rattle.xrtree.specs.Rules.{within}
use Rattle.pages.specs.Layout.{page_count, page_of, fill_of, next_of, entry_word, key_word, child_in, page_used}
use Rattle.passes.specs.declared.Passed.{Passed}
use Rattle.passes.specs.Run.{step_page, step_leaf, step_code, finished}

-- a page that is right or wrong; a leaf, with the place of the leaf on its right; a start or a key
pub data Event : Type 0 where
  page : Bool → Event
  leaf : ℕ → ℕ → Event
  item : Item → Event

-- starts and keys on one line of numbers: a key lies right before the start of its number
unfoldable pub code : Item → ℕ
code (start s) = 2 * s + 1
code (key k) = 2 * k

unfoldable pub step : Event → Passed → Option Passed
step (page g) s = step_page g s
step (leaf p next) s = step_leaf p next s
step (item x) s = step_code (code x) s

-- the first event that fails ends the run
unfoldable pub run : List Event → Passed → Option Passed
run [] s = Some s
run (e ∷ es) s = option_and_then (run es) (step e s)

-- whether a run came to its end, and found everything right
abbrev pub run_finished : Option Passed → Bool
run_finished None = false
run_finished (Some s) = finished s

-- a page in range, in use, and rightly filled
unfoldable pub page_right : List ℕ → ℕ → ℕ → Bool
page_right w least p = within 1 page_count p && (page_used w p && within least 8 (fill_of (page_of w p)))

-- m starts of a leaf with words ws, from entry i on
unfoldable pub start_events : List ℕ → ℕ → ℕ → List Event
start_events ws i zero = []
start_events ws i (suc m) = item (start (get_or ws (entry_word i) 0)) ∷ start_events ws (suc i) m

unfoldable pub leaf_events : List ℕ → ℕ → List Event
leaf_events ws p = leaf p (next_of ws) ∷ start_events ws 0 (fill_of ws)

-- an inner page with words ws from child i on, m keys being left
module _ (child : ℕ → List Event) (ws : List ℕ) where
  unfoldable pub inner_events : ℕ → ℕ → List Event
  inner_events i zero = child (child_in ws i)
  inner_events i (suc m) = child (child_in ws i) ++ (item (key (get_or ws (key_word i) 0)) ∷ inner_events (suc i) m)

-- the tree at place p whose leaves lie h pages deeper, its root holding at least the given number
unfoldable pub events_at : List ℕ → ℕ → ℕ → ℕ → List Event
events_at w zero least p = page (page_right w least p) ∷ leaf_events (page_of w p) p
events_at w (suc h) least p = page (page_right w least p) ∷ inner_events (events_at w h 4) (page_of w p) 0 (fill_of (page_of w p))

-- how many of the pages 1 to n are in use
unfoldable pub used_to : List ℕ → ℕ → ℕ
used_to w zero = 0
used_to w (suc n) = cond (page_used w (suc n)) 1 0 + used_to w n
