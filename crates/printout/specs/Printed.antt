-- Document 01, "The listing and its program", of what is printed: a line for a pair. The pairs of an account are printed in batches, each past the mark behind the one before.
-- Assumes nothing.
use Rattle.std.specs.Prelude.{ℕ, zero, suc, ◌≡◌, length, take, drop}
use mathlib.Core.List.{List, [], ◌++◌, flat_map}
use Rattle.std.proofs.lemmas.List.Edits.{sets}
use Rattle.lines.specs.Text.{line}
use Rattle.regions.specs.Sets.{Set}
use Rattle.regions.specs.Limits.{pair_width, accounts}
use Rattle.regions.specs.Calls.{Pair, joined, pair_words, written}
use Rattle.regions.specs.Desk.{past, mark_behind}
use Rattle.regions.specs.declared.Kind.TheVariants.{Ancestor}
use Rattle.regions.specs.declared.Mark.{Mark}

-- A PAIR'S LINE: a start, a reference, d start, d reference. A row of pairs as text
abbrev pub pair_line : Pair → List ℕ
pair_line q = line (pair_words q)

abbrev pub pairs_text : List Pair → List ℕ
pairs_text qs = flat_map pair_line qs

-- the same of n pairs that stand as words
unfoldable pub words_text : ℕ → List ℕ → List ℕ
words_text zero ws = []
words_text (suc n) ws = line (take pair_width ws) ++ words_text n (drop pair_width ws)

-- from the buffer's start on; its other bytes stay
pub record PutsPairs (ws : List ℕ) (n : ℕ) (out : List ℕ) (bytes : ℕ) (out' : List ℕ) : Type 0 where
  pub put : out' ≡ sets out 0 (words_text n ws)
  pub ends : bytes ≡ length (words_text n ws)

-- A BATCH: the next pairs past a mark
abbrev pub batch_pairs : ℕ
batch_pairs = 256

abbrev pub batch : Mark → List Pair → List Pair
batch m qs = take batch_pairs (past m qs)

-- its text, its size and the mark behind it; in the lent words stand the pairs themselves
pub record PutsBatch (qs : List Pair) (m : Mark) (ws out : List ℕ) (bytes pairs : ℕ) (m' : Mark) (ws' out' : List ℕ) : Type 0 where
  pub text_is : out' ≡ sets out 0 (pairs_text (batch m qs))
  pub bytes_are : bytes ≡ length (pairs_text (batch m qs))
  pub pairs_are : pairs ≡ length (batch m qs)
  pub mark_is : m' ≡ mark_behind m (batch m qs)
  pub words_are : ws' ≡ written pair_words pair_width ws (past m qs)

-- BATCH AFTER BATCH from a mark on, until one is empty: the text that they make together
pub data Batches (qs : List Pair) : Mark → List ℕ → Type 0 where
  none_left : {m : Mark} → batch m qs ≡ [] → Batches qs m []
  one_more : {m : Mark} {text : List ℕ} → Batches qs (mark_behind m (batch m qs)) text → Batches qs m (pairs_text (batch m qs) ++ text)

-- THE WHOLE JOIN: account after account
abbrev pub account_text : Set → Set → ℕ → List ℕ
account_text X Y a = pairs_text (joined X Y a Ancestor)

abbrev pub join_text : Set → Set → List ℕ
join_text X Y = flat_map (account_text X Y) accounts
