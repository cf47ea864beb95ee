-- How long a line is, the text of one pair more, and that the words which the join writes make the text of its pairs and the mark behind them.
-- Assumes nothing.
use Prim.Native.Nat.{ℕ, zero, suc, ◌+◌, ◌*◌, ◌/◌, ◌≤◌}
use native.Mathlib.Omega.{arith}
use mathlib.Core.Path.{◌≡◌, refl, sym, ap, ap₂, ◌∙◌}
use mathlib.Core.Bool.{false}
use mathlib.Core.List.{List, [], ◌∷◌, ◌++◌, flat_map, append-nil, append_assoc}
use lib.ListN.{length, take, drop, get_or, length-append, length-take, length-drop}
use lib.Seq.{sets, length-sets, drop-cons, drop-drop, take-take}
use Rattle.words.proofs.Written.{sets_append}
use Rattle.lines.specs.Text.{decimal, line}
use Rattle.lines.specs.Reads.{PutsLine}
use Rattle.lines.proofs.Digits.{decimal_few}
use Rattle.lines.proofs.Written.{line_more, line_one}
use Rattle.regions.specs.Limits.{pair_width}
use Rattle.regions.specs.Calls.{Pair, pair_words, written, count_written}
use Rattle.regions.specs.Desk.{past, mark_behind}
use Rattle.regions.specs.declared.Mark.{Mark}
use Rattle.regions.proofs.Fits.{pair_wide, written_is, written_long}
use Rattle.seats.specs.Steps.{mark_read}
use Rattle.seats.proofs.Marks.{mark_read_lem}
use Rattle.join.specs.Joins.{Joined}
use Rattle.printout.specs.Printed.{pair_line, pairs_text, words_text, PutsPairs, batch_pairs, batch, PutsBatch}

-- HOW LONG: a number has at most ten digits, so a line of k numbers at most 11 k bytes
pub line_long : (ns : List ℕ) → 1 ≤ length ns → length (line ns) ≤ 11 * length ns
line_long [] h = absurd (omega arith)
line_long (n ∷ []) h = rw line_one (omega (arith, decimal_few n, length-append (decimal n) (10 ∷ [])))
line_long (n ∷ m ∷ ns) h = rw line_more (omega (arith, decimal_few n, line_long (m ∷ ns) (omega arith), length-append (decimal n) (32 ∷ line (m ∷ ns))))

-- FOUR WORDS from an index on
pub four_words : (ws : List ℕ) (a : ℕ) → a + 4 ≤ length ws
    → (get_or ws a 0 ∷ get_or ws (a + 1) 0 ∷ get_or ws (a + 2) 0 ∷ get_or ws (a + 3) 0 ∷ []) ≡ take 4 (drop a ws)
four_words ws a h =
    let one : suc a ≡ a + 1 = omega arith in
    let two : suc (suc a) ≡ a + 2 = omega arith in
    let three : suc (suc (suc a)) ≡ a + 3 = omega arith in
    sym (ap (take 4) (drop-cons ws a 0 (omega arith))
    ∙ ap (λ (l : List ℕ). get_or ws a 0 ∷ take 3 l) (drop-cons ws (suc a) 0 (omega arith))
    ∙ ap (λ (l : List ℕ). get_or ws a 0 ∷ get_or ws (suc a) 0 ∷ take 2 l) (drop-cons ws (suc (suc a)) 0 (omega arith))
    ∙ ap (λ (l : List ℕ). get_or ws a 0 ∷ get_or ws (suc a) 0 ∷ get_or ws (suc (suc a)) 0 ∷ take 1 l) (drop-cons ws (suc (suc (suc a))) 0 (omega arith))
    ∙ ap (λ (i : ℕ). get_or ws a 0 ∷ get_or ws i 0 ∷ get_or ws (suc (suc a)) 0 ∷ get_or ws (suc (suc (suc a))) 0 ∷ []) one
    ∙ ap (λ (i : ℕ). get_or ws a 0 ∷ get_or ws (a + 1) 0 ∷ get_or ws i 0 ∷ get_or ws (suc (suc (suc a))) 0 ∷ []) two
    ∙ ap (λ (i : ℕ). get_or ws a 0 ∷ get_or ws (a + 1) 0 ∷ get_or ws (a + 2) 0 ∷ get_or ws i 0 ∷ []) three)

-- ONE PAIR MORE
words_more : (n : ℕ) (ws : List ℕ) → words_text (suc n) ws ≡ words_text n ws ++ line (take 4 (drop (4 * n) ws))
unfolding words_text
words_more zero ws = append-nil (line (take 4 ws))
words_more (suc n) ws =
    let e : 4 + 4 * n ≡ 4 * suc n = omega arith in
    ap (λ (t : List ℕ). line (take 4 ws) ++ t) (words_more n (drop 4 ws))
    ∙ sym (append_assoc (line (take 4 ws)) (words_text n (drop 4 ws)) (line (take 4 (drop (4 * n) (drop 4 ws)))))
    ∙ ap (λ (l : List ℕ). (line (take 4 ws) ++ words_text n (drop 4 ws)) ++ line (take 4 l)) (drop-drop (4 * n) 4 ws ∙ ap (λ (i : ℕ). drop i ws) e)

pub words_long : (n : ℕ) (ws : List ℕ) → 4 * n ≤ length ws → length (words_text n ws) ≤ 44 * n
unfolding words_text
words_long zero ws h = omega arith
words_long (suc n) ws h =
    let four : length (take 4 ws) ≡ 4 = length-take 4 ws ∙ omega arith in
    let rest = words_long n (drop 4 ws) (omega (arith, length-drop 4 ws)) in
    omega (arith, line_long (take 4 ws) (omega arith), length-append (line (take 4 ws)) (words_text n (drop 4 ws)))

pub put_none : (ws out : List ℕ) → PutsPairs ws 0 out 0 out
unfolding words_text
put_none ws out = record { put = refl; ends = refl }

pub put_more : (ws : List ℕ) (i : ℕ) (out₀ : List ℕ) (at : ℕ) (out ns : List ℕ) (at' : ℕ) (out' : List ℕ)
    → PutsPairs ws i out₀ at out → ns ≡ take 4 (drop (4 * i) ws) → PutsLine out at 4 ns at' out' → PutsPairs ws (suc i) out₀ at' out'
put_more ws i out₀ at out ns at' out' p e l =
    let piece : take 4 ns ≡ take 4 (drop (4 * i) ws) = ap (take 4) e ∙ take-take 4 4 (drop (4 * i) ws) (omega arith) in
    let text : line (take 4 ns) ≡ line (take 4 (drop (4 * i) ws)) = ap line piece in
    record {
      put =
          l.put ∙ ap₂ (λ (o t : List ℕ). sets o at t) p.put text
          ∙ sets_append out₀ 0 at (words_text i ws) (line (take 4 (drop (4 * i) ws))) (omega (arith, p.ends))
          ∙ ap (sets out₀ 0) (sym (words_more i ws));
      ends =
          l.ends ∙ ap₂ (λ (a : ℕ) (t : List ℕ). a + length t) p.ends text
          ∙ sym (ap length (words_more i ws) ∙ length-append (words_text i ws) (line (take 4 (drop (4 * i) ws))));
    }

pub put_long : (ws : List ℕ) (n : ℕ) (out : List ℕ) (bytes : ℕ) (out' : List ℕ) → PutsPairs ws n out bytes out' → length out' ≡ length out
put_long ws n out bytes out' p = ap length p.put ∙ length-sets out 0 (words_text n ws)

-- THE JOIN'S WORDS: pairs as words, with whatever stands behind them
words_text_lem : (qs : List Pair) (rest : List ℕ) → words_text (length qs) (flat_map pair_words qs ++ rest) ≡ pairs_text qs
unfolding words_text flat_map
words_text_lem [] rest = refl
words_text_lem (q ∷ qs) rest = ap (λ (t : List ℕ). pair_line q ++ t) (words_text_lem qs rest)

-- what 1,024 lent words hold of the pairs past a mark: as many as a batch has
module _ (qs : List Pair) (m : Mark) (ws : List ℕ) (n : ℕ) (ws' : List ℕ) (long : length ws ≡ 1024) (j : Joined (past m qs) false ws ws' n) where
  pub joined_count : n ≡ length (batch m qs)
  unfolding count_written
  joined_count = j.total ∙ ap (λ (l : ℕ). length (take (l / 4) (past m qs))) long

  pub joined_few : n ≤ 256
  joined_few = omega (arith, joined_count, length-take batch_pairs (past m qs))

  pub joined_long : length ws' ≡ 1024
  joined_long = ap length j.words ∙ written_long pair_width ws (past m qs) pair_words ∙ long

  joined_words : ws' ≡ flat_map pair_words (batch m qs) ++ drop (4 * count_written pair_width ws (past m qs)) ws
  joined_words =
      j.words ∙ written_is pair_words pair_width pair_wide ws (past m qs)
      ∙ ap (λ (l : ℕ). flat_map pair_words (take (l / 4) (past m qs)) ++ drop (4 * count_written pair_width ws (past m qs)) ws) long

  pub joined_text : words_text n ws' ≡ pairs_text (batch m qs)
  joined_text = ap₂ words_text joined_count joined_words ∙ words_text_lem (batch m qs) (drop (4 * count_written pair_width ws (past m qs)) ws)

  pub joined_mark : mark_read m ws' 0 n ≡ mark_behind m (batch m qs)
  unfolding written
  joined_mark =
      let put : ws' ≡ sets ws 0 (flat_map pair_words (batch m qs)) = j.words ∙ ap (λ (l : ℕ). sets ws 0 (flat_map pair_words (take (l / 4) (past m qs)))) long in
      ap₂ (λ (l : List ℕ) (k : ℕ). mark_read m l 0 k) put joined_count ∙ mark_read_lem m ws 0 (batch m qs) (omega (arith, joined_few, joined_count))

  pub batch_put : (out : List ℕ) (bytes : ℕ) (m' : Mark) (out' : List ℕ) → PutsPairs ws' n out bytes out' → m' ≡ mark_read m ws' 0 n → PutsBatch qs m ws out bytes n m' ws' out'
  batch_put out bytes m' out' p e =
      record {
        text_is = p.put ∙ ap (sets out 0) joined_text;
        bytes_are = p.ends ∙ ap length joined_text;
        pairs_are = joined_count;
        mark_is = e ∙ joined_mark;
        words_are = j.words;
      }

-- WHAT A CALLER OF A BATCH NEEDS: its text fits, and nothing gets longer
text_long : (qs : List Pair) → length (pairs_text qs) ≤ 44 * length qs
unfolding flat_map
text_long [] = omega arith
text_long (q ∷ qs) = omega (arith, line_long (pair_words q) (omega arith), text_long qs, length-append (pair_line q) (pairs_text qs))

module _ {qs : List Pair} {m : Mark} {ws out : List ℕ} {bytes pairs : ℕ} {m' : Mark} {ws' out' : List ℕ} (b : PutsBatch qs m ws out bytes pairs m' ws' out') where
  pub batch_bytes : bytes ≤ 11264
  batch_bytes = omega (arith, b.bytes_are, text_long (batch m qs), length-take batch_pairs (past m qs))

  pub batch_words_lem : length ws' ≡ length ws
  batch_words_lem = ap length b.words_are ∙ written_long pair_width ws (past m qs) pair_words

  pub batch_room : length out' ≡ length out
  batch_room = ap length b.text_is ∙ length-sets out 0 (pairs_text (batch m qs))
