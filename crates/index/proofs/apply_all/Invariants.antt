-- `index::apply_all` meets its contract: the first i items are answered, the image is valid all along and its regions are counted.
use mathlib.Core.Path.{◌≡◌}
use lib.Dec.{T}
use lib.ListN.{length}
use Rattle.image.specs.Valid.{valid}
use Rattle.changes.specs.Counts.{Counted}
use Rattle.index.specs.Batches.{AnswersFirst}
use Rattle.index.proofs.apply_all.Given as goal

abbrev pub invariant-loop-i : goal.invariant-loop-i
invariant-loop-i l =
    T (valid l.img) × Counted l.held l.img × AnswersFirst l.i l.initial.img l.items l.initial.places l.img l.places × (length l.img ≡ length l.initial.img) × (length l.places ≡ length l.initial.places)
