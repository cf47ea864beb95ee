-- `desk::part` meets its contract: by the number, and by the words that are there where it is 0.
use Prim.Native.Nat.{ℕ}
use mathlib.Core.Path.{subst, ◌∙◌, sym}
use Rattle.parts.specs.Lent.{PartBy}
use Rattle.desk.proofs.Answered.{part_is}
use Rattle.desk.proofs.Tested.{part_there}
use Rattle.desk.proofs.part.Goals as goal

pub part_words-requires : goal.part_words-requires
part_words-requires c = let a = c.args in λ z. part_there a.desk.now a.buffer.now a.i a.count (sym c.asks_part.ensures.number_is ∙ z)

pub returns : goal.returns
returns c =
    let a = c.args in
    part_is a.desk.now a.buffer a.i a.count _ (subst (λ (k : ℕ). PartBy k a.buffer a.i a.count c.part_words.result) c.asks_part.ensures.number_is c.part_words.ensures)
