-- `shape::shaped` meets its contract: each early answer is a test of the image, and the end of the pass decides the rest.
use Prim.Native.Nat.{◌-◌}
use mathlib.Core.Path.{◌≡◌, ◌∙◌}
use native.Mathlib.Omega.{arith}
use Rattle.image.specs.Fills.{root_least}
use Rattle.shape.proofs.Whole.{wrong_length, too_low, too_high, told, ended, least_first, least_other}
use Rattle.shape.proofs.shaped.Goals as goal
use Rattle.shape.proofs.shaped.Goals.{then-height-lt1-via-then-height-lt1, then-height-lt1-via-else-height-lt1+then-height-gt4, then-height-eq1, else-height-eq1}

pub returns-then-img-ne-IMAGE_WORDS : goal.returns-then-img-ne-IMAGE_WORDS
returns-then-img-ne-IMAGE_WORDS c = wrong_length _ c.if-img-ne-IMAGE_WORDS.true

pub returns-then-height-lt1 : goal.returns-then-height-lt1
returns-then-height-lt1 c =
    elim c.then-height-lt1.branch [
      | then-height-lt1-via-then-height-lt1 w ↦ too_low _ _ c.if-img-ne-IMAGE_WORDS.false c.wide_word-height.ensures.0 w.if-height-lt1.true
      | then-height-lt1-via-else-height-lt1+then-height-gt4 w ↦ too_high _ _ c.if-img-ne-IMAGE_WORDS.false c.wide_word-height.ensures.0 w.if-height-lt1.false w.if-height-gt4.true
    ]

pub returns : goal.returns
returns c =
    let least-right : c.if-height-eq1.least ≡ root_least (c.wide_word-height.result - 1) =
    elim c.if-height-eq1.branch [
      | then-height-eq1 w ↦ w.least-is ∙ least_first _ w.if-height-eq1.true
      | else-height-eq1 w ↦ w.least-is ∙ least_other _ (omega arith) w.if-height-eq1.false
    ] in
    ended _ _ _ _ _ _ _ c.if-img-ne-IMAGE_WORDS.false c.if-height-lt1.false
    c.if-height-gt4.false c.wide_word-height.ensures.0 c.word.ensures
    c.used_pages.ensures least-right c.pass_tree.ensures (told _ _ c.is_some_and.ensures)
