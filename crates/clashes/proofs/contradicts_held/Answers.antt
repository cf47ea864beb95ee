-- `clashes::contradicts_held` meets its contract: the two tests of `levels_test`, in turn.
use mathlib.Core.Path.{◌∙◌}
use Rattle.clashes.proofs.Levels.{level_around, level_inside}
use Rattle.clashes.proofs.contradicts_held.Goals as goal

pub returns-then-level_from : goal.returns-then-level_from
returns-then-level_from c = c.if-level_from.true ∙ level_around _ _ c.requires.img_valid c.requires.start_lt_end c.requires.img_value _ c.requires.before_value _ c.level_from.ensures c.if-level_from.true

pub returns-else-level_from : goal.returns-else-level_from
returns-else-level_from c = level_inside _ _ c.requires.img_valid c.requires.start_lt_end c.requires.img_value _ c.requires.before_value _ _ c.level_from.ensures c.if-level_from.false c.some_up_to.ensures
