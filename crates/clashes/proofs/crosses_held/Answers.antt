-- `clashes::crosses_held` meets its contract: the three tests of `crossing_test`, in turn.
use mathlib.Core.Path.{sym, ◌∙◌}
use Rattle.std.proofs.Common.{rules, tests}
use Rattle.clashes.proofs.Reaching.{some_told, cross_start, cross_end, cross_inner}
use Rattle.clashes.proofs.crosses_held.Goals.{then-ends_by, else-ends_by}
use Rattle.clashes.proofs.crosses_held.Goals as goal

pub returns-then-is_some : goal.returns-then-is_some
returns-then-is_some c =
    elim c.if-ends_by.branch [
      | then-ends_by w ↦
          c.if-is_some.true ∙ cross_start _ _ c.requires.img_valid c.requires.start_lt_end c.requires.img_value _ _ c.requires.before_value c.ends_by.ensures w.if-ends_by.true
      | else-ends_by w ↦
          c.if-is_some.true
          ∙ cross_end _ _ c.requires.img_valid c.requires.start_lt_end c.requires.img_value _ _ w.region_at.ensures (w.is_some.ensures ∙ some_told _) (sym w.value-is ∙ c.if-is_some.true)
    ]

pub returns-else-is_some : goal.returns-else-is_some
returns-else-is_some c =
    elim c.if-ends_by.branch [
      | then-ends_by w ↦ search (rules, tests)
      | else-ends_by w ↦
          cross_inner _ _ c.requires.img_valid c.requires.start_lt_end c.requires.img_value _ _ _ _ _ _ c.requires.before_value c.ends_by.ensures w.if-ends_by.false
          w.region_at.ensures (w.is_some.ensures ∙ some_told _) (sym w.value-is ∙ c.if-is_some.false) c.innermost_at.ensures c.starts_past.ensures
    ]
