-- `tally::Task::takes` meets its contract, task by task.
use mathlib.Core.Path.{◌∙◌}
use Rattle.tally.specs.Tasks.{accepts}
use Rattle.tally.proofs.Task.takes.Goals as goal

pub returns-in-List : goal.returns-in-List
unfolding accepts
returns-in-List c = rw c.in-List.is

pub returns-in-Above : goal.returns-in-Above
unfolding accepts
returns-in-Above c = c.is_above.ensures ∙ rw c.in-Above.is
