-- `capi::sasnuvarth_parent` meets its contract: what is told of each of the three answers.
use mathlib.Core.Path.{ap, ◌∙◌}
use Rattle.std.specs.Prelude.{Option, Some, None, Ok}
use Rattle.words.specs.Lists.{some}
use Rattle.regions.specs.declared.Region.{Region}
use Rattle.queries.specs.Searches.{parent_found}
use Rattle.capi.specs.Border.{told}
use Rattle.capi.proofs.Told.{tells}
use Rattle.capi.proofs.sasnuvarth_parent.Goals as goal

pub returns-in-Err : goal.returns-in-Err
unfolding parent_found some told
returns-in-Err c = rw c.from.ensures (tells _ _ _ _ _ _ c.find_parent.ensures c.in-Err.is)

pub returns-in-Ok-None : goal.returns-in-Ok-None
unfolding parent_found some told
returns-in-Ok-None c = tells _ _ _ _ _ (Ok None) c.find_parent.ensures (c.in-Ok-None.is ∙ ap (λ (x : Option Region). Ok x) c.in-Ok-None.field-0-is)

pub returns-in-Ok-Some : goal.returns-in-Ok-Some
unfolding parent_found some told
returns-in-Ok-Some c = tells _ _ _ _ _ (Ok (Some c.in-Ok-Some.r)) c.find_parent.ensures (c.in-Ok-Some.is ∙ ap (λ (x : Option Region). Ok x) c.in-Ok-Some.field-0-is)
