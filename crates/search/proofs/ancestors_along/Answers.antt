-- `search::ancestors_along` meets its contract: the task takes all.
use Rattle.search.proofs.Tops.{all_found}
use Rattle.search.proofs.ancestors_along.Goals as goal

pub returns : goal.returns
returns c = all_found c.search.ensures
