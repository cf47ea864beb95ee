-- `queries::find_parent` meets its contract.
use mathlib.Core.Path.{refl}
use Rattle.std.proofs.lemmas.Result.{err_from_is_err_and}
use Rattle.words.proofs.Tests.{T_of}
use Rattle.regions.specs.Calls.{point_no}
use Rattle.regions.proofs.Numbers.{image_right}
use Rattle.image.specs.Valid.{valid}
use Rattle.tally.specs.Tallies.{found_list}
use Rattle.queries.specs.Searches.{parent_found, is_refusal}
use Rattle.queries.proofs.Answers.{parent_refused, parent_answered}
use Rattle.queries.proofs.find_parent.Goals as goal

pub returns-in_err-may_search_at : goal.returns-in_err-may_search_at
returns-in_err-may_search_at c = let x = err_from_is_err_and c.from_residual.result c.from_residual.ensures.1 in rw (x.1, x.2) (parent_refused c.args.img.now _ _ _ _ c.in_err-may_search_at.ensures)

pub parent-requires : goal.parent-requires
parent-requires c = T_of (image_right (valid c.args.img.now) (point_no c.args.account c.args.p) c.in_ok-may_search_at.ensures)

pub returns-in_default : goal.returns-in_default
unfolding parent_found is_refusal found_list
returns-in_default c = record { number_is = c.in_ok-may_search_at.ensures; refused = λ z. refl; done = λ z. c.in_default.ensures; case_is = refl }

pub returns : goal.returns
returns c = parent_answered c.args.img.now _ _ _ _ c.in_ok-may_search_at.ensures c.in-Some.ensures
