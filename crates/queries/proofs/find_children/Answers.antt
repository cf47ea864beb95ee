-- `queries::find_children` meets its contract.
use Rattle.std.proofs.lemmas.Result.{err_from_is_err_and}
use Rattle.words.proofs.Tests.{T_of}
use Rattle.regions.specs.Calls.{bounds_no}
use Rattle.regions.proofs.Numbers.{image_right}
use Rattle.regions.proofs.Refused.{refused_some}
use Rattle.image.specs.Valid.{valid}
use Rattle.queries.proofs.Answers.{lists_refused, lists_found}
use Rattle.queries.proofs.find_children.Goals as goal

pub returns-in_err-may_search_bounds : goal.returns-in_err-may_search_bounds
returns-in_err-may_search_bounds c = let x = err_from_is_err_and c.from_residual.result c.from_residual.ensures.1 in rw (x.1, x.2) (lists_refused c.args.img.now _ _ _ _ _ _ (refused_some _) c.in_err-may_search_bounds.ensures)

pub children-requires : goal.children-requires
children-requires c = T_of (image_right (valid c.args.img.now) (bounds_no c.args.account c.args.start c.args.end) c.in_ok-may_search_bounds.ensures)

pub returns : goal.returns
returns c = let e = c.children.ensures in lists_found c.args.img.now _ _ _ _ _ _ _ _ c.in_ok-may_search_bounds.ensures e.count e.more e.words
