-- `census::take_census` meets its contract: the pass over the whole image decides rule 6, and what it took of each share is what the account holds.
use mathlib.Core.Path.{◌≡◌, sym, ap, ◌∙◌}
use mathlib.Core.Bool.{true}
use lib.Dec.{leb}
use native.Mathlib.Omega.{arith}
use Rattle.std.specs.Prelude.{Some, None}
use Rattle.words.specs.Lists.{sum}
use Rattle.pages.specs.Layout.{shares_of}
use Rattle.nesting.specs.State.{state_of, told}
use Rattle.census.proofs.Whole.{header_in, one_page, fills_whole, whole, pass_whole, shares_over, whole_decides, whole_left}
use Rattle.census.proofs.take_census.Goals as goal
use Rattle.census.proofs.take_census.Goals.{Else-not-shares_fit, After-tree_regions}

-- the shares fit
fit : (c : Else-not-shares_fit) → leb (sum (shares_of c.args.img.now)) 500 ≡ true
fit c = ap (λ s. leb (sum s) 500) (sym c.shares_of-shares.ensures) ∙ sym c.shares_fit.ensures ∙ c.if-not-shares_fit.false

-- the pass went over the whole image
went : (c : After-tree_regions) → told c.tree_regions.result c.tree_regions.new.so_far ≡ whole c.args.img.now
went c = c.tree_regions.ensures ∙ pass_whole _ _ _ _ _ c.word.ensures c.word-2.ensures c.shares_of-shares.ensures c.new-so_far.ensures

pub shares_of-shares-requires : goal.shares_of-shares-requires
shares_of-shares-requires c = header_in _ c.requires

pub returns-then-not-shares_fit-clause-decides : goal.returns-then-not-shares_fit-clause-decides
returns-then-not-shares_fit-clause-decides c =
    shares_over _ (ap (λ s. leb (sum s) 500) (sym c.shares_of-shares.ensures) ∙ sym c.shares_fit.ensures ∙ c.if-not-shares_fit.true)

pub overflow_sub-word : goal.overflow_sub-word
overflow_sub-word c = one_page _ _ c.requires c.word.ensures

pub tree_regions-requires : goal.tree_regions-requires
tree_regions-requires c = fills_whole _ _ _ c.requires c.word.ensures c.word-2.ensures

pub returns-in_err-tree_regions-clause-decides : goal.returns-in_err-tree_regions-clause-decides
returns-in_err-tree_regions-clause-decides c =
    let j = goal.at.returns-in_err-tree_regions-clause-decides c in
    rw c.from_residual.ensures
    (whole_decides _ None (rw c.in_err-tree_regions.was at (went j.After-tree_regions)) c.requires (λ i. omega (arith, c.type_inv.img i)) (fit j.Else-not-shares_fit))

pub taken-requires : goal.taken-requires
unfolding state_of
taken-requires c = λ a h. omega (arith, whole_left _ (state_of c.tree_regions.new.so_far) (rw c.in_ok-tree_regions.was at (went (goal.at.taken-requires c).After-tree_regions)) a h)

pub returns-clause-decides : goal.returns-clause-decides
returns-clause-decides c =
    let j = goal.at.returns-clause-decides c in
    whole_decides _ (Some _) (rw c.in_ok-tree_regions.was at (went j.After-tree_regions)) c.requires (λ i. omega (arith, c.type_inv.img i)) (fit j.Else-not-shares_fit)

pub returns-clause-counts : goal.returns-clause-counts
unfolding state_of
returns-clause-counts c = λ a h.
    omega (arith, whole_left _ (state_of c.tree_regions.new.so_far) (rw c.in_ok-tree_regions.was at (went (goal.at.returns-clause-counts c).After-tree_regions)) a h, c.taken.ensures a h)
