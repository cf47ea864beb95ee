-- `census::shares_of` meets its contract: the shares are the sixteen words behind the header.
use Rattle.pages.specs.Layout.{shares_of}
use Rattle.census.proofs.shares_of.Goals as goal

pub returns : goal.returns
unfolding shares_of
returns c = c.copy_from_slice.ensures.after
