-- `remove::mend` calls itself one page further down the path. The measure is how many pages of the path have pages above leaves below them.
use Rattle.remove.proofs.+mend.Given as goal

abbrev pub decreases-mend : goal.decreases-mend
decreases-mend l = l.h
