-- `listing_join::answer` is safe and ends: where a listing was read, both images are valid.
use Rattle.words.proofs.Tests.{T_of}
use borrow.Author.Rules.{rules}
use Rattle.listing_join.proofs.answer.Goals as goal

pub print_join-requires : goal.print_join-requires
print_join-requires g c = let d = c.in-Ok.ensures.done (search rules) in (T_of d.0, T_of d.1)
