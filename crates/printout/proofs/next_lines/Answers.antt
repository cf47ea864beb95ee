-- `printout::next_lines` meets its contract: by what the join's writer leaves in the lent words.
use native.Mathlib.Omega.{arith}
use Rattle.printout.proofs.Texts.{joined_few, joined_long, batch_put}
use Rattle.printout.proofs.next_lines.Goals as goal

pub put_pairs-requires : goal.put_pairs-requires
put_pairs-requires c = let few = joined_few _ _ _ _ _ c.requires.words_len.0 c.pairs_past-n.ensures in let long = joined_long _ _ _ _ _ c.requires.words_len.0 c.pairs_past-n.ensures in let room = c.requires.words_len.1 in (omega arith, omega arith)

pub mark_behind-requires : goal.mark_behind-requires
mark_behind-requires c = let few = joined_few _ _ _ _ _ c.requires.words_len.0 c.pairs_past-n.ensures in let long = joined_long _ _ _ _ _ c.requires.words_len.0 c.pairs_past-n.ensures in omega arith

pub returns : goal.returns
returns c = batch_put _ _ _ _ _ c.requires.words_len.0 c.pairs_past-n.ensures _ _ _ _ c.put_pairs.ensures c.mark_behind.ensures
