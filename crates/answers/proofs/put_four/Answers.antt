-- `answers::put_four` meets its contract: without room nothing is written, else the four words.
use native.Mathlib.Omega.{arith}
use mathlib.Core.Path.{sym}
use Rattle.answers.specs.Items.{as_words}
use Rattle.answers.proofs.Items.{from_full, item_written}
use Rattle.answers.proofs.put_four.Goals as goal

pub returns-then-out-k : goal.returns-then-out-k
returns-then-out-k c = sym (from_full as_words 4 _ _ _ c.if-out-k.true)

pub returns : goal.returns
returns c = item_written c.args.k _ c.args.out.now _ _ c.if-out-k.false (omega arith) c.copy_from_slice.ensures.len c.copy_from_slice.ensures.after
