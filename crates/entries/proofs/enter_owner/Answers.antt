-- `entries::enter_owner` puts the record into the owner's list and writes the key's words into the owner's page.
use borrow.Author.Rules.{rules}
use native.Mathlib.Omega.{arith}
use Rattle.entries.proofs.Halves.{nobody_done, spot_range, spot_fill, read_ends, enter_done}
use Rattle.entries.proofs.enter_owner.Goals as goal

pub returns-in_default : goal.returns-in_default
returns-in_default c = nobody_done _ _ _ _ c.in_default.not-Some

pub key_words-k-requires : goal.key_words-k-requires
key_words-k-requires c = let f = spot_fill _ _ _ c.requires.0 _ c.in-Some.is in omega arith

pub enter-entered-requires : goal.enter-entered-requires
enter-entered-requires c = (c.requires.0.lies.long, c.requires.1, c.requires.0.ends, read_ends _ _ _ c.requires.0 _ c.in-Some.is _ c.key_words-k.ensures)

pub put_key-requires : goal.put_key-requires
put_key-requires c =
    let p = spot_range _ _ _ c.requires.0 _ c.in-Some.is in
    let f = spot_fill _ _ _ c.requires.0 _ c.in-Some.is in
    record { img_len = search rules; le_p = (p.0, p.1, omega arith) }

pub returns-in-Some : goal.returns-in-Some
returns-in-Some c = λ s. enter_done _ _ _ _ _ s _ c.in-Some.is _ _ c.key_words-k.ensures c.put_key.ensures c.enter-entered.ensures
