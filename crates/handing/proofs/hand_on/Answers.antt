-- `hand_on` takes a key out of a page, and hands what the next key stabs of its list to that key.
use borrow.Author.Rules.{rules}
use native.Mathlib.Omega.{arith}
use Rattle.handing.proofs.Handing.{leaving_long, leaving_ends, handed_last, handed_mid}
use Rattle.handing.proofs.hand_on.Goals as goal

pub key_in-key-requires : goal.key_in-key-requires
key_in-key-requires c = let p = c.requires in omega (arith, leaving_long p.2)

pub inner_without-without-requires : goal.inner_without-without-requires
inner_without-without-requires c = let p = c.requires in (p.1, omega (arith, leaving_long p.2))

pub overflow_add-j : goal.overflow_add-j
overflow_add-j c = let p = c.requires in omega (arith, leaving_long p.2)

pub returns-then-j-ws : goal.returns-then-j-ws
returns-then-j-ws c = λ s. handed_last s _ _ (search rules) c.key_in-key.ensures (c.if-j-ws.true) c.inner_without-without.ensures

pub overflow_add-j-2 : goal.overflow_add-j-2
overflow_add-j-2 c = let p = c.requires in omega (arith, leaving_long p.2)

pub key_in-next-requires : goal.key_in-next-requires
key_in-next-requires c = let p = c.requires in omega (arith, leaving_long p.2, c.if-j-ws.false)

pub lift-lifted-requires : goal.lift-lifted-requires
lift-lifted-requires c = let p = c.requires in (p.0, leaving_ends p.2 _ c.key_in-key.ensures)

pub set_key-page-requires : goal.set_key-page-requires
set_key-page-requires c = let p = c.requires in (omega (arith, c.inner_without-without.ensures.fill_is, p.1), omega (arith, c.inner_without-without.ensures.fill_is, leaving_long p.2, c.if-j-ws.false))

pub returns : goal.returns
returns c = λ s. handed_mid _ _ _ _ _ _ s _ _ _ (search rules) c.key_in-key.ensures c.key_in-next.ensures (λ e. c.if-j-ws.false e) c.inner_without-without.ensures c.lift-lifted.ensures c.set_key-page.ensures
