-- `raising::enter_key` meets its contract: in front of a key, or behind the last.
use native.Mathlib.Omega.{arith}
use Prim.Native.Nat.{◌≤◌, ◌<◌}
use Rattle.pages.specs.Layout.{fill_of}
use Rattle.raising.proofs.Entering.{enter_ends, entered_mid, entered_last}
use Rattle.raising.proofs.enter_key.Goals as goal

pub lift-l-requires : goal.lift-l-requires
lift-l-requires c =
    let u : c.args.i < fill_of c.args.page = omega (arith, c.if-i-page.true) in
    (c.requires.img_len.0, enter_ends c.requires.by_index.1 _ c.key_in-next.ensures u)

pub returns-then-i-page : goal.returns-then-i-page
returns-then-i-page c =
    let u : c.args.i < fill_of c.args.page = omega (arith, c.if-i-page.true) in
    λ h g. entered_mid _ _ _ _ _ _ _ _ h c.lift-l.result g _ c.key_in-next.ensures u c.lift-l.ensures c.set_key-cut.ensures c.inner_with.ensures

pub returns : goal.returns
returns c =
    let u : fill_of c.args.page ≤ c.args.i = omega (arith, c.if-i-page.false) in
    λ h g. entered_last _ _ _ _ _ _ h g u c.inner_with-2.ensures
