use Rattle.pages.specs.Layout.{page_of}
use Rattle.owners.proofs.Loops.{pass_start, pass_found, pass_on, pass_end}
use Rattle.owners.proofs.below.Goals as goal

pub loop-i-init : goal.loop-i-init
loop-i-init c = pass_start _ _ _ c.fill-n.ensures c.requires

pub returns-then-x-key_number : goal.returns-then-x-key_number
returns-then-x-key_number c = pass_found _ _ _ _ _ c.loop-i.invariant c.loop-i-test.true c.key_number.ensures c.if-x-key_number.true

pub loop-i-preserved : goal.loop-i-preserved
loop-i-preserved c = pass_on _ _ _ _ _ c.loop-i.invariant c.loop-i-test.true c.key_number.ensures c.if-x-key_number.false

pub returns : goal.returns
returns c = pass_end (page_of c.args.img.now c.args.page) _ _ _ c.loop-i.invariant c.loop-i-test.false
