use mathlib.Core.Path.{refl}
use Rattle.owners.proofs.Loops.{seek_fill, seek_found, seek_on, seek_end}
use Rattle.owners.proofs.owner.Goals as goal

pub loop-p-init : goal.loop-p-init
loop-p-init c = record { fills = c.requires.1; whole = refl }

pub below-k-requires : goal.below-k-requires
below-k-requires c = seek_fill _ _ _ _ _ _ c.loop-p.invariant c.loop-p-test.true refl

pub owns-requires : goal.owns-requires
owns-requires c = seek_fill _ _ _ _ _ _ c.loop-p.invariant c.loop-p-test.true refl

pub returns-then-owns : goal.returns-then-owns
returns-then-owns c = seek_found _ _ _ _ _ _ c.loop-p.invariant c.loop-p-test.true refl _ _ c.below-k.ensures c.owns.ensures c.if-owns.true

pub loop-p-preserved : goal.loop-p-preserved
loop-p-preserved c = seek_on _ _ _ _ _ _ c.loop-p.invariant c.loop-p-test.true refl _ _ c.below-k.ensures c.owns.ensures c.if-owns.false

pub returns : goal.returns
returns c = seek_end _ _ _ _ _ c.loop-p.invariant c.loop-p-test.false
