-- `nesting::Pass::enter` meets its contract: a way out for each test of the pass, and the way in.
use Prim.Native.Nat.{◌<◌}
use mathlib.Core.Path.{◌≡◌, refl, sym, ◌∙◌}
use mathlib.Core.Bool.{true, false}
use native.Mathlib.Omega.{arith}
use Rattle.std.proofs.Common.{rules}
use Rattle.words.proofs.Tests.{le_of, nle_of}
use Rattle.words.proofs.Says.{true_so}
use Rattle.regions.specs.Positions.{well_formed}
use Rattle.regions.proofs.Means.{formed_says}
use Rattle.nesting.specs.Pass.{stack_of, under}
use Rattle.nesting.specs.State.{state_of}
use Rattle.nesting.proofs.Stack.{under_none, under_some, under_cross, under_flat, stack_room, enter_ill, enter_spent, enter_barred, entered, above_entered}
use Rattle.nesting.proofs.Pass.enter.Goals as goal
use Rattle.nesting.proofs.Pass.enter.Goals.{Joined-else-t-gt0, then-self-t, else-self-t, else-t-gt0-via-then-t-gt0+else-level-self, else-t-gt0-via-else-t-gt0}

pub returns-then-not-well_formed : goal.returns-then-not-well_formed
unfolding state_of
returns-then-not-well_formed c = enter_ill _ _ _ _ _ (sym c.well_formed-2.ensures ∙ c.if-not-well_formed.true)

pub returns-then-share-eq0 : goal.returns-then-share-eq0
unfolding state_of
returns-then-share-eq0 c = enter_spent _ _ _ _ _ _ _ (sym c.well_formed-2.ensures ∙ c.if-not-well_formed.false) c.account_of-account.ensures refl c.if-share-eq0.true

pub overflow_cast-level : goal.overflow_cast-level
overflow_cast-level c =
    let formed : well_formed c.args.r ≡ true = sym c.well_formed-2.ensures ∙ c.if-not-well_formed.false in
    omega (arith, (true_so (formed_says _) formed).high)

pub returns-then-level-self : goal.returns-then-level-self
unfolding state_of
returns-then-level-self c =
    let s = c.args.self.now in
    let formed : well_formed c.args.r ≡ true = sym c.well_formed-2.ensures ∙ c.if-not-well_formed.false in
    let barred : under c.args.r (stack_of s.ends s.levels c.popped-t.result) ≡ false =
    elim c.if-self-t.branch [
      | then-self-t w ↦ under_cross _ _ _ _ c.if-t-gt0.true w.if-self-t.true
      | else-self-t w ↦ under_flat _ _ _ _ c.if-t-gt0.true (le_of _ _ (sym w.value-is ∙ c.if-level-self.true))
    ] in
    enter_barred _ _ _ _ _ _ _ _ formed c.account_of-account.ensures refl (omega (arith, c.if-share-eq0.false)) c.popped-t.ensures.1 barred

-- where the ways meet again
formed : (c : Joined-else-t-gt0) → well_formed c.args.r ≡ true
formed c = sym c.well_formed-2.ensures ∙ c.if-not-well_formed.false

asked : (c : Joined-else-t-gt0) → under c.args.r (stack_of c.args.self.now.ends c.args.self.now.levels c.popped-t.result) ≡ true
asked c =
    elim c.else-t-gt0.branch [
      | else-t-gt0-via-then-t-gt0+else-level-self w ↦ elim w.if-self-t.branch [
        | then-self-t v ↦ absurd (omega (arith, v.if-self-t.true, nle_of _ _ (sym v.value-is ∙ w.if-level-self.false)))
        | else-self-t v ↦ under_some _ _ _ _ w.if-t-gt0.true v.if-self-t.false (nle_of _ _ (sym v.value-is ∙ w.if-level-self.false))
      ]
      | else-t-gt0-via-else-t-gt0 w ↦ under_none _ _ _ _ w.if-t-gt0.false
    ]

room : (c : Joined-else-t-gt0) → c.popped-t.result < 255
room c = stack_room _ _ c.args.r _ _ c.args.self.now.above c.popped-t.ensures.0 (formed c) (asked c)

pub bounds-self-t-2 : goal.bounds-self-t-2
bounds-self-t-2 c = room (goal.at.bounds-self-t-2 c).Joined-else-t-gt0

pub bounds-self-t-3 : goal.bounds-self-t-3
bounds-self-t-3 c = room (goal.at.bounds-self-t-3 c).Joined-else-t-gt0

pub invariant_of-self : goal.invariant_of-self
invariant_of-self c =
    let j = (goal.at.invariant_of-self c).Joined-else-t-gt0 in
    record { above = above_entered c.args.r c.args.self.now.ends _ _ _ (search rules) c.args.self.now.above c.popped-t.ensures.0 (formed j) (asked j) }

pub returns : goal.returns
unfolding state_of
returns c =
    let j = (goal.at.returns c).Joined-else-t-gt0 in
    entered _ _ _ _ _ _ _ _ (formed j) c.account_of-account.ensures refl (omega (arith, c.if-share-eq0.false)) c.popped-t.ensures.1 (search rules) (search rules) c.args.self.now.above c.popped-t.ensures.0 (asked j)
