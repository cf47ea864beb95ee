-- What the stack at a place pairs with.
-- Assumes nothing.
use Prim.Native.Nat.{ℕ, ◌<◌}
use mathlib.Core.Path.{◌≡◌, sym, ap, ◌∙◌, subst}
use mathlib.Core.Bool.{true}
use mathlib.Core.List.{List}
use Rattle.words.specs.Lists.{All}
use Rattle.words.proofs.Listed.{all_let, pairs_kept}
use Rattle.regions.specs.Positions.{holds, too_late}
use Rattle.regions.specs.Sound.{Rising}
use Rattle.regions.specs.Calls.{choice_of, pairs_of}
use Rattle.regions.specs.Desk.{past}
use Rattle.regions.specs.declared.Region.{Region}
use Rattle.regions.specs.declared.Choice.{Choice}
use Rattle.regions.specs.declared.Kind.{Kind}
use Rattle.regions.specs.declared.Mark.{Mark}
use Rattle.image.specs.Read.{set_of}
use Rattle.stack.specs.Stacks.{holds_up_to, stacked}
use Rattle.pairing.specs.Pairs.{pairs_past}
use Rattle.stack.proofs.Stacks.{upto_holds}
use Rattle.stack.proofs.Pairs.{pairs_past_lem}
use Rattle.follow.specs.declared.Stack.{Stack}
use Rattle.follow.specs.Places.{Placed}

-- THE PAIRS OF d with the stack at its start: those with all outer regions
pub placed_holds : {w : List ℕ} (ch : Choice) {p : ℕ} {held : List ℕ} {t : Stack} → Placed w (too_late ch p) p held t → All (λ (a : Region). holds ch p a ≡ true) (stacked held t.n)
placed_holds {w} ch {p} b =
    subst (λ (l : List Region). All (λ (a : Region). holds ch p a ≡ true) l) (sym (b.stack ∙ upto_holds ch p (set_of w).regions)) (all_let (holds ch p) (set_of w).regions)

pub placed_rises : {w : List ℕ} {s p : ℕ} {held : List ℕ} {t : Stack} → Placed w s p held t → Rising (set_of w).regions → Rising (stacked held t.n)
placed_rises {w} {s} {p} b up = subst (λ (l : List Region). Rising l) (sym b.stack) (pairs_kept (λ x y. x.start < y.start) (holds_up_to s p) (set_of w).regions up)

pub placed_pairs : (w : List ℕ) (held : List ℕ) (t : Stack) (k : Kind) (m : Mark) (d : Region) → Placed w (too_late (choice_of k) d.start) d.start held t
    → pairs_past k m d (stacked held t.n) ≡ past m (pairs_of k (set_of w).regions d)
placed_pairs w held t k m d b = ap (pairs_past k m d) (b.stack ∙ upto_holds (choice_of k) d.start (set_of w).regions) ∙ pairs_past_lem k m d (set_of w).regions
