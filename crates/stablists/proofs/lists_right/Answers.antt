-- `stablists::lists_right` meets its contract: what the pass comes to decides the rules (Decides.antt).
use Prim.Native.Nat.{◌-◌}
use mathlib.Core.Path.{◌≡◌, ap, ◌∙◌}
use mathlib.Core.Bool.{Bool, false}
use lib.Dec.{eqb}
use native.Mathlib.Omega.{arith}
use Rattle.std.proofs.Common.{Option, None, Some, MatchOption, rules, tests}
use Rattle.trail.specs.declared.Trail.{Trail}
use Rattle.stablists.proofs.Decides.{none_left, decides, height_some, image_fills}
use Rattle.stablists.proofs.lists_right.Goals as goal

pub overflow_sub-depth : goal.overflow_sub-depth
overflow_sub-depth c = omega (arith, height_some c.args.img.now c.requires.img_shapely, c.word.ensures)

pub lists-requires : goal.lists-requires
lists-requires c =
    image_fills c.args.img.now _ _ c.requires.img_shapely (ap (λ x. x - 1) c.word.ensures) c.word-2.ensures

-- the answer where the pass came through is what its test gives
told : (R : Trail → Type 0) (o : Option Trail) (b : Bool) → MatchOption o (b ≡ false) R → ((t : Trail) → R t → b ≡ eqb t.left 0) → b ≡ none_left o
told R None b h k = h
told R (Some t) b h k = k t h

pub returns : goal.returns
returns c =
    told _ c.lists.result _ c.is_some_and.ensures (λ t p. search (rules, tests))
    ∙ decides c.args.img.now (λ i. omega (arith, c.type_inv.img i)) c.requires.img_shapely c.requires.rule_6 _ _ _ _ (ap (λ x. x - 1) c.word.ensures)
    c.word-2.ensures c.used_records.ensures c.lists.ensures
