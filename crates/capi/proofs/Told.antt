-- The parent search's answer as it is told; the ancestor search at a choice, and the join at a kind, that are told by number.
-- Assumes nothing.
use Prim.Native.Nat.{ℕ}
use mathlib.Core.Path.{◌≡◌, refl, subst}
use mathlib.Core.List.{List}
use Rattle.std.specs.Prelude.{Option, Result}
use Rattle.words.specs.Lists.{some}
use Rattle.regions.specs.Refusals.{number_told}
use Rattle.regions.specs.declared.Region.{Region}
use Rattle.regions.specs.declared.Refusal.{Refusal}
use Rattle.regions.specs.declared.Choice.{Choice}
use Rattle.regions.specs.declared.Kind.{Kind}
use Rattle.queries.specs.Joins.{JoinsSets}
use Rattle.queries.specs.Searches.{FindsAncestors, FindsParent, parent_found}
use Rattle.capi.specs.Border.{told, TellsParent}

-- what is told of an answer that is known
pub tells : (w : List ℕ) (account p level : ℕ) (answer known : Result (Option Region) Refusal)
    → FindsParent w account p level answer
    → answer ≡ known
    → TellsParent w account p level (number_told known) (some (parent_found known)) (told (parent_found known))
tells w account p level answer known finds is =
    record { answer = known; finds = subst (FindsParent w account p level) is finds; number_is = refl; found_is = refl; region_is = refl }

pub finds_at : {w : List ℕ} {account p : ℕ} {ch ch' : Choice} {out : List ℕ} {number total made : ℕ} {out' : List ℕ}
    → ch ≡ ch'
    → FindsAncestors w account p ch out number total made out'
    → FindsAncestors w account p ch' out number total made out'
finds_at {w} {account} {p} {ch} {ch'} {out} {number} {total} {made} {out'} is finds =
    subst (λ (x : Choice). FindsAncestors w account p x out number total made out') is finds

pub joins_at : {outer inner : List ℕ} {account : ℕ} {k k' : Kind} {out : List ℕ} {number total : ℕ} {out' : List ℕ}
    → k ≡ k'
    → JoinsSets outer inner account k out number total out'
    → JoinsSets outer inner account k' out number total out'
joins_at {outer} {inner} {account} {k} {k'} {out} {number} {total} {out'} is joins =
    subst (λ (x : Kind). JoinsSets outer inner account x out number total out') is joins
