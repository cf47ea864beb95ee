-- The run over what is met, one after the other.
-- Assumes nothing.
use mathlib.Core.Path.{◌≡◌, refl}
use mathlib.Core.List.{List, [], ◌∷◌, ◌++◌}
use Rattle.std.specs.Prelude.{Option, Some, None, option_and_then}
use Rattle.passes.specs.declared.Passed.{Passed}
use Rattle.shape.specs.Run.{Event, step, run}

then_append : (es fs : List Event) (o : Option Passed) → ((t : Passed) → run (es ++ fs) t ≡ option_and_then (run fs) (run es t))
    → option_and_then (run (es ++ fs)) o ≡ option_and_then (run fs) (option_and_then (run es) o)
then_append es fs None h = refl
then_append es fs (Some t) h = h t

-- a run over two lists is a run over the second from where the first led
pub run_append : (es fs : List Event) (s : Passed) → run (es ++ fs) s ≡ option_and_then (run fs) (run es s)
unfolding run
run_append [] fs s = refl
run_append (e ∷ es) fs s = then_append es fs (step e s) (λ t. run_append es fs t)

pub run_one : (e : Event) (es : List Event) (s : Passed) → run (e ∷ es) s ≡ option_and_then (run es) (step e s)
unfolding run
run_one e es s = refl
