-- As many as fit, in several parts: items written one after the other into one lent answer.
-- Assumes nothing.
use Rattle.std.specs.Prelude.{ℕ, ◌*◌, ◌-◌, take}
use mathlib.Core.List.{List, flat_map}
use Rattle.std.proofs.lemmas.List.Edits.{sets}
use Rattle.regions.specs.Calls.{room}

-- the items are written as item number k, k + 1, .., as long as there is room; other words stay
unfoldable pub written_from : {X : Type 0} → (X → List ℕ) → ℕ → ℕ → List ℕ → List X → List ℕ
written_from words width k out xs = sets out (width * k) (flat_map words (take (room width out - k) xs))

-- an item that is words already
abbrev pub as_words : List ℕ → List ℕ
as_words ws = ws
