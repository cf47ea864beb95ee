-- The ways out of an audit: a part that fails makes the image invalid, three that pass make it valid.
-- Assumes nothing.
use Prim.Native.Nat.{ℕ, ◌<◌}
use mathlib.Core.Path.{◌≡◌, sym, ◌∙◌}
use mathlib.Core.Bool.{true, false, true≢false}
use mathlib.Core.List.{List}
use lib.ListN.{get_or}
use Rattle.regions.specs.Sets.{held_by}
use Rattle.image.specs.Read.{set_of}
use Rattle.image.specs.Valid.{valid}
use Rattle.image.specs.Shape.{shapely, regions_right, lists_right}
use Rattle.image.proofs.Parts.{valid_parts}
use Rattle.audit.specs.Report.{Reports}

invalid : (w held : List ℕ) → valid w ≡ false → Reports w false held
invalid w held v = record { decides = sym v; counts = λ t. absurd (true≢false (sym t ∙ v)) }

pub no_shape : (w held : List ℕ) → shapely w ≡ false → Reports w false held
no_shape w held s = invalid w held (valid_parts w ∙ rw s)

pub no_regions : (w held : List ℕ) → shapely w ≡ true → regions_right w ≡ false → Reports w false held
no_regions w held s r = invalid w held (valid_parts w ∙ rw (s, r))

pub no_lists : (w held : List ℕ) → shapely w ≡ true → regions_right w ≡ true → lists_right w ≡ false → Reports w false held
no_lists w held s r l = invalid w held (valid_parts w ∙ rw (s, r, l))

pub all_right : (w held : List ℕ) → shapely w ≡ true → regions_right w ≡ true → lists_right w ≡ true → ((a : ℕ) → a < 16 → get_or held a 0 ≡ held_by a (set_of w)) → Reports w true held
all_right w held s r l c = record { decides = sym (valid_parts w ∙ rw (s, r, l)); counts = λ v. c }
