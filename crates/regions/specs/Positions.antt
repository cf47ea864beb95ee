-- Document 01, "Positions, regions, accounts".
-- Assumes nothing.
use Rattle.std.specs.Prelude.{ℕ, suc, ◌+◌, ◌/◌, ◌*◌, Bool, not, ◌&&◌, ◌||◌, leb, ltb, eqb}
use Rattle.regions.specs.Limits.{account_positions, document_positions, last_level}
use Rattle.regions.specs.declared.Region.{Region}
use Rattle.regions.specs.declared.Choice.{Choice}
use Rattle.regions.specs.declared.Choice.TheVariants.{Strict, WithSelf}

-- a position's document, and its account
abbrev pub document : ℕ → ℕ
document p = p / document_positions

abbrev pub account : ℕ → ℕ
account p = p / account_positions

-- the bounds of a search: they ascend and stay within a document
unfoldable pub well_bound : ℕ → ℕ → Bool
well_bound s e = ltb s e && eqb (document s) (document e)

-- a region: its two positions are such bounds, and it has a level from 1 to 255; of its reference nothing is asked
unfoldable pub well_formed : Region → Bool
well_formed r = well_bound r.start r.end && (leb 1 r.level && leb r.level last_level)

-- x ends before y starts; x starts before y and ends behind it
unfoldable pub ends_before : Region → Region → Bool
ends_before x y = ltb x.end y.start

unfoldable pub contains : Region → Region → Bool
contains x y = ltb x.start y.start && ltb y.end x.end

-- nested rightly, either way round. Whatever is not crosses, so that two regions with a position in common, at any of their ends, cross
unfoldable pub nested : Region → Region → Bool
nested x y = (ends_before x y || ends_before y x) || (contains x y || contains y x)

unfoldable pub crosses : Region → Region → Bool
crosses x y = not (nested x y)

-- LEVELS (change request C-15): what contains another has the smaller level. One lies in the other though its level is not above the other's
unfoldable pub misleveled : Region → Region → Bool
misleveled x y = contains x y && leb y.level x.level

-- the levels of two regions contradict how they nest, either way round; or they do not
unfoldable pub contradicts : Region → Region → Bool
contradicts x y = misleveled x y || misleveled y x

unfoldable pub leveled : Region → Region → Bool
leveled x y = not (contradicts x y)

-- a key inside a region, or at either end of it, stabs it ("A valid image", rule 3)
unfoldable pub stabs : ℕ → Region → Bool
stabs k r = leb r.start k && leb k r.end

-- THE CHOICE (change request C-17): two bounds span a position strictly, or with self, which lets the first one be the position itself
unfoldable pub spans : Choice → ℕ → ℕ → ℕ → Bool
spans Strict p s e = ltb s p && ltb p e
spans WithSelf p s e = leb s p && ltb p e

-- a region holds a position: strictly, it is an ancestor of what starts there; with self, it may be that itself
unfoldable pub holds : Choice → ℕ → Region → Bool
holds ch p r = spans ch p r.start r.end

-- (the first start that comes too late to hold the position: where a walk to it ends)
unfoldable pub too_late : Choice → ℕ → ℕ
too_late Strict p = p
too_late WithSelf p = suc p

-- a start that lies strictly inside given bounds: the region is a descendant of what has them
unfoldable pub inside : ℕ → ℕ → Region → Bool
inside s e r = ltb s r.start && ltb r.start e

-- the level one less, as a parent has it, and one more, as a child has it. (Level 0 has no parent, since no level is one less)
unfoldable pub is_above : ℕ → Region → Bool
is_above l r = eqb (r.level + 1) l

unfoldable pub is_below : ℕ → Region → Bool
is_below l r = eqb r.level (l + 1)

-- the first position of an account
abbrev pub lowest : ℕ → ℕ
lowest a = a * account_positions
