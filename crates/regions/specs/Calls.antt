-- Document 01, "Calls", of sets: each call's number, by its tests in their order (IMAGE, the image's own, comes before these), and what it lists.
-- Assumes nothing.
use Rattle.std.specs.Prelude.{ℕ, ◌/◌, Bool, true, not, ◌&&◌, ◌||◌, leb, ltb, eqb, length, take, drop}
use mathlib.Core.List.{List, [], ◌∷◌, map, flat_map}
use Rattle.std.proofs.lemmas.List.Edits.{sets}
use Rattle.words.specs.Lists.{filter, some, first_no, sum}
use Rattle.regions.specs.Limits.{last_account, most_regions}
use Rattle.regions.specs.Positions.{account, well_bound, well_formed, holds, inside, is_above, is_below}
use Rattle.regions.specs.Sets.{Set, of, held_by, share_of, held_at, crossed, contradicted, starts_behind}
use Rattle.regions.specs.Numbers.{REGION, ACCOUNT, HELD, CROSS, LEVEL, SHARE, ABSENT, SHARES}
use Rattle.regions.specs.declared.Region.{Region}
use Rattle.regions.specs.declared.Choice.{Choice}
use Rattle.regions.specs.declared.Choice.TheVariants.{Strict, WithSelf}
use Rattle.regions.specs.declared.Kind.{Kind}
use Rattle.regions.specs.declared.Kind.TheVariants.{Ancestor, Parent, AncestorOrSelf}

-- AS MANY AS FIT: whole items of so many words each; the first ones are written, other words stay
abbrev pub room : ℕ → List ℕ → ℕ
room width out = length out / width

unfoldable pub written : {X : Type 0} → (X → List ℕ) → ℕ → List ℕ → List X → List ℕ
written words width out xs = sets out 0 (flat_map words (take (room width out) xs))

-- how many those are, and whether more remain
unfoldable pub count_written : {X : Type 0} → ℕ → List ℕ → List X → ℕ
count_written width out xs = length (take (room width out) xs)

unfoldable pub more_remain : {X : Type 0} → ℕ → List ℕ → List X → Bool
more_remain width out xs = some (drop (room width out) xs)

-- a region in words
abbrev pub region_words : Region → List ℕ
region_words r = r.start ∷ r.end ∷ r.level ∷ r.reference ∷ []

-- account above 15, or a position of another account
unfoldable pub foreign : ℕ → ℕ → Bool
foreign a p = ltb last_account a || not (eqb (account p) a)

-- OPENING A SET
unfoldable pub open_set_no : List ℕ → ℕ
open_set_no shares = first_no ((ltb most_regions (sum shares), SHARES) ∷ [])

-- SAVE and DELETE
unfoldable pub save_no : Set → ℕ → Region → ℕ
save_no S a r =
    first_no
    ((not (well_formed r), REGION) ∷
    (foreign a r.start, ACCOUNT) ∷
    (held_at r.start S, HELD) ∷
    (crossed r S, CROSS) ∷
    (contradicted r S, LEVEL) ∷
    (leb (share_of a S) (held_by a S), SHARE) ∷
    [])

unfoldable pub delete_no : Set → ℕ → ℕ → ℕ
delete_no S a s = first_no ((foreign a s, ACCOUNT) ∷ (not (held_at s S), ABSENT) ∷ [])

-- ANCESTOR and PARENT SEARCH, by a position
unfoldable pub point_no : ℕ → ℕ → ℕ
point_no a p = first_no ((foreign a p, ACCOUNT) ∷ [])

-- ascending starts: outermost first. With self the region that starts at p is one of them, and the last (change request C-17)
abbrev pub ancestors : Choice → ℕ → Set → List Region
ancestors ch p S = filter (holds ch p) S.regions

-- those of the strict ones that have the level one less: at most one, since no two ancestors have the same level (change request C-16)
abbrev pub parent : ℕ → ℕ → Set → List Region
parent p l S = filter (is_above l) (ancestors Strict p S)

-- DESCENDANT and CHILD SEARCH, by bounds; "after" is any number
unfoldable pub bounds_no : ℕ → ℕ → ℕ → ℕ
bounds_no a s e = first_no ((not (well_bound s e), REGION) ∷ (foreign a s, ACCOUNT) ∷ [])

abbrev pub descendants : ℕ → ℕ → ℕ → Set → List Region
descendants s e after S = filter (starts_behind after) (filter (inside s e) S.regions)

abbrev pub children : ℕ → ℕ → ℕ → ℕ → Set → List Region
children s e l after S = filter (is_below l) (descendants s e after S)

-- THE JOIN of an account, by d's start and then a's start
pub record Pair : Type 0 where
  pub a : Region
  pub d : Region

-- by which choice a kind pairs: by position, so that with self any outer region that starts where d does is one (change request C-17)
unfoldable pub choice_of : Kind → Choice
choice_of Ancestor = Strict
choice_of Parent = Strict
choice_of AncestorOrSelf = WithSelf

-- a parent has the level one less, too
unfoldable pub level_fits : Kind → ℕ → Region → Bool
level_fits Ancestor l a = true
level_fits Parent l a = is_above l a
level_fits AncestorOrSelf l a = true

unfoldable pub pairs_with : Kind → Region → Region → Bool
pairs_with k d a = holds (choice_of k) d.start a && level_fits k d.level a

abbrev pub pair_of : Region → Region → Pair
pair_of d a = record { a = a; d = d }

-- the pairs of one d
unfoldable pub pairs_of : Kind → List Region → Region → List Pair
pairs_of k outer d = map (pair_of d) (filter (pairs_with k d) outer)

unfoldable pub joined : Set → Set → ℕ → Kind → List Pair
joined X Y a k = flat_map (pairs_of k (filter (of a) X.regions)) (filter (of a) Y.regions)

unfoldable pub join_no : ℕ → ℕ
join_no a = first_no ((ltb last_account a, ACCOUNT) ∷ [])

-- a pair in words
abbrev pub pair_words : Pair → List ℕ
pair_words q = q.a.start ∷ q.a.reference ∷ q.d.start ∷ q.d.reference ∷ []
