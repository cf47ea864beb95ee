-- The numbers of a save and of a delete, by the first test that refuses it.
-- Assumes nothing.
use Prim.Native.Nat.{ℕ, ◌+◌, ◌<◌}
use mathlib.Core.Path.{◌≡◌, sym, ap₂, ◌∙◌}
use mathlib.Core.Bool.{true, false}
use mathlib.Core.List.{List}
use lib.Dec.{leb}
use lib.ListN.{get_or}
use native.Mathlib.Omega.{arith}
use Rattle.words.specs.Lists.{first_no}
use Rattle.regions.specs.Positions.{well_formed}
use Rattle.regions.specs.Sets.{Set, held_at, crossed, contradicted, share_of, held_by}
use Rattle.regions.specs.Calls.{foreign, save_no, delete_no}
use Rattle.regions.specs.declared.Region.{Region}
use Rattle.words.proofs.Says.{true_so}
use Rattle.regions.proofs.Means.{formed_says}
use Rattle.regions.proofs.Done.{own_of}
use Rattle.image.specs.Read.{set_of}
use Rattle.census.proofs.Shares.{share_at}

-- SAVE
module _ (S : Set) (a : ℕ) (r : Region) where
  pub save_region : well_formed r ≡ false → 2 ≡ save_no S a r
  unfolding save_no first_no
  save_region e = rw e

  module _ (e : well_formed r ≡ true) where
    pub save_foreign : foreign a r.start ≡ true → 3 ≡ save_no S a r
    unfolding save_no first_no
    save_foreign f = rw (e, f)

    module _ (f : foreign a r.start ≡ false) where
      pub save_held : held_at r.start S ≡ true → 4 ≡ save_no S a r
      unfolding save_no first_no
      save_held g = rw (e, f, g)

      module _ (g : held_at r.start S ≡ false) where
        pub save_cross : crossed r S ≡ true → 5 ≡ save_no S a r
        unfolding save_no first_no
        save_cross h = rw (e, f, g, h)

        module _ (h : crossed r S ≡ false) where
          pub save_level : contradicted r S ≡ true → 14 ≡ save_no S a r
          unfolding save_no first_no
          save_level i = rw (e, f, g, h, i)

          pub save_share : contradicted r S ≡ false → leb (share_of a S) (held_by a S) ≡ true → 6 ≡ save_no S a r
          unfolding save_no first_no
          save_share i j = rw (e, f, g, h, i, j)

          pub save_goes : contradicted r S ≡ false → leb (share_of a S) (held_by a S) ≡ false → 0 ≡ save_no S a r
          unfolding save_no first_no
          save_goes i j = rw (e, f, g, h, i, j)

-- DELETE
module _ (S : Set) (a s : ℕ) where
  pub delete_foreign : foreign a s ≡ true → 3 ≡ delete_no S a s
  unfolding delete_no first_no
  delete_foreign f = rw f

  pub delete_absent : foreign a s ≡ false → held_at s S ≡ false → 7 ≡ delete_no S a s
  unfolding delete_no first_no
  delete_absent f g = rw (f, g)

  pub delete_goes : foreign a s ≡ false → held_at s S ≡ true → 0 ≡ delete_no S a s
  unfolding delete_no first_no
  delete_goes f g = rw (f, g)

-- a share is a word of the image
pub share_word : (w : List ℕ) (a : ℕ) → a < 16 → get_or w (2 + a) 0 ≡ share_of a (set_of w)
unfolding set_of
share_word w a l = sym (share_at w a l)

pub full_is : (w held : List ℕ) (a share : ℕ) → a < 16 → get_or held a 0 ≡ held_by a (set_of w) → share ≡ get_or w (2 + a) 0
    → leb share (get_or held a 0) ≡ leb (share_of a (set_of w)) (held_by a (set_of w))
full_is w held a share l e j = ap₂ leb (j ∙ share_word w a l) e

-- a well formed region starts before it ends; an account that a position belongs to is at most 15
pub formed_order : (r : Region) → well_formed r ≡ true → r.start < r.end
formed_order r e = (true_so (formed_says r) e).order

pub own_low : (a p : ℕ) → foreign a p ≡ false → a < 16
own_low a p e = let o = own_of a p e in omega (arith, o.range)
