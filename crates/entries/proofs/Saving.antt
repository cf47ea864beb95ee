-- `put_entry` as a whole: what its calls ask is there, and the set with the region stands in the image afterwards.
-- Assumes nothing.
use Rattle.std.specs.Prelude.{Option}
use Prim.Native.Nat.{ℕ, ◌≤◌, ◌<◌}
use mathlib.Core.Path.{◌≡◌, refl, sym, ap, ◌∙◌, subst}
use mathlib.Core.Bool.{Bool, true, false, cond}
use mir.Val.{bool_byte}
use Rattle.std.specs.Option.{is_some}
use mathlib.Core.List.{List, [], ◌∷◌, ◌++◌}
use lib.ListN.{get_or, take}
use native.Mathlib.Omega.{arith}
use Rattle.words.specs.Lists.{All, Pairs}
use Rattle.words.proofs.Listed.{all_mono, all_right}
use Rattle.regions.specs.declared.Region.{Region}
use Rattle.pages.specs.Layout.{root_of, page_of, fill_of}
use Rattle.xrtree.specs.Tree.{Tree, regions}
use Rattle.xrtree.specs.Claims.{Over, Fits}
use Rattle.xrtree.specs.Moves.{put, own}
use Rattle.image.specs.Read.{depth_of}
use Rattle.owners.specs.Owners.{owner_along}
use Rattle.owners.specs.declared.Spot.{Spot}
use Rattle.newpages.specs.Pages.{new_entry}
use Rattle.holding.specs.Held.{place_of}
use Rattle.records.specs.Touched.{Room}
use Rattle.standing.specs.Stands.{top}
use Rattle.roots.specs.WholeTree.{Whole}
use Rattle.entries.specs.Ways.{leaf_on, at_leaf, renew}
use Rattle.entries.specs.Owners.{spot_of, put_entry, flag_at}
use Rattle.entries.specs.Lies.{Lies, Stepped, LeafReady, LeafStep, OwnerReady, ListStep}
use Rattle.entries.specs.Changed.{OneMore, Grown, Entering, Entered}
use Rattle.entries.proofs.Stepped.{stepped_then, lies_of, stands_of}
use Rattle.entries.proofs.Halves.{ready_fill}
use Rattle.entries.proofs.Flagged.{spot_same}
use Rattle.entries.proofs.Putting.{long_put, saved_regions, saved_part}
use Rattle.entries.proofs.Alongs.{at_along, own_along, along_path}
use Rattle.entries.proofs.Paths.{path_places, path_fills, path_leaf, path_owner}

-- the flag of the new entry
pub flag_is : (f : ℕ) (b : Bool) (x : Option Spot) → f ≡ bool_byte b → b ≡ is_some x → f ≡ flag_at x
flag_is f true x e i = e ∙ ap (λ c. cond {A = ℕ} c 1 0) i
flag_is f false x e i = e ∙ ap (λ c. cond {A = ℕ} c 1 0) i

-- a region between the earlier and the later ones
pub pairs_middle : (us vs : List Region) (r : Region) → Pairs Over (us ++ r ∷ vs) → All (λ (x : Region). x.start < r.start) us × All (λ (x : Region). r.start < x.start) vs
pairs_middle [] vs r p = (tt, all_mono (λ x m. m.0) vs p.0)
pairs_middle (u ∷ us) vs r p = let i = pairs_middle us vs r p.1 in (((all_right (Over u) us (r ∷ vs) p.0).0.0, i.0), i.1)

-- how many pages lie below the root
pub depth_is : (w : List ℕ) (rs : List Region) (h : ℕ) (t : Tree h) (d : ℕ) → Whole w rs h t → d ≡ depth_of w → d ≡ h
depth_is w rs h t d s e = omega (arith, s.height)

module _ (w path : List ℕ) (r : Region) (s : Entering w path r) (d : ℕ) (deep : d ≡ depth_of w) where
  abbrev h : ℕ
  h = s.h

  abbrev t : Tree h
  t = s.t

  abbrev rs : List Region
  rs = s.earlier ++ s.later

  here : d ≡ h
  here = depth_is w rs h t d s.whole deep

  lies : Lies w h t
  lies = lies_of w rs h t s.whole.stands

  fits : Fits top r
  fits = (all_right (Fits top) s.earlier (r ∷ s.later) s.proper.well).0

  sides : All (λ (x : Region). x.start < r.start) s.earlier × All (λ (x : Region). r.start < x.start) s.later
  sides = pairs_middle s.earlier s.later r s.proper.pairs

  pub put_owner_asks : (d ≤ 3) × All (λ p. fill_of (page_of w p) ≤ 9) (take d path)
  put_owner_asks = (omega (arith, here, s.flat), path_fills w h t lies s.whole.root path r.start d s.flat s.path_is here)

  abbrev ready : LeafReady w (get_or path d 0) r.start
  ready = record { h = h; t = t; lies = lies; place_is = path_leaf w h t lies s.whole.root path r.start d s.flat s.path_is here }

  pub put_leaf_asks : LeafReady w (get_or path d 0) r.start × (fill_of (page_of w (get_or path d 0)) ≤ 8)
  put_leaf_asks = (ready, omega (arith, ready_fill w (get_or path d 0) r.start ready, s.fits))

  module _ (x : Option Spot) (x_is : x ≡ owner_along w r.start r.end (take d path)) (b : ℕ) (b_is : b ≡ flag_at x) where
    spot : x ≡ spot_of r.start r.end h t
    spot = x_is ∙ path_owner w h t lies s.whole.root path r.start d s.flat s.path_is here r.end (omega (arith, fits.0))

    abbrev t₁ : Tree h
    t₁ = at_leaf (renew (put_entry (new_entry r b))) r.start h t

    module _ (w₁ : List ℕ) (leaf : (a : LeafReady w (get_or path d 0) r.start) → LeafStep w w₁ (renew (put_entry (new_entry r b))) r.start a.h a.t) where
      first : LeafStep w w₁ (renew (put_entry (new_entry r b))) r.start h t
      first = leaf ready

      abbrev owner_ready : OwnerReady w₁ x r
      owner_ready =
          record {
            h = h;
            t = t₁;
            lies = first.step.lies;
            spot_is = spot ∙ sym (spot_same (renew (put_entry (new_entry r b))) r.start r.end h t);
            ends = omega (arith, fits.0);
          }

      pub put_list_asks : OwnerReady w₁ x r × Room w₁
      put_list_asks = (owner_ready, record { place = s.room.place; low = s.room.low; high = s.room.high; free = first.used s.room.place ∙ s.room.free })

      module _ (w₂ : List ℕ) (list : (a : OwnerReady w₁ x r) → ListStep w₁ w₂ (put r) r a.h a.t) where
        second : ListStep w₁ w₂ (put r) r h t₁
        second = list owner_ready

        abbrev t₂ : Tree h
        t₂ = own (put r) second.places r h t₁

        both : Stepped w w₂ h t t₂
        both = stepped_then w w₁ w₂ h t t₁ t₂ first.step second.step

        old_pairs : Pairs Over rs
        old_pairs = subst (Pairs Over) s.whole.same s.whole.stands.pairs

        regions_are : regions h t₂ ≡ s.earlier ++ r ∷ s.later
        regions_are =
            saved_regions s.earlier s.later r b h t s.whole.stands.part s.whole.same old_pairs sides.0 sides.1 fits (b_is ∙ ap flag_at spot) second.places

        root_is : root_of w₂ ≡ place_of h t₂
        root_is = both.root ∙ s.whole.root ∙ sym both.place

        grown_is : Grown r.start h t t₂
        grown_is =
            own_along OneMore (put r) second.places r (omega (arith, fits.0)) h t t₁
            (at_along OneMore (renew (put_entry (new_entry r b))) r.start h t (refl, refl, long_put (new_entry r b) (leaf_on r.start h t).entries))

        pub put_done : Entered w w₂ r s.earlier s.later s.h s.t
        put_done =
            record {
              tree = t₂;
              whole = record {
                stands = stands_of w₂ (s.earlier ++ r ∷ s.later) h t₂ both.lies
                    (saved_part s.earlier s.later r b h t s.whole.stands.part s.whole.same old_pairs sides.0 sides.1 fits (b_is ∙ ap flag_at spot) second.places)
                    regions_are s.proper;
                same = regions_are;
                root = root_is;
                height = both.height ∙ s.whole.height;
              };
              grown = grown_is;
              place = both.place;
              pages = both.pages;
              shares = both.shares;
              path_same = path_places w₂ h t₂ both.lies root_is r.start ∙ along_path OneMore (λ l l' m. m.0) r.start h t t₂ grown_is
                  ∙ sym (path_places w h t lies s.whole.root r.start);
            }
