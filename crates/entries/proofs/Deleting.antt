-- `take_entry` as a whole: what its calls ask is there, and the set without the region stands in the image afterwards.
-- Assumes nothing.
use Rattle.std.specs.Prelude.{Option}
use Prim.Native.Nat.{ℕ, zero, suc, ◌+◌, ◌≤◌, ◌<◌}
use mathlib.Core.Path.{◌≡◌, refl, sym, ap, ◌∙◌, subst}
use mathlib.Core.List.{List, [], ◌∷◌, ◌++◌, head-eq_of_cons-eq}
use lib.ListN.{length, get_or, take, drop, length-append}
use native.Mathlib.Omega.{arith}
use Rattle.words.specs.Lists.{All, Pairs, take_while, drop_while}
use Rattle.words.proofs.Listed.{all_left, all_right, all_append, while_join}
use Rattle.regions.specs.declared.Region.{Region}
use Rattle.pages.specs.Layout.{root_of, page_of, fill_of, region_in, entry_word}
use Rattle.xrtree.specs.Tree.{Entry, Tree, regions}
use Rattle.xrtree.specs.Claims.{Over, Fits}
use Rattle.xrtree.specs.Moves.{out, own}
use Rattle.image.specs.Read.{entries_from, depth_of}
use Rattle.path.specs.Path.{path_from, padded}
use Rattle.owners.specs.Owners.{owner_along}
use Rattle.owners.specs.declared.Spot.{Spot}
use Rattle.newpages.specs.Pages.{entries_of}
use Rattle.holding.specs.Held.{place_of}
use Rattle.standing.specs.Stands.{top}
use Rattle.roots.specs.WholeTree.{Whole}
use Rattle.entries.specs.Ways.{leaf_on, at_leaf, renew}
use Rattle.entries.specs.Owners.{spot_of, starts_before, entries_before, out_entry}
use Rattle.entries.specs.Lies.{Lies, Stepped, LeafReady, LeafStep, OwnerReady, ListStep}
use Rattle.entries.specs.Changed.{OneLess, Shrunk, Leaving, Left}
use Rattle.entries.proofs.Stepped.{stepped_then, lies_of, stands_of}
use Rattle.entries.proofs.Cuts.{drop_while_lem}
use Rattle.entries.proofs.Halves.{ready_entries, ready_few}
use Rattle.entries.proofs.Flagged.{spot_same}
use Rattle.entries.proofs.Taking.{InLeaf, in_leaf, deleted_regions, deleted_part}
use Rattle.entries.proofs.Alongs.{at_along, own_along, along_path}
use Rattle.entries.proofs.Paths.{path_places, path_fills, path_leaf, path_owner}
use Rattle.entries.proofs.Saving.{pairs_middle, depth_is}

-- a set without one of its regions
pairs_without : (us vs : List Region) (r : Region) → Pairs Over (us ++ r ∷ vs) → Pairs Over (us ++ vs)
pairs_without [] vs r p = p.1
pairs_without (u ∷ us) vs r p =
    (all_append (Over u) us vs (all_left (Over u) us (r ∷ vs) p.0) (all_right (Over u) us (r ∷ vs) p.0).1, pairs_without us vs r p.1)

-- an entry of a leaf in the words
entry_nth : (ws : List ℕ) (i j n : ℕ) (e : Entry) (rest : List Entry) → drop i (entries_from ws j n) ≡ e ∷ rest → (i < n) × (region_in ws (entry_word (j + i)) ≡ e.region)
unfolding entries_from
entry_nth ws zero j zero e rest d = absurd (omega (arith, ap length d))
entry_nth ws zero j (suc n) e rest d = let z : j + 0 ≡ j = omega arith in (omega arith, rw z (ap (λ (x : Entry). x.region) (head-eq_of_cons-eq d)))
entry_nth ws (suc i) j zero e rest d = absurd (omega (arith, ap length d))
entry_nth ws (suc i) j (suc n) e rest d =
    let z : j + suc i ≡ suc j + i = omega arith in
    let k = entry_nth ws i (suc j) n e rest d in
    (omega (arith, k.0), rw z k.1)

out_long : (s : ℕ) (es : List Entry) (e : Entry) (rest : List Entry) → drop_while (starts_before s) es ≡ e ∷ rest → suc (length (out_entry s es)) ≡ length es
unfolding out_entry
out_long s es e rest d =
    let Q = starts_before s in
    omega (arith, length-append (take_while Q es) (drop 1 (drop_while Q es)), length-append (take_while Q es) (drop_while Q es), ap length (while_join Q es), ap (λ x. length (drop 1 x)) d, ap length d)

-- of the region that starts at its own start
module _ (w path : List ℕ) (us vs : List Region) (r : Region) (h : ℕ) (t : Tree h) (s : Whole w (us ++ r ∷ vs) h t) (flat : h ≤ 3) (path_is : path ≡ padded (path_from h w r.start (root_of w)))
    (d : ℕ) (deep : d ≡ depth_of w) where
  here : d ≡ h
  here = depth_is w (us ++ r ∷ vs) h t d s deep

  lies : Lies w h t
  lies = lies_of w (us ++ r ∷ vs) h t s.stands

  pairs : Pairs Over (us ++ r ∷ vs)
  pairs = subst (Pairs Over) s.same s.stands.pairs

  well : All (Fits top) (us ++ r ∷ vs)
  well = subst (All (Fits top)) s.same s.stands.well

  fits : Fits top r
  fits = (all_right (Fits top) us (r ∷ vs) well).0

  sides : All (λ (x : Region). x.start < r.start) us × All (λ (x : Region). r.start < x.start) vs
  sides = pairs_middle us vs r pairs

  there : InLeaf r (leaf_on r.start h t).entries
  there = in_leaf us vs r h t s.stands.part s.same pairs sides.0 sides.1 fits

  take_owner_asks : (d ≤ 3) × All (λ p. fill_of (page_of w p) ≤ 9) (take d path)
  take_owner_asks = (omega (arith, here), path_fills w h t lies s.root path r.start d flat path_is here)

  abbrev ready : LeafReady w (get_or path d 0) r.start
  ready = record { h = h; t = t; lies = lies; place_is = path_leaf w h t lies s.root path r.start d flat path_is here }

  -- the entry that is found is the region's
  module _ (i : ℕ) (i-is : i ≡ entries_before (page_of w (get_or path d 0)) r.start) where
    dropped : drop i (entries_of (page_of w (get_or path d 0))) ≡ there.entry ∷ there.rest
    unfolding entries_before
    dropped =
        ap (λ k. drop k (entries_of (page_of w (get_or path d 0)))) i-is ∙ drop_while_lem (starts_before r.start) (entries_of (page_of w (get_or path d 0)))
        ∙ ap (drop_while (starts_before r.start)) (ready_entries w (get_or path d 0) r.start ready) ∙ there.is

    found : (i < fill_of (page_of w (get_or path d 0))) × (region_in (page_of w (get_or path d 0)) (entry_word i) ≡ r)
    found =
        let z : 0 + i ≡ i = omega arith in
        let k = entry_nth (page_of w (get_or path d 0)) i 0 (fill_of (page_of w (get_or path d 0))) there.entry there.rest dropped in
        (k.0, ap (λ j. region_in (page_of w (get_or path d 0)) (entry_word j)) (sym z) ∙ k.1 ∙ there.region_is)

  module _ (x : Option Spot) (x_is : x ≡ owner_along w r.start r.end (take d path)) where
    spot : x ≡ spot_of r.start r.end h t
    spot = x_is ∙ path_owner w h t lies s.root path r.start d flat path_is here r.end (omega (arith, fits.0))

    abbrev t₁ : Tree h
    t₁ = at_leaf (renew (out_entry r.start)) r.start h t

    module _ (w₁ : List ℕ) (leaf : (a : LeafReady w (get_or path d 0) r.start) → LeafStep w w₁ (renew (out_entry r.start)) r.start a.h a.t) where
      first : LeafStep w w₁ (renew (out_entry r.start)) r.start h t
      first = leaf ready

      abbrev owner_ready : OwnerReady w₁ x r
      owner_ready =
          record { h = h; t = t₁; lies = first.step.lies; spot_is = spot ∙ sym (spot_same (renew (out_entry r.start)) r.start r.end h t); ends = omega (arith, fits.0) }

      module _ (w₂ : List ℕ) (list : (a : OwnerReady w₁ x r) → ListStep w₁ w₂ (out r.start) r a.h a.t) where
        second : ListStep w₁ w₂ (out r.start) r h t₁
        second = list owner_ready

        abbrev t₂ : Tree h
        t₂ = own (out r.start) second.places r h t₁

        both : Stepped w w₂ h t t₂
        both = stepped_then w w₁ w₂ h t t₁ t₂ first.step second.step

        regions_are : regions h t₂ ≡ us ++ vs
        regions_are = deleted_regions us vs r h t s.stands.part s.same pairs sides.0 sides.1 fits second.places

        root_is : root_of w₂ ≡ place_of h t₂
        root_is = both.root ∙ s.root ∙ sym both.place

        shrunk_is : Shrunk r.start h t t₂
        shrunk_is =
            own_along OneLess (out r.start) second.places r (omega (arith, fits.0)) h t t₁
            (at_along OneLess (renew (out_entry r.start)) r.start h t (refl, refl, out_long r.start (leaf_on r.start h t).entries there.entry there.rest there.is))

        left : Left w w₂ r.start us vs h t
        left =
            record {
              tree = t₂;
              whole = record {
                stands = stands_of w₂ (us ++ vs) h t₂ both.lies (deleted_part us vs r h t s.stands.part s.same pairs sides.0 sides.1 fits second.places) regions_are
                    (record { pairs = pairs_without us vs r pairs; well = all_append (Fits top) us vs (all_left (Fits top) us (r ∷ vs) well) (all_right (Fits top) us (r ∷ vs) well).1 });
                same = regions_are;
                root = root_is;
                height = both.height ∙ s.height;
              };
              shrunk = shrunk_is;
              place = both.place;
              pages = both.pages;
              shares = both.shares;
              path_same = path_places w₂ h t₂ both.lies root_is r.start ∙ along_path OneLess (λ l l' m. m.0) r.start h t t₂ shrunk_is ∙ sym (path_places w h t lies s.root r.start);
            }

-- as the code has it: `start` is what the region starts at, and r is the region as it was read
module _ (w path : List ℕ) (start : ℕ) (s : Leaving w path start) (d : ℕ) (deep : d ≡ depth_of w) where
  path_at : path ≡ padded (path_from s.h w s.region.start (root_of w))
  path_at = subst (λ z. path ≡ padded (path_from s.h w z (root_of w))) (sym s.start_is) s.path_is

  pub leaf_at_lem : LeafReady w (get_or path d 0) start
  leaf_at_lem = subst (LeafReady w (get_or path d 0)) s.start_is (ready w path s.earlier s.later s.region s.h s.t s.whole s.flat path_at d deep)

  pub leaf_few : fill_of (page_of w (get_or path d 0)) ≤ 9
  leaf_few = ready_few w (get_or path d 0) start leaf_at_lem

  module _ (i : ℕ) (i-is : i ≡ entries_before (page_of w (get_or path d 0)) start) where
    is_there : (i < fill_of (page_of w (get_or path d 0))) × (region_in (page_of w (get_or path d 0)) (entry_word i) ≡ s.region)
    is_there =
        found w path s.earlier s.later s.region s.h s.t s.whole s.flat path_at d deep i
        (i-is ∙ ap (entries_before (page_of w (get_or path d 0))) (sym s.start_is))

    pub entry_below : i < 9
    entry_below = omega (arith, is_there.0, leaf_few)

    pub take_leaf_asks : LeafReady w (get_or path d 0) start × (i ≡ entries_before (page_of w (get_or path d 0)) start) × (i < fill_of (page_of w (get_or path d 0)))
    take_leaf_asks = (leaf_at_lem, i-is, is_there.0)

    module _ (r : Region) (r-is : r ≡ region_in (page_of w (get_or path d 0)) (entry_word i)) where
      same : r ≡ s.region
      same = r-is ∙ is_there.1

      pub owner_asks : (d ≤ 3) × All (λ p. fill_of (page_of w p) ≤ 9) (take d path)
      owner_asks = take_owner_asks w path s.earlier s.later s.region s.h s.t s.whole s.flat path_at d deep

      module _ (x : Option Spot) (x_is : x ≡ owner_along w r.start r.end (take d path)) where
        x_at : x ≡ owner_along w s.region.start s.region.end (take d path)
        x_at = x_is ∙ ap (λ (z : Region). owner_along w z.start z.end (take d path)) same

        module _ (w₁ : List ℕ) (leaf : (a : LeafReady w (get_or path d 0) start) → LeafStep w w₁ (renew (out_entry start)) start a.h a.t) where
          leaf' : (a : LeafReady w (get_or path d 0) s.region.start) → LeafStep w w₁ (renew (out_entry s.region.start)) s.region.start a.h a.t
          leaf' = subst (λ z. (a : LeafReady w (get_or path d 0) z) → LeafStep w w₁ (renew (out_entry z)) z a.h a.t) (sym s.start_is) leaf

          pub take_list_asks : OwnerReady w₁ x r
          take_list_asks =
              subst (OwnerReady w₁ x) (sym same) (owner_ready w path s.earlier s.later s.region s.h s.t s.whole s.flat path_at d deep x x_at w₁ leaf')

          pub take_done : (w₂ : List ℕ) → ((a : OwnerReady w₁ x r) → ListStep w₁ w₂ (out r.start) r a.h a.t) → Left w w₂ start s.earlier s.later s.h s.t
          take_done w₂ list =
              subst (λ z. Left w w₂ z s.earlier s.later s.h s.t) s.start_is
              (left w path s.earlier s.later s.region s.h s.t s.whole s.flat path_at d deep x x_at w₁ leaf' w₂
              (subst (λ z. (a : OwnerReady w₁ x z) → ListStep w₁ w₂ (out z.start) z a.h a.t) same list))
