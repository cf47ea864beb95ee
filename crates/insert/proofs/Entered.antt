-- The whole save: what it has before the entry comes in, what stands behind it, and what the image means in the end.
-- Assumes nothing.
use Prim.Native.Nat.{ℕ, zero, suc, ◌≤◌, ◌<◌}
use mathlib.Core.Path.{◌≡◌, refl, sym, ap, ◌∙◌, subst}
use mathlib.Core.List.{List, [], ◌∷◌, ◌++◌}
use lib.Dec.{T}
use lib.ListN.{length, length-append}
use native.Mathlib.Omega.{arith}
use Rattle.words.specs.Lists.{All, all, all_pairs, filter}
use Rattle.words.proofs.Tests.{and_left, and_right}
use Rattle.words.proofs.Listed.{all_two}
use Rattle.regions.specs.declared.Region.{Region}
use Rattle.regions.specs.Positions.{well_formed, nested}
use Rattle.regions.specs.Sets.{Set, starts_before, starts_behind, saved}
use Rattle.regions.specs.Calls.{save_no}
use Rattle.regions.proofs.Done.{save_done}
use Rattle.regions.proofs.Rising.{free_sides, saved_all}
use Rattle.xrtree.specs.Tree.{Key, Inner, Tree, regions, page_places, record_places}
use Rattle.xrtree.specs.Rules.{filled_below, filled, rule6}
use Rattle.xrtree.specs.Claims.{Proper}
use Rattle.xrtree.proofs.Rules.{well_long, nested_says, nested_pairs}
use Rattle.xrtree.specs.Holes.{Post}
use Rattle.xrtree.specs.Holes.Post.{at_key, at_end}
use Rattle.pages.specs.Layout.{root_of, height_of, shares_of}
use Rattle.image.specs.Read.{depth_of, tree_of, set_of}
use Rattle.image.specs.Valid.{valid}
use Rattle.image.proofs.Small.{Small, small_ends}
use Rattle.image.proofs.Facts.{valid_facts}
use Rattle.holding.specs.Held.{EveryKid}
use Rattle.holding.proofs.Reading.{place_read}
use Rattle.standing.specs.Stands.{top, Around, nothing_around}
use Rattle.standing.proofs.Whole.{valid_stands, set_is, stands_valid}
use Rattle.steps.specs.Steps.{size, KidsFilled}
use Rattle.records.specs.Touched.{Room}
use Rattle.path.specs.Path.{path_of, padded}
use Rattle.room.specs.Ways.{Filled, Behind, Others, Ahead, OnWay, Way, Below}
use Rattle.room.proofs.Fills.{kids_every, of_filled, of_root, of_root_leaf, every_fill, hole_but}
use Rattle.room.proofs.Pages.{few_pages}
use Rattle.room.proofs.Records.{room_whole, whole_few, record_free}
use Rattle.room.proofs.Sets.{SetFacts, saved_facts, save_room, facts_few, valid_set}
use Rattle.roots.specs.WholeTree.{Whole}
use Rattle.entries.specs.Ways.{Greater}
use Rattle.entries.specs.Changed.{SameKids, SamePost, WayStep, Along, OneMore, Entering, Entered}
use Rattle.entries.proofs.Alongs.{low_same, high_same}
use Rattle.entries.proofs.Paths.{filled_leaf}
use Rattle.entries.proofs.Fills.{along_long}
use Rattle.insert.specs.Spreads.{Loose, Spreading, Spreads, Topping, Topped}
use Rattle.insert.proofs.Reading.{whole_path}

-- FILLS: the children off the way are the same
module _ {A : Type 0} (P : A → Type 0) where
  all_same : (a b : List (A × Key)) → SameKids a b → All (λ c. P c.0) a → All (λ c. P c.0) b
  all_same [] [] p f = tt
  all_same [] (d ∷ b) p f = absurd p
  all_same (c ∷ a) [] p f = absurd p
  all_same (c ∷ a) (d ∷ b) p f = (subst P (sym p.0) f.0, all_same a b p.2 f.1)

  behind_same : (a b : Post A) → SamePost a b → Behind P a → Behind P b
  behind_same (at_key k cs last) (at_key k' cs' last') p f = subst (λ l. EveryKid P l last') (sym p.1) (subst (λ z. EveryKid P cs z) (sym p.2) f)
  behind_same (at_key k cs last) at_end p f = absurd p
  behind_same at_end (at_key k' cs' last') p f = absurd p
  behind_same at_end at_end p f = tt

ahead : {A : Type 0} (x : ℕ) (post : Post A) → Greater x post → Ahead x post
ahead x (at_key k cs last) a = a
ahead x at_end a = tt

-- the child on the way has one entry more at the way's end
grown_below : (x h : ℕ) → ((c c' : Tree h) → Along OneMore x h c c' → Filled h c → Way 4 9 x h c') → (t t' : Tree (suc h)) → WayStep x h (Along OneMore x h) t t' → KidsFilled (suc h) t → Below 4 9 x h t'
grown_below x h ih t t' a k =
    let was = subst (λ (u : Inner (Tree h)). EveryKid (Filled h) u.kids u.last) a.was (kids_every (filled_below h) t.kids t.last k) in
    let e = every_fill (Filled h) a.pre a.post a.child was in
    let on : OnWay x a.pre' a.post' = (low_same x a.pre a.pre' a.before a.low, ahead x a.post' (high_same x a.post a.post' a.after a.high)) in
    let others : Others (Filled h) a.pre' a.post' = (all_same (Filled h) a.pre a.pre' a.before e.0.0, behind_same (Filled h) a.post a.post' a.after e.0.1) in
    subst (Below 4 9 x h) (sym a.is) (hole_but (Filled h) (Way 4 9 x h) x a.pre' a.post' a.child' on others (ih a.child a.child' a.below e.1))

grown_way : (x h : ℕ) (t t' : Tree h) → Along OneMore x h t t' → Filled h t → Way 4 9 x h t'
grown_way x zero t t' a f = let v = of_filled 0 t f in (omega (arith, a.2, v.0), omega (arith, a.2, v.1))
grown_way x (suc h) t t' a f =
    let v = of_filled (suc h) t f in
    let n = along_long OneMore x h t t' a in
    (omega (arith, v.0), omega (arith, v.1), grown_below x h (λ c c' b g. grown_way x h c c' b g) t t' a v.2)

grown_loose : (x h : ℕ) (t t' : Tree h) → Along OneMore x h t t' → T (filled h t) → Loose x h t' × (0 < h → 1 ≤ size h t')
grown_loose x zero t t' a f = (omega (arith, a.2, of_root_leaf t f), (λ l. absurd (omega arith)))
grown_loose x (suc h) t t' a f =
    let v = of_root h t f in
    let n = along_long OneMore x h t t' a in
    ((omega (arith, v.1), grown_below x h (λ c c' b g. grown_way x h c c' b g) t t' a v.2), (λ l. omega (arith, v.0)))

-- A SAVE'S SET, in parts
abbrev earlier : List ℕ → Region → List Region
earlier w r = filter (starts_before r.start) (set_of w).regions

abbrev later : List ℕ → Region → List Region
later w r = filter (starts_behind r.start) (set_of w).regions

module _ (w : List ℕ) (small : Small w) (r : Region) (a : ℕ) (v : T (valid w)) (e : save_no (set_of w) a r ≡ 0) (u : r.end < 4294967296) where
  saved_set : SetFacts (record { shares = shares_of w; regions = earlier w r ++ r ∷ later w r })
  unfolding saved set_of
  saved_set = saved_facts (set_of w) a r (valid_set w small v) e

  few : length (earlier w r ++ r ∷ later w r) ≤ 500
  few = facts_few (record { shares = shares_of w; regions = earlier w r ++ r ∷ later w r }) saved_set

  ends : All (λ (x : Region). x.end < top) (earlier w r ++ r ∷ later w r)
  unfolding saved set_of
  ends = saved_all (λ (x : Region). x.end < top) (set_of w) r u (small_ends w small (depth_of w) (root_of w))

  proper : Proper top (earlier w r ++ r ∷ later w r)
  unfolding rule6
  proper =
      let rs = earlier w r ++ r ∷ later w r in
      let long = well_long rs (and_left (all well_formed rs) _ saved_set.six) in
      record {
        pairs = nested_pairs rs long saved_set.rising ((nested_says rs).yes_so (and_left (all_pairs nested rs) _ (and_right (all well_formed rs) _ saved_set.six)));
        well = all_two (λ r a b. (a, b)) rs long ends;
      }

  -- the image's tree before the save
  read_same : regions (depth_of w) (tree_of w) ≡ (set_of w).regions
  unfolding set_of
  read_same = refl

  whole : Whole w (earlier w r ++ later w r) (depth_of w) (tree_of w)
  whole =
      subst (λ l. Whole w l (depth_of w) (tree_of w)) (sym (free_sides r.start (set_of w) (valid_set w small v).rising (save_done (set_of w) a r e).free))
      (record { stands = valid_stands w small v; same = read_same; root = sym (place_read (depth_of w) w (root_of w)); height = omega (arith, (valid_facts w v).low) })

  record_room : Room w
  record_room =
      let s = valid_stands w small v in
      let z = record_free w (set_of w).regions (depth_of w) 0 top (tree_of w) nothing_around s (omega (
        arith,
        whole_few w (set_of w).regions (depth_of w) 0 top (tree_of w) nothing_around s,
        save_room (set_of w) a r (valid_set w small v) e,
        length-append (record_places (depth_of w) (tree_of w)) [],
      )) in
      record { place = z.0; low = z.1; high = z.2; free = z.3 }

  low : depth_of w ≤ 3
  low = omega (arith, (valid_facts w v).high)

  module _ (path : List ℕ) (pe : path ≡ padded (path_of w r.start)) where
    -- WHAT THE ENTRY ASKS
    abbrev entering : Entering w path r
    entering =
        record {
          earlier = earlier w r;
          later = later w r;
          h = depth_of w;
          t = tree_of w;
          whole = whole;
          proper = proper;
          flat = low;
          path_is = pe;
          fits = filled_leaf r.start (depth_of w) (tree_of w) (valid_facts w v).fills;
          room = record_room;
        }

    pub enter_asks : Entering w path r
    enter_asks = entering

    module _ (w₁ : List ℕ) (f : (s : Entering w path r) → Entered w w₁ r s.earlier s.later s.h s.t) where
      entered : Entered w w₁ r (earlier w r) (later w r) (depth_of w) (tree_of w)
      entered = f entering

      pub depth_asks : 1 ≤ height_of w₁
      depth_asks = omega (arith, entered.whole.height)

      loose : Loose r.start (depth_of w) entered.tree × (0 < depth_of w → 1 ≤ size (depth_of w) entered.tree)
      loose = grown_loose r.start (depth_of w) (tree_of w) entered.tree entered.grown (valid_facts w v).fills

      pages : length (page_places (depth_of w) entered.tree) ≤ 156
      pages =
          omega (
            arith,
            ap length entered.pages,
            few_pages (depth_of w) (tree_of w) (valid_facts w v).fills (subst (λ l. length l ≤ 500) (sym read_same) (facts_few (set_of w) (valid_set w small v))),
          )

      module _ (d : ℕ) (de : d ≡ depth_of w₁) where
        deep : d ≡ depth_of w
        deep = omega (arith, entered.whole.height)

        -- WHAT THE SPREADING ASKS
        spreading : Spreading w₁ path d 0 r.start (earlier w r ++ r ∷ later w r) (depth_of w) 0 top nothing_around entered.tree
        spreading =
            record {
              stands = entered.whole.stands;
              nested = proper.pairs;
              loose = loose.0;
              pages = omega (arith, pages, low, length-append (page_places (depth_of w) entered.tree) []);
              records = room_whole (earlier w r ++ r ∷ later w r) 0 top few;
              deep = omega (arith, deep);
              flat = omega (arith, deep, low);
              way = whole_path w₁ r.start path (earlier w r ++ r ∷ later w r) (depth_of w) entered.tree entered.whole low (pe ∙ ap padded (sym entered.path_same));
            }

        pub spread_asks : (rs : List Region) × (h : ℕ) × (lo : ℕ) × (hi : ℕ) × (o : Around) × (t : Tree h) × Spreading w₁ path d 0 r.start rs h lo hi o t
        spread_asks = (earlier w r ++ r ∷ later w r, depth_of w, 0, top, nothing_around, entered.tree, spreading)

        module _ (w₂ : List ℕ) (g : (rs : List Region) (h lo hi : ℕ) (o : Around) (t : Tree h) → Spreading w₁ path d 0 r.start rs h lo hi o t → Spreads w₁ w₂ rs h lo hi o t) where
          spread : Spreads w₁ w₂ (earlier w r ++ r ∷ later w r) (depth_of w) 0 top nothing_around entered.tree
          spread = g (earlier w r ++ r ∷ later w r) (depth_of w) 0 top nothing_around entered.tree spreading

          -- WHAT THE ROOT ASKS
          abbrev topping : Topping w₂ d
          topping =
              record {
                rs = earlier w r ++ r ∷ later w r;
                h = depth_of w;
                t = spread.after;
                whole = record {
                  stands = spread.becomes.stands;
                  same = spread.becomes.same ∙ entered.whole.same;
                  root = spread.becomes.spares.root ∙ entered.whole.root ∙ sym spread.becomes.place;
                  height = spread.becomes.spares.height ∙ entered.whole.height;
                };
                nested = proper.pairs;
                few = few;
                filled = spread.filled;
                least = λ l. omega (arith, loose.1 l, spread.least);
                most = spread.most;
                pages = λ l. omega (arith, pages, spread.pages, length-append (page_places (depth_of w) spread.after) []);
                flat = low;
                height = deep;
              }

          pub top_asks : Topping w₂ d
          top_asks = topping

          -- THE SAVE IS DONE
          pub save_right : (w₃ : List ℕ) → ((s : Topping w₂ d) → Topped w₂ w₃ s.rs) → T (valid w₃) × (set_of w₃ ≡ saved r (set_of w))
          save_right w₃ k =
              let rs = earlier w r ++ r ∷ later w r in
              let t : Topped w₂ w₃ rs = k topping in
              let o = t.whole in
              let shares : shares_of w₃ ≡ shares_of w = t.shares ∙ spread.becomes.spares.shares ∙ entered.shares in (
                stands_valid w₃ rs t.h t.t o.stands o.same o.root o.height (omega (arith, t.flat)) t.right
                    (subst (λ z. T (rule6 (record { shares = z; regions = rs }))) (sym shares) saved_set.six),
                set_is w₃ rs t.h t.t o.stands o.same o.root o.height ∙ ap (λ z. record { shares = z; regions = rs }) shares ∙ means,
              )
            where
              means : ◌≡◌ {A = Set} (record { shares = shares_of w; regions = earlier w r ++ r ∷ later w r }) (saved r (set_of w))
              means = unfold saved set_of in refl
