-- A turn at a page of the path: down to its child on the way, the child spread below and settled, and the page is spread below.
-- Assumes nothing.
use Prim.Native.Nat.{ℕ, zero, suc, ◌+◌, ◌≤◌, ◌<◌}
use mathlib.Core.Path.{◌≡◌, sym, ap, ◌∙◌, subst}
use mathlib.Core.List.{List}
use lib.ListN.{length, get_or}
use native.Mathlib.Omega.{arith}
use native.Mathlib.Decide.{ℕ_discrete}
use Rattle.regions.specs.declared.Region.{Region}
use Rattle.xrtree.specs.Tree.{Key, Tree}
use Rattle.xrtree.specs.Holes.{lo_after, Post, fill, hi_post}
use Rattle.xrtree.specs.Holes.Post.{at_key, at_end}
use Rattle.pages.specs.Layout.{page_of, fill_of}
use Rattle.holding.specs.Held.{place_of}
use Rattle.standing.specs.Stands.{Around}
use Rattle.steps.specs.Steps.{size}
use Rattle.path.specs.Path.{rank_in}
use Rattle.room.specs.Ways.{Filled, Others, Ahead, OnWay, Way, Spread, Grown}
use Rattle.room.proofs.Fills.{WayIn, way_in, but_hole, size_fill}
use Rattle.room.proofs.Becoming.{becomes_none, beside, stands_child, room_child}
use Rattle.room.proofs.Spreading.{grown_at, grown_room, spread_kept, spread_split, room_below}
use Rattle.entries.specs.Ways.{Greater}
use Rattle.entries.proofs.Alongs.{kid_fill}
use Rattle.insert.specs.Spreads.{Settling, Settled, OnPath, Loose, Spreading, Spreads}
use Rattle.insert.proofs.Reading.{held_size, rank_is}

greater : {A : Type 0} (x : ℕ) (post : Post A) → Ahead x post → Greater x post
greater x (at_key k cs last) a = a
greater x at_end a = tt

way_loose : (x h : ℕ) (t : Tree h) → Way 4 9 x h t → Loose x h t
way_loose x zero t y = y.1
way_loose x (suc h) t y = (y.1, y.2)

way_least : (x h : ℕ) (t : Tree h) → Way 4 9 x h t → 4 ≤ size h t
way_least x zero t y = y.0
way_least x (suc h) t y = y.0

-- a leaf as it is
leaf_spreads : (w path : List ℕ) (leaf at x : ℕ) (rs : List Region) (lo hi : ℕ) (o : Around) (t : Tree 0) → Spreading w path leaf at x rs 0 lo hi o t → Spreads w w rs 0 lo hi o t
leaf_spreads w path leaf at x rs lo hi o t s = record { after = t; becomes = becomes_none s.stands; filled = tt; least = omega arith; most = s.loose; pages = omega arith }

-- AT A PAGE whose child on the way is c
module _ (w path : List ℕ) (leaf at x : ℕ) (rs : List Region) (h lo hi : ℕ) (o : Around) (q : ℕ) (pre : List (Tree h × Key)) (post : Post (Tree h)) (c : Tree h)
    (s : Spreading w path leaf at x rs (suc h) lo hi o (fill q pre post c)) (on : OnWay x pre post) where
  both : Others (Filled h) pre post × Way 4 9 x h c
  both = but_hole (Filled h) (Way 4 9 x h) x pre post c on s.loose.1

  child_way : OnPath path (at + 1) x h c
  child_way =
      let e : suc at ≡ at + 1 = omega arith in
      subst (λ n. OnPath path n x h c) e (subst (OnPath path (suc at) x h) (kid_fill x pre post c on.0 (greater x post on.1)) s.way.1)

  child_place : get_or path (at + 1) 0 ≡ place_of h c
  child_place = first h c child_way
    where
      first : (k : ℕ) (u : Tree k) → OnPath path (at + 1) x k u → get_or path (at + 1) 0 ≡ place_of k u
      first zero u y = y
      first (suc k) u y = y.0

  -- what the child asks
  pub child_spreading : Spreading w path leaf (at + 1) x rs h (lo_after lo pre) (hi_post hi post) (beside h q pre post o) c
  child_spreading =
      record {
        stands = stands_child w rs h lo hi q pre post o c s.stands;
        nested = s.nested;
        loose = way_loose x h c both.1;
        pages = room_below h q pre post c o s.pages;
        records = room_child w rs h lo hi q pre post o c s.stands s.records;
        deep = omega (arith, s.deep);
        flat = s.flat;
        way = child_way;
      }

  module _ (w₁ : List ℕ) (g : Spreads w w₁ rs h (lo_after lo pre) (hi_post hi post) (beside h q pre post o) c) where
    abbrev grown : Grown w w₁ rs h (lo_after lo pre) (hi_post hi post) (beside h q pre post o) c
    grown = record { after = g.after; becomes = g.becomes; filled = g.filled; least = omega (arith, g.least, way_least x h c both.1); most = g.most; pages = g.pages }

    module _ (i p low : ℕ) (ie : i ≡ rank_in (page_of w q) x) (pe : p ≡ get_or path (at + 1) 0) (le : low + suc at ≡ leaf) where
      at_rank : length pre ≡ i
      at_rank = sym (ie ∙ rank_is w x h q pre post c s.stands.held on)

      abbrev settling : Settling w₁ h q i p low
      settling =
          record {
            child_at = grown_at w w₁ rs h lo hi q pre post o c s.stands both.0 grown i at_rank;
            nested = s.nested;
            room = omega (arith, s.loose.0, size_fill pre post c, size_fill pre post g.after);
            place = pe ∙ child_place ∙ sym g.becomes.place;
            height = omega (arith, s.deep);
            pages = grown_room w w₁ rs h lo hi q pre post o c s.stands both.0 grown s.pages;
            records = s.records;
          }

      spreads : (w₂ : List ℕ) → Spread w w₂ rs h lo hi o (fill q pre post c) → Spreads w w₂ rs (suc h) lo hi o (fill q pre post c)
      spreads w₂ m = record { after = m.after; becomes = m.becomes; filled = m.filled; least = m.least; most = omega (arith, m.most, s.loose.0); pages = m.pages }

      settled_spreads : (w₂ : List ℕ) → Settled w₁ w₂ h q i p low settling → Spreads w w₂ rs (suc h) lo hi o (fill q pre post c)
      settled_spreads w₂ d =
          elim (ℕ_discrete (size h g.after) 9) [
            | yes e ↦ spreads w₂ (spread_split w w₁ rs h lo hi q pre post o c s.stands both.0 grown w₂ i at_rank (d.cut e) e)
            | no n ↦
                subst (λ v. Spreads w v rs (suc h) lo hi o (fill q pre post c)) (sym (d.kept n))
                (spreads w₁ (spread_kept w w₁ rs h lo hi q pre post o c s.stands both.0 grown (omega (arith, g.most))))
          ]

-- ANY PAGE of the path, seen as its child in it
abbrev hole_of : (x h : ℕ) (t : Tree (suc h)) → WayIn x t.place t.kids t.last
hole_of x h t = way_in x t.place t.kids t.last

module _ (w path : List ℕ) (leaf at x : ℕ) (rs : List Region) (q : ℕ) (qe : q ≡ get_or path at 0) where
  module _ (h lo hi : ℕ) (o : Around) (t : Tree (suc h)) (s : Spreading w path leaf at x rs (suc h) lo hi o t) where
    as_fill : t ≡ fill q (hole_of x h t).pre (hole_of x h t).post (hole_of x h t).child
    as_fill = (hole_of x h t).page_is ∙ ap (λ n. fill n (hole_of x h t).pre (hole_of x h t).post (hole_of x h t).child) (sym (qe ∙ s.way.0))

    abbrev page : Spreading w path leaf at x rs (suc h) lo hi o (fill q (hole_of x h t).pre (hole_of x h t).post (hole_of x h t).child)
    page = subst (Spreading w path leaf at x rs (suc h) lo hi o) as_fill s

  -- its rank can be asked for
  pub rank_asks : at < leaf → (h lo hi : ℕ) (o : Around) (t : Tree h) → Spreading w path leaf at x rs h lo hi o t → fill_of (page_of w q) ≤ 8
  rank_asks l zero lo hi o t s = absurd (omega (arith, s.deep))
  rank_asks l (suc h) lo hi o t s =
      let e : fill_of (page_of w q) ≡ length t.kids = ap (λ n. fill_of (page_of w n)) (qe ∙ s.way.0) ∙ held_size w (suc h) t s.stands.held in
      omega (arith, s.loose.0)

  -- its child can be spread below
  pub spread_asks : at < leaf → (h lo hi : ℕ) (o : Around) (t : Tree h) → Spreading w path leaf at x rs h lo hi o t
      → (rs' : List Region) × (h' : ℕ) × (lo' : ℕ) × (hi' : ℕ) × (o' : Around) × (t' : Tree h') × Spreading w path leaf (at + 1) x rs' h' lo' hi' o' t'
  spread_asks l zero lo hi o t s = absurd (omega (arith, s.deep))
  spread_asks l (suc h) lo hi o t s =
      let z = hole_of x h t in
      (rs, h, lo_after lo z.pre, hi_post hi z.post, beside h q z.pre z.post o, z.child, child_spreading w path leaf at x rs h lo hi o q z.pre z.post z.child (page h lo hi o t s) z.on_way)

  -- its child can be settled
  module _ (w₁ : List ℕ) (f : (rs' : List Region) (h lo hi : ℕ) (o : Around) (t : Tree h) → Spreading w path leaf (at + 1) x rs' h lo hi o t → Spreads w w₁ rs' h lo hi o t)
      (i p low : ℕ) (ie : i ≡ rank_in (page_of w q) x) (pe : p ≡ get_or path (at + 1) 0) (le : low + suc at ≡ leaf) where
    pub settle_asks : at < leaf → (h lo hi : ℕ) (o : Around) (t : Tree h) → Spreading w path leaf at x rs h lo hi o t → (k : ℕ) × Settling w₁ k q i p low
    settle_asks l zero lo hi o t s = absurd (omega (arith, s.deep))
    settle_asks l (suc h) lo hi o t s =
        let z = hole_of x h t in
        let y = page h lo hi o t s in
        let g = f rs h (lo_after lo z.pre) (hi_post hi z.post) (beside h q z.pre z.post o) z.child
        (child_spreading w path leaf at x rs h lo hi o q z.pre z.post z.child y z.on_way) in
        (h, settling w path leaf at x rs h lo hi o q z.pre z.post z.child y z.on_way w₁ g i p low ie pe le)

    -- and it is spread below
    pub spread_done : (w₂ : List ℕ) → ((k : ℕ) (y : Settling w₁ k q i p low) → Settled w₁ w₂ k q i p low y) → at < leaf → (h lo hi : ℕ) (o : Around) (t : Tree h) → Spreading w path leaf at x rs h lo hi o t
        → Spreads w w₂ rs h lo hi o t
    spread_done w₂ d l zero lo hi o t s = absurd (omega (arith, s.deep))
    spread_done w₂ d l (suc h) lo hi o t s =
        let z = hole_of x h t in
        let y = page h lo hi o t s in
        let g = f rs h (lo_after lo z.pre) (hi_post hi z.post) (beside h q z.pre z.post o) z.child
        (child_spreading w path leaf at x rs h lo hi o q z.pre z.post z.child y z.on_way) in
        subst (Spreads w w₂ rs (suc h) lo hi o) (sym (as_fill h lo hi o t s))
        (settled_spreads w path leaf at x rs h lo hi o q z.pre z.post z.child y z.on_way w₁ g i p low ie pe le w₂
        (d h (settling w path leaf at x rs h lo hi o q z.pre z.post z.child y z.on_way w₁ g i p low ie pe le)))

-- THE LEAF at the path's end
pub spread_none : (w path : List ℕ) (leaf at x : ℕ) → (at < leaf → ⊥) → (rs : List Region) (h lo hi : ℕ) (o : Around) (t : Tree h) → Spreading w path leaf at x rs h lo hi o t → Spreads w w rs h lo hi o t
spread_none w path leaf at x n rs zero lo hi o t s = leaf_spreads w path leaf at x rs lo hi o t s
spread_none w path leaf at x n rs (suc h) lo hi o t s = absurd (n (omega (arith, s.deep)))
