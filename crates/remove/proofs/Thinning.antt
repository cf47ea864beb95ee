-- Mending below a page, and at it: what is asked of the child on x's way, what of the page when that is done, and that both together mend it.
-- Assumes nothing.
use Prim.Native.Nat.{ℕ, suc, ◌≤◌}
use mathlib.Core.Path.{◌≡◌, refl, sym, ap, ◌∙◌, subst}
use mathlib.Core.List.{List}
use lib.ListN.{length}
use native.Mathlib.Omega.{arith}
use Rattle.regions.specs.declared.Region.{Region}
use Rattle.pages.specs.Layout.{page_of, child_in}
use Rattle.xrtree.specs.Tree.{Key, Inner, Tree}
use Rattle.xrtree.specs.Claims.{page_at}
use Rattle.xrtree.specs.Holes.{lo_after, Post, fill, hi_post}
use Rattle.path.specs.Path.{rank_in}
use Rattle.standing.specs.Stands.{Around, Stands}
use Rattle.steps.specs.Steps.{size}
use Rattle.room.specs.Ways.{Filled, Others, OnWay, KidsBut, Way, Mended, Thinned}
use Rattle.room.proofs.Fills.{way_in, but_hole}
use Rattle.room.proofs.Becoming.{becomes_both, beside, stands_child, room_child}
use Rattle.room.proofs.Mending.{Under, thinned_page, thinned_under, thin_below, thin_room}
use Rattle.split.proofs.Seen.{child_is}
use Rattle.mending.specs.Mends.{Room, Thin}
use Rattle.mending.proofs.Seen.{rank_is}
use Rattle.remove.specs.Mends.{MendAsk, Leads}

pub mended_then : {w w₁ w₂ : List ℕ} {rs : List Region} {h lo hi : ℕ} {o : Around} {t t₁ : Tree (suc h)} → Under 0 w w₁ rs h lo hi o t t₁ → Mended w₁ w₂ rs h lo hi o t₁ → Mended w w₂ rs h lo hi o t
mended_then u m =
    record {
      after = m.after;
      becomes = becomes_both u.becomes m.becomes;
      filled = m.filled;
      least = omega (arith, u.keys, m.least);
      most = omega (arith, u.keys, m.most);
      pages = omega (arith, u.pages, m.pages);
    }

-- THE PAGE around its child on x's way
pub record Opened {w : List ℕ} {q x h : ℕ} (s : MendAsk w q x h) : Type 0 where
  pub pre : List (Tree h × Key)
  pub post : Post (Tree h)
  pub child : Tree h
  pub page_is : s.t ≡ fill q pre post child
  pub on_way : OnWay x pre post
  pub others : Others (Filled h) pre post
  pub way : Way 3 8 x h child
  pub stands : Stands w s.rs (suc h) s.lo s.hi (fill q pre post child) s.o
  pub some : 1 ≤ size (suc h) (fill q pre post child)
  pub room : Room s.rs h s.lo s.hi (fill q pre post child) s.o

pub open_page : {w : List ℕ} {q x h : ℕ} (s : MendAsk w q x h) → Opened s
open_page {w} {q} {x} {h} s =
    let v = way_in x q s.t.kids s.t.last in
    let e : s.t ≡ fill q v.pre v.post v.child = ap (λ p. page_at p s.t.kids s.t.last) s.place ∙ v.page_is in
    let b = but_hole (Filled h) (Way 3 8 x h) x v.pre v.post v.child v.on_way (subst (λ (u : Inner (Tree h)). KidsBut (Filled h) (Way 3 8 x h) x u.kids u.last) e s.below) in
    record {
      pre = v.pre;
      post = v.post;
      child = v.child;
      page_is = e;
      on_way = v.on_way;
      others = b.0;
      way = b.1;
      stands = subst (λ z. Stands w s.rs (suc h) s.lo s.hi z s.o) e s.stands;
      some = subst (λ (z : Inner (Tree h)). 1 ≤ length z.kids) e s.some;
      room = subst (λ z. Room s.rs h s.lo s.hi z s.o) e s.room;
    }

-- ABOVE LEAVES
module _ {w : List ℕ} {q x : ℕ} (s : MendAsk w q x 0) where
  abbrev a : Opened s
  a = open_page s

  abbrev leaf_turn : Thin w q x 0
  leaf_turn =
      record {
        h = 0;
        level = refl;
        rs = s.rs;
        lo = s.lo;
        hi = s.hi;
        o = s.o;
        pre = a.pre;
        post = a.post;
        child = a.child;
        stands = a.stands;
        on_way = a.on_way;
        others = a.others;
        kids = tt;
        least = a.way.0;
        most = a.way.1;
        some = a.some;
        room = a.room;
      }

  pub low_ask : Thin w q x 0
  low_ask = leaf_turn

  pub low_done : {w₁ : List ℕ} → ((u : Thin w q x 0) → Mended w w₁ u.rs u.h u.lo u.hi u.o (fill q u.pre u.post u.child)) → Mended w w₁ s.rs 0 s.lo s.hi s.o s.t
  low_done {w₁} f = subst (λ z. Mended w w₁ s.rs 0 s.lo s.hi s.o z) (sym a.page_is) (f leaf_turn)

-- HIGHER UP
module _ {w : List ℕ} {q x h : ℕ} (s : MendAsk w q x (suc h)) where
  abbrev b : Opened s
  b = open_page s

  module _ (i c : ℕ) (e : i ≡ rank_in (page_of w q) x) (d : c ≡ child_in (page_of w q) i) where
    pub child_place : b.child.place ≡ c
    child_place =
        sym (d ∙ child_is (record {
          rs = s.rs;
          lo = s.lo;
          hi = s.hi;
          o = s.o;
          pre = b.pre;
          post = b.post;
          child = b.child;
          stands = b.stands;
          index = sym (e ∙ rank_is w s.rs (suc h) s.lo s.hi q b.pre b.post b.child s.o x b.stands b.on_way);
        }))

    abbrev child_turn : MendAsk w c x h
    child_turn =
        record {
          rs = s.rs;
          lo = lo_after s.lo b.pre;
          hi = hi_post s.hi b.post;
          o = beside (suc h) q b.pre b.post s.o;
          t = b.child;
          stands = stands_child w s.rs (suc h) s.lo s.hi q b.pre b.post s.o b.child b.stands;
          place = child_place;
          below = b.way.2;
          some = omega (arith, b.way.0);
          room =
              record {
                nested = s.room.nested;
                few = b.way.1;
                pages = thin_below (suc h) q b.pre b.post b.child s.o b.room.pages;
                records = room_child w s.rs (suc h) s.lo s.hi q b.pre b.post s.o b.child b.stands s.room.records;
              };
        }

    pub child_ask : MendAsk w c x h
    child_ask = child_turn

    module _ (w₁ : List ℕ) (f : (u : MendAsk w c x h) → Mended w w₁ u.rs h u.lo u.hi u.o u.t) where
      abbrev g : Thinned w w₁ s.rs (suc h) (lo_after s.lo b.pre) (hi_post s.hi b.post) (beside (suc h) q b.pre b.post s.o) b.child
      g = thinned_page w w₁ s.rs x h (lo_after s.lo b.pre) (hi_post s.hi b.post) (beside (suc h) q b.pre b.post s.o) b.child b.way (f child_turn)

      abbrev under : Under 0 w w₁ s.rs (suc h) s.lo s.hi s.o (fill q b.pre b.post b.child) (fill q b.pre b.post g.after)
      under = thinned_under w w₁ s.rs (suc h) s.lo s.hi q b.pre b.post s.o b.child b.stands g

      abbrev page_turn : Thin w₁ q x 1
      page_turn =
          record {
            h = suc h;
            level = refl;
            rs = s.rs;
            lo = s.lo;
            hi = s.hi;
            o = s.o;
            pre = b.pre;
            post = b.post;
            child = g.after;
            stands = under.becomes.stands;
            on_way = b.on_way;
            others = b.others;
            kids = g.filled;
            least = g.least;
            most = g.most;
            some = omega (arith, under.keys, b.some);
            room = record { nested = s.room.nested; few = omega (arith, under.keys, b.room.few); pages = thin_room under b.room.pages; records = s.room.records };
          }

      pub page_ask : Thin w₁ q x 1
      page_ask = page_turn

      pub page_done : {w₂ : List ℕ} → ((u : Thin w₁ q x 1) → Mended w₁ w₂ u.rs u.h u.lo u.hi u.o (fill q u.pre u.post u.child)) → Mended w w₂ s.rs (suc h) s.lo s.hi s.o s.t
      page_done {w₂} k = subst (λ z. Mended w w₂ s.rs (suc h) s.lo s.hi s.o z) (sym b.page_is) (mended_then under (k page_turn))

-- A HEIGHT BY ANOTHER NAME
pub ask_at : (w : List ℕ) (q x h k : ℕ) → h ≡ k → MendAsk w q x h → MendAsk w q x k
ask_at w q x h k e s = subst (λ m. MendAsk w q x m) e s

pub done_at : (w w₁ : List ℕ) (q x h k : ℕ) → h ≡ k → ((s : MendAsk w q x k) → Mended w w₁ s.rs k s.lo s.hi s.o s.t) → (s : MendAsk w q x h) → Mended w w₁ s.rs h s.lo s.hi s.o s.t
done_at w w₁ q x h k e f = subst (λ m. (s : MendAsk w q x m) → Mended w w₁ s.rs m s.lo s.hi s.o s.t) (sym e) f

pub leads_at : (w path : List ℕ) (x at h k : ℕ) → h ≡ k → Leads w x path at h → Leads w x path at k
leads_at w path x at h k e l = subst (λ m. Leads w x path at m) e l
