-- Going down into a tree and coming back: what stands rightly as a whole stands rightly at any page below, with the rest around it; and a part that a step
-- has changed, at the same place and with the same regions, makes the whole stand again.
-- Assumes nothing.
use Prim.Native.Nat.{ℕ, zero, suc, ◌≤◌}
use mathlib.Core.Path.{◌≡◌, refl, sym, ap, ◌∙◌, subst}
use mathlib.Core.List.{List, [], ◌∷◌, ◌++◌, append_assoc}
use lib.Dec.{T}
use lib.ListN.{length, length-append}
use native.Mathlib.Omega.{arith}
use Rattle.words.specs.Lists.{All, Pairs, count}
use Rattle.words.proofs.Listed.{all_every, all_left, all_right, pairs_left, pairs_right_lem}
use Rattle.words.proofs.Counted.{count_append}
use Rattle.regions.specs.declared.Region.{Region}
use Rattle.xrtree.specs.Tree.{Key, Leaf, Tree, Listing, listed, list_regions, list_leaves, list_pages, list_records, regions, leaves, page_places, record_places}
use Rattle.xrtree.specs.Rules.{linked}
use Rattle.xrtree.specs.Claims.{Over, Fits, Between, Within}
use Rattle.xrtree.specs.Local.{ListIs, NoLeaf, NoKey, FlagsAre, Here, FirstIs}
use Rattle.xrtree.specs.Holes.{Post, fill_kids, fill_last, up, Ctx, plug, lo_at, hi_at}
use Rattle.xrtree.proofs.Holes.{before, after, hole, here_plug, listed_parts, listed_plug}
use Rattle.xrtree.specs.Holes.Post.{at_key, at_end}
use Rattle.holding.specs.Held.{EveryKid, place_of}
use Rattle.holding.proofs.Frames.{SamePage, SameRecord}
use Rattle.holding.proofs.Holes.{every_hole, held_hole}
use Rattle.standing.specs.Stands.{top, Around, Roomy, Stands, Spares}
use Rattle.standing.proofs.Counting.{all_counted, places_same}

-- around a part: the rest of the tree, and what stands around the tree
abbrev pub around_hole : (d m : ℕ) → Ctx d m → Around → Around
around_hole d m c o =
    record {
      pages = before list_pages d m c ++ (after list_pages d m c ++ o.pages);
      records = before list_records d m c ++ (after list_records d m c ++ o.records);
      before = o.before ++ before list_leaves d m c;
      after = after list_leaves d m c ++ o.after;
    }

module _ {A : Type 0} (P : A → Type 0) where
  pub every_put : (pre : List (A × Key)) (post : Post A) (u u' : A) → EveryKid P (fill_kids pre post u) (fill_last post u) → P u' → EveryKid P (fill_kids pre post u') (fill_last post u')
  every_put [] (at_key k cs last) u u' g n = (n, g.1)
  every_put [] at_end u u' g n = n
  every_put (c ∷ pre) (at_key k cs last) u u' g n = (g.0, every_put pre (at_key k cs last) u u' g.1 n)
  every_put (c ∷ pre) at_end u u' g n = (g.0, every_put pre at_end u u' g.1 n)

pub long_fill : {A : Type 0} (pre : List (A × Key)) (post : Post A) (u u' : A) → length (fill_kids pre post u) ≡ length (fill_kids pre post u')
long_fill pre (at_key k cs last) u u' = length-append pre ((u, k) ∷ cs) ∙ sym (length-append pre ((u', k) ∷ cs))
long_fill pre at_end u u' = refl

roomy_hole : (d m : ℕ) (c : Ctx d m) (t : Tree m) → Roomy (up d m) (plug d m c t) → Roomy m t × ((t' : Tree m) → Roomy m t' → Roomy (up d m) (plug d m c t'))
roomy_hole zero m c t r = (r, (λ t' n. n))
roomy_hole (suc d) m c t r =
    let u = plug d m c.3 t in
    let b = roomy_hole d m c.3 t (every_hole (Roomy (up d m)) c.1 c.2 u r.1) in
    (b.0, (λ t' n. (subst (λ k. k ≤ 9) (long_fill c.1 c.2 u (plug d m c.3 t')) r.0, every_put (Roomy (up d m)) c.1 c.2 u (plug d m c.3 t') r.1 (b.1 t' n))))

-- counts and links do not mind how the parts are bracketed
count_around : (n : ℕ) (b t a o : List ℕ) → count n ((b ++ (t ++ a)) ++ o) ≡ count n (t ++ (b ++ (a ++ o)))
count_around n b t a o =
    omega (arith, count_append n (b ++ (t ++ a)) o, count_append n b (t ++ a), count_append n t a, count_append n t (b ++ (a ++ o)), count_append n b (a ++ o), count_append n a o)

leaves_around : (x b t a y : List Leaf) → x ++ ((b ++ (t ++ a)) ++ y) ≡ (x ++ b) ++ (t ++ (a ++ y))
leaves_around x b t a y = simp append_assoc

module _ (w : List ℕ) (rs : List Region) (d m lo hi : ℕ) (c : Ctx d m) (t : Tree m) (o : Around) (s : Stands w rs (up d m) lo hi (plug d m c t) o) where
  -- any listing of the whole
  whole : {B : Type 0} (L : Listing B) (u : Tree m) → listed L (up d m) (plug d m c u) ≡ before L d m c ++ (listed L m u ++ after L d m c)
  whole L u = listed_parts L d m c u

  pub stands_hole : Stands w rs m (lo_at d m lo c) (hi_at d m hi c) t (around_hole d m c o)
  stands_hole =
      let p = s.part in
      record {
        long = s.long;
        held = (held_hole w w d m c t (all_every {P = SamePage w w} (λ q. refl) (before list_pages d m c)) (all_every {P = SamePage w w} (λ q. refl) (after list_pages d m c))
            (all_every {P = SameRecord w w} (λ q. refl) (before list_records d m c)) (all_every {P = SameRecord w w} (λ q. refl) (after list_records d m c)) s.held).here;
        roomy = (roomy_hole d m c t s.roomy).0;
        part = record {
          order = (hole Between Within d m lo hi c t p.order).0;
          lists = (hole (ListIs rs) NoLeaf d m lo hi c t p.lists).0;
          flags = (hole NoKey FlagsAre d m lo hi c t p.flags).0;
          firsts = (hole FirstIs NoLeaf d m lo hi c t p.firsts).0;
        };
        near = here_plug d m lo hi c t s.near p.order;
        pairs = pairs_left Over (regions m t) (after list_regions d m c) (pairs_right_lem Over (before list_regions d m c) (regions m t ++ after list_regions d m c) (subst (Pairs Over) (whole list_regions t) s.pairs));
        well = all_left (Fits top) (regions m t) (after list_regions d m c) (all_right (Fits top) (before list_regions d m c) (regions m t ++ after list_regions d m c) (subst (All (Fits top)) (whole list_regions t) s.well));
        links = subst (λ l. T (linked l)) (ap (λ l. o.before ++ (l ++ o.after)) (whole list_leaves t) ∙ leaves_around o.before (before list_leaves d m c) (leaves m t) (after list_leaves d m c) o.after) s.links;
        pages = places_same (λ q. sym (ap (λ l. count q (l ++ o.pages)) (whole list_pages t) ∙ count_around q (before list_pages d m c) (page_places m t) (after list_pages d m c) o.pages)) (λ q a b. refl) s.pages;
        records = places_same (λ q. sym (ap (λ l. count q (l ++ o.records)) (whole list_records t) ∙ count_around q (before list_records d m c) (record_places m t) (after list_records d m c) o.records)) (λ q a b. refl) s.records;
      }

  pub stands_again : (w' : List ℕ) (t' : Tree m) → Spares w w' (around_hole d m c o) → place_of m t' ≡ place_of m t → regions m t' ≡ regions m t
      → Stands w' rs m (lo_at d m lo c) (hi_at d m hi c) t' (around_hole d m c o) → Stands w' rs (up d m) lo hi (plug d m c t') o
  stands_again w' t' k e r n =
      let p = s.part in
      let z : regions (up d m) (plug d m c t) ≡ regions (up d m) (plug d m c t') = listed_plug list_regions d m c t t' (sym r) in
      record {
        long = n.long;
        held = (held_hole w w' d m c t
            (all_counted (SamePage w w') (before list_pages d m c) (λ q h. k.pages q (omega (arith, count_append q (before list_pages d m c) (after list_pages d m c ++ o.pages)))))
            (all_counted (SamePage w w') (after list_pages d m c) (λ q h. k.pages q (omega (arith, count_append q (before list_pages d m c) (after list_pages d m c ++ o.pages), count_append q (after list_pages d m c) o.pages))))
            (all_counted (SameRecord w w') (before list_records d m c) (λ q h. k.records q (omega (arith, count_append q (before list_records d m c) (after list_records d m c ++ o.records)))))
            (all_counted (SameRecord w w') (after list_records d m c) (λ q h. k.records q (omega (arith, count_append q (before list_records d m c) (after list_records d m c ++ o.records), count_append q (after list_records d m c) o.records))))
            s.held).refill t' e n.held;
        roomy = (roomy_hole d m c t s.roomy).1 t' n.roomy;
        part = record {
          order = (hole Between Within d m lo hi c t p.order).1 t' n.part.order;
          lists = (hole (ListIs rs) NoLeaf d m lo hi c t p.lists).1 t' n.part.lists;
          flags = (hole NoKey FlagsAre d m lo hi c t p.flags).1 t' n.part.flags;
          firsts = (hole FirstIs NoLeaf d m lo hi c t p.firsts).1 t' n.part.firsts;
        };
        near = subst (Here rs lo hi) z s.near;
        pairs = subst (Pairs Over) z s.pairs;
        well = subst (All (Fits top)) z s.well;
        links = subst (λ l. T (linked l)) (sym (ap (λ l. o.before ++ (l ++ o.after)) (whole list_leaves t') ∙ leaves_around o.before (before list_leaves d m c) (leaves m t') (after list_leaves d m c) o.after)) n.links;
        pages = places_same (λ q. ap (λ l. count q (l ++ o.pages)) (whole list_pages t') ∙ count_around q (before list_pages d m c) (page_places m t') (after list_pages d m c) o.pages) (λ q a b. refl) n.pages;
        records = places_same (λ q. ap (λ l. count q (l ++ o.records)) (whole list_records t') ∙ count_around q (before list_records d m c) (record_places m t') (after list_records d m c) o.records) (λ q a b. refl) n.records;
      }

  -- what a step below spares around its part, it spares around the whole
  pub spares_whole : (w' : List ℕ) → Spares w w' (around_hole d m c o) → Spares w w' o
  spares_whole w' k =
      record {
        long = k.long;
        root = k.root;
        height = k.height;
        shares = k.shares;
        pages = λ q h. k.pages q (omega (arith, count_append q (before list_pages d m c) (after list_pages d m c ++ o.pages), count_append q (after list_pages d m c) o.pages));
        records = λ q h. k.records q (omega (arith, count_append q (before list_records d m c) (after list_records d m c ++ o.records), count_append q (after list_records d m c) o.records));
      }
