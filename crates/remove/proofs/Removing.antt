-- The delete as a whole: a valid image's tree without the region, mended, with its root put right, makes a valid image of the set without the region.
-- Assumes nothing.
use Prim.Native.Nat.{ℕ, zero, suc, ◌-◌, ◌≤◌}
use mathlib.Core.Path.{◌≡◌, refl, sym, ap, ◌∙◌, subst}
use mathlib.Core.Bool.{true}
use mathlib.Core.List.{List, [], ◌∷◌, ◌++◌}
use lib.Dec.{T, eqb}
use lib.ListN.{length, length-append, get_or}
use native.Mathlib.Omega.{arith}
use Rattle.words.specs.Lists.{some, filter, Pairs}
use Rattle.words.proofs.Tests.{by_test, eq_of}
use Rattle.regions.specs.declared.Region.{Region}
use Rattle.regions.specs.Sets.{is_at, deleted}
use Rattle.regions.specs.Calls.{delete_no}
use Rattle.regions.proofs.Done.{delete_done}
use Rattle.regions.proofs.Rising.{deleted_splits}
use Rattle.pages.specs.Layout.{root_of, height_of, shares_of, page_of, fill_of}
use Rattle.xrtree.specs.Tree.{Tree, page_places}
use Rattle.xrtree.specs.Rules.{filled, rule6}
use Rattle.xrtree.specs.Claims.{page_at, Over}
use Rattle.xrtree.specs.Holes.Post.{at_end}
use Rattle.image.specs.Read.{depth_of, tree_of, set_of}
use Rattle.image.specs.Valid.{valid}
use Rattle.image.proofs.Small.{Small}
use Rattle.image.proofs.Facts.{valid_facts}
use Rattle.path.specs.Path.{path_from, path_of, padded}
use Rattle.path.proofs.Ways.{valid_sized}
use Rattle.holding.proofs.Reading.{place_read}
use Rattle.standing.specs.Stands.{top, nothing_around}
use Rattle.standing.proofs.Whole.{valid_stands, stands_valid, set_is}
use Rattle.roots.specs.WholeTree.{Whole, RootIs, Shrank}
use Rattle.steps.specs.Steps.{size, KidsFilled}
use Rattle.entries.specs.Changed.{Leaving, Left}
use Rattle.room.specs.Ways.{Mended}
use Rattle.room.proofs.Pages.{few_thin}
use Rattle.room.proofs.Records.{room_whole}
use Rattle.room.proofs.Sets.{SetFacts, deleted_facts, facts_few, valid_set}
use Rattle.room.proofs.Fills.{to_root}
use Rattle.room.proofs.Mending.{shrunk_root}
use Rattle.split.proofs.Seen.{q_range}
use Rattle.remove.specs.Mends.{MendAsk, Leads}
use Rattle.remove.proofs.Thinning.{ask_at, done_at}
use Rattle.remove.proofs.Shrunk.{shrunk_below, shrunk_leaf}

-- THE REGION in the set
record Found (s : ℕ) (rs : List Region) : Type 0 where
  us : List Region
  r : Region
  vs : List Region
  whole : rs ≡ us ++ r ∷ vs
  start_is : r.start ≡ s

find : (s : ℕ) (rs : List Region) → some (filter (is_at s) rs) ≡ true → Found s rs
unfolding some filter is_at
find s [] h = absurd (let z : ◌≡◌ {A = ℕ} 0 1 = cc in omega arith)
find s (r ∷ rs) h =
    by_test (eqb r.start s) (λ e. record { us = []; r = r; vs = rs; whole = refl; start_is = eq_of r.start s e })
    (λ e.
    let f = find s rs (rw e at h) in
    record { us = r ∷ f.us; r = f.r; vs = f.vs; whole = ap (r ∷◌) f.whole; start_is = f.start_is })

-- THE PATH in four words
path_first : (w : List ℕ) (x h p : ℕ) → get_or (padded (path_from h w x p)) 0 0 ≡ p
unfolding padded path_from
path_first w x zero p = refl
path_first w x (suc h) p = refl

path_leads : (w : List ℕ) (x h p : ℕ) → h ≤ 2 → Leads w x (padded (path_from (suc h) w x p)) 0 h
unfolding padded path_from
path_leads w x zero p l = tt
path_leads w x (suc zero) p l = (refl, tt)
path_leads w x (suc (suc zero)) p l = (refl, (refl, tt))
path_leads w x (suc (suc (suc h))) p l = absurd (omega arith)

module _ (w : List ℕ) (v : T (valid w)) (small : Small w) (a s : ℕ) (may : delete_no (set_of w) a s ≡ 0) where
  found : Found s (set_of w).regions
  found = find s (set_of w).regions (delete_done (set_of w) a s may).held

  whole_set : Whole w (set_of w).regions (depth_of w) (tree_of w)
  unfolding set_of
  whole_set =
      record {
        stands = valid_stands w small v;
        same = refl;
        root = sym (place_read (depth_of w) w (root_of w));
        height = let z = valid_sized w v in omega arith;
      }

  low : depth_of w ≤ 3
  low = let z = valid_sized w v in omega arith

  set_facts : SetFacts (set_of w)
  set_facts = valid_set w small v

  -- the set afterwards
  left_regions : (deleted s (set_of w)).regions ≡ found.us ++ found.vs
  left_regions = subst (λ z. (deleted z (set_of w)).regions ≡ found.us ++ found.vs) found.start_is (deleted_splits (set_of w) found.r found.us found.vs set_facts.rising found.whole)

  left_set : deleted s (set_of w) ≡ record { shares = shares_of w; regions = found.us ++ found.vs }
  unfolding deleted set_of
  left_set = λ i. record { shares = shares_of w; regions = left_regions i }

  left_facts : SetFacts (record { shares = shares_of w; regions = found.us ++ found.vs })
  left_facts = subst SetFacts left_set (deleted_facts (set_of w) a s set_facts may)

  left_few : length (found.us ++ found.vs) ≤ 500
  left_few = facts_few (record { shares = shares_of w; regions = found.us ++ found.vs }) left_facts

  module _ (path : List ℕ) (path_is : path ≡ padded (path_of w s)) where
    abbrev leaving : Leaving w path s
    leaving =
        record {
          earlier = found.us;
          region = found.r;
          later = found.vs;
          h = depth_of w;
          t = tree_of w;
          whole = subst (λ l. Whole w l (depth_of w) (tree_of w)) found.whole whole_set;
          start_is = found.start_is;
          flat = low;
          path_is = path_is;
        }

    pub take_asks : Leaving w path s
    take_asks = leaving

    module _ (w₁ : List ℕ) (f : (u : Leaving w path s) → Left w w₁ s u.earlier u.later u.h u.t) where
      abbrev rs : List Region
      rs = found.us ++ found.vs

      abbrev left : Left w w₁ s found.us found.vs (depth_of w) (tree_of w)
      left = f leaving

      filled_was : T (filled (depth_of w) (tree_of w))
      filled_was = (valid_facts w v).fills

      pub high_enough : 1 ≤ height_of w₁
      high_enough = omega (arith, left.whole.height)

      -- A WHOLE TREE with right fills
      finish : (w₂ : List ℕ) (h : ℕ) (t : Tree h) → Whole w₂ rs h t → h ≤ 3 → T (filled h t) → shares_of w₂ ≡ shares_of w → T (valid w₂) × (set_of w₂ ≡ deleted s (set_of w))
      finish w₂ h t z l g e = (
        stands_valid w₂ rs h t z.stands z.same z.root z.height (omega arith) g (subst (λ x. T (rule6 (record { shares = x; regions = rs }))) (sym e) left_facts.six),
        set_is w₂ rs h t z.stands z.same z.root z.height ∙ ap (λ x. record { shares = x; regions = rs }) e ∙ sym left_set,
      )

      deep_is : depth_of w₁ ≡ depth_of w
      deep_is = omega (arith, left.whole.height)

      -- ONE LEAF
      leaf_case : (h : ℕ) (t : Tree h) → h ≡ 0 → T (filled h t) → (l : Left w w₁ s found.us found.vs h t) → T (valid w₁) × (set_of w₁ ≡ deleted s (set_of w))
      leaf_case zero t z g l = finish w₁ 0 l.tree l.whole (omega arith) (shrunk_leaf s t l.tree l.shrunk g) l.shares
      leaf_case (suc h) t z g l = absurd (omega arith)

      pub leaf_done : (d : ℕ) → d ≡ depth_of w₁ → d ≡ 0 → T (valid w₁) × (set_of w₁ ≡ deleted s (set_of w))
      leaf_done d e z = leaf_case (depth_of w) (tree_of w) (omega (arith, deep_is)) filled_was left

      -- MORE PAGES
      abbrev root_turn : (q h : ℕ) (t : Tree (suc h)) → T (filled (suc h) t) → (l : Left w w₁ s found.us found.vs (suc h) t) → q ≡ root_of w₁ → MendAsk w₁ q s h
      root_turn q h t g l e =
          let b = shrunk_below s h t l.tree l.shrunk g in
          record {
            rs = rs;
            lo = 0;
            hi = top;
            o = nothing_around;
            t = l.tree;
            stands = l.whole.stands;
            place = sym (e ∙ l.whole.root);
            below = b.0;
            some = b.1;
            room =
                record {
                  nested = subst (Pairs Over) l.whole.same l.whole.stands.pairs;
                  few = b.2;
                  pages = omega (arith, few_thin 8 s h l.tree b.0 b.1 (omega (arith, ap length l.whole.same, left_few)), length-append (page_places (suc h) l.tree) []);
                  records = room_whole rs 0 top left_few;
                };
          }

      path_now : path ≡ padded (path_from (depth_of w) w₁ s (root_of w₁))
      path_now = path_is ∙ ap padded (sym left.path_same)

      abbrev q : ℕ
      q = get_or path 0 0

      root : q ≡ root_of w₁
      root = ap (λ z. get_or z 0 0) path_now ∙ path_first w₁ s (depth_of w) (root_of w₁)

      module _ (d : ℕ) (e : d ≡ depth_of w₁) (n : d ≡ 0 → ⊥) where
        leads_case : (h : ℕ) → d ≡ h → h ≤ 3 → path ≡ padded (path_from h w₁ s (root_of w₁)) → Leads w₁ s path 0 (d - 1)
        leads_case zero z l y = absurd (n z)
        leads_case (suc h) z l y =
            let k : h ≡ d - 1 = omega arith in
            subst (λ m. Leads w₁ s path 0 m) k (subst (λ u. Leads w₁ s u 0 h) (sym y) (path_leads w₁ s h (root_of w₁) (omega arith)))

        ask_case : (h : ℕ) (t : Tree h) → d ≡ h → T (filled h t) → Left w w₁ s found.us found.vs h t → MendAsk w₁ q s (d - 1)
        ask_case zero t z g l = absurd (n z)
        ask_case (suc h) t z g l = ask_at w₁ q s h (d - 1) (omega arith) (root_turn q h t g l root)

        pub mend_asks : (d - 1 ≤ 2) × Leads w₁ s path 0 (d - 1) × MendAsk w₁ q s (d - 1)
        mend_asks = (omega (arith, deep_is, low), leads_case (depth_of w) (omega (arith, deep_is)) low path_now, ask_case (depth_of w) (tree_of w) (omega (arith, deep_is)) filled_was left)

        module _ (w₂ : List ℕ) (k : (u : MendAsk w₁ q s (d - 1)) → Mended w₁ w₂ u.rs (d - 1) u.lo u.hi u.o u.t) where
          -- the tree that is mended below its root
          record After : Type 0 where
            h : ℕ
            t : Tree (suc h)
            flat : h ≤ 2
            whole : Whole w₂ rs (suc h) t
            kids : KidsFilled (suc h) t
            few : size (suc h) t ≤ 8
            place : q ≡ t.place
            shares : shares_of w₂ ≡ shares_of w

          after_case : (h : ℕ) (t : Tree h) → d ≡ h → h ≤ 3 → T (filled h t) → Left w w₁ s found.us found.vs h t → After
          after_case zero t z y g l = absurd (n z)
          after_case (suc h) t z y g l =
              let m = done_at w₁ w₂ q s h (d - 1) (omega arith) k (root_turn q h t g l root) in
              let b = shrunk_below s h t l.tree l.shrunk g in
              record {
                h = h;
                t = m.after;
                flat = omega arith;
                whole =
                    record {
                      stands = m.becomes.stands;
                      same = m.becomes.same ∙ l.whole.same;
                      root = m.becomes.spares.root ∙ l.whole.root ∙ sym m.becomes.place;
                      height = m.becomes.spares.height ∙ l.whole.height;
                    };
                kids = m.filled;
                few = omega (arith, m.most, b.2);
                place = root ∙ l.whole.root ∙ sym m.becomes.place;
                shares = m.becomes.spares.shares ∙ l.shares;
              }

          after : After
          after = after_case (depth_of w) (tree_of w) (omega (arith, deep_is)) low filled_was left

          -- what the root's words say
          keys_are : (x : ℕ) → x ≡ fill_of (page_of w₂ q) → x ≡ size (suc after.h) after.t
          keys_are x y = y ∙ ap (λ p. fill_of (page_of w₂ p)) after.place ∙ after.whole.stands.held.0.fill_is

          -- a root with a key
          pub kept_done : (x : ℕ) → x ≡ fill_of (page_of w₂ q) → (x ≡ 0 → ⊥) → T (valid w₂) × (set_of w₂ ≡ deleted s (set_of w))
          kept_done x y z =
              finish w₂ (suc after.h) after.t after.whole (omega (arith, after.flat))
              (to_root after.h after.t (omega (arith, keys_are x y)) after.few after.kids) after.shares

          -- a root with none
          root_range : (1 ≤ after.t.place) × (after.t.place ≤ 160)
          root_range =
              q_range (record {
                rs = rs;
                lo = 0;
                hi = top;
                o = nothing_around;
                pre = after.t.kids;
                post = at_end;
                child = after.t.last;
                stands = after.whole.stands;
                index = refl;
              })

          pub shrink_asks : RootIs w₂
          shrink_asks =
              record {
                long = after.whole.stands.long;
                low = omega (arith, after.whole.root, root_range.0);
                high = omega (arith, after.whole.root, root_range.1);
                tall = omega (arith, after.whole.height);
              }

          pub shrunk_done : (x : ℕ) → x ≡ fill_of (page_of w₂ q) → x ≡ 0 → (w₃ : List ℕ) → ((rs : List Region) (h q : ℕ) (t : Tree h) → Whole w₂ rs (suc h) (page_at q [] t) → Shrank w₂ w₃ rs h t)
              → T (valid w₃) × (set_of w₃ ≡ deleted s (set_of w))
          shrunk_done x y z w₃ g =
              let r = shrunk_root after.h after.t after.kids (sym (keys_are x y) ∙ z) in
              let u = g rs after.h after.t.place after.t.last (subst (λ t. Whole w₂ rs (suc after.h) t) r.0 after.whole) in
              finish w₃ after.h after.t.last u.whole (omega (arith, after.flat)) r.1 (u.shares ∙ after.shares)
