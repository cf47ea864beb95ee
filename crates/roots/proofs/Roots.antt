-- A root more, a root less: the tree below it is as it was.
-- Assumes nothing.
use Prim.Native.Nat.{ℕ, zero, suc, ◌+◌, ◌-◌, ◌≤◌}
use mathlib.Core.Path.{◌≡◌, refl, sym, ap, ◌∙◌, subst}
use mathlib.Core.Logic.{◌≢◌}
use mathlib.Core.Bool.{Bool, true, false}
use mathlib.Core.List.{List, [], ◌∷◌, ◌++◌, append-nil, head-eq_of_cons-eq}
use lib.ListN.{length}
use native.Mathlib.Omega.{arith}
use Rattle.words.specs.Lists.{count}
use Rattle.regions.specs.declared.Region.{Region}
use Rattle.xrtree.specs.Tree.{Tree, weave, listed, page_places, record_places}
use Rattle.xrtree.specs.Claims.{page_at}
use Rattle.pages.specs.Layout.{root_of, height_of, shares_of, page_of, record_of, child_in, page_used}
use Rattle.image.specs.Decode.{children_from}
use Rattle.holding.specs.Held.{place_of, PageHeld, KeysHeld, Held}
use Rattle.holding.proofs.Frames.{SamePage, SameRecord, held_frame}
use Rattle.standing.specs.Stands.{top, nothing_around, Places, Stands}
use Rattle.standing.proofs.Counting.{all_counted, places_same}
use Rattle.store.specs.Store.{put_page, free_page, set_root, set_height, FirstFree}
use Rattle.store.proofs.Kept.{page_used_same, record_used_same}
use Rattle.store.proofs.Frames.{put_page_long, put_page_here, put_page_other, put_page_record, put_page_head, put_page_used, free_page_long, free_page_other, free_page_record, free_page_head, free_page_used, set_root_long, set_root_root, set_root_shares, set_root_page, set_root_record, set_height_long, set_height_root, set_height_height, set_height_shares, set_height_page, set_height_record}
use Rattle.newpages.specs.Pages.{IsInner}
use Rattle.roots.specs.WholeTree.{Whole, PageRoom, Grew, RootIs, Shrank}
use Rattle.roots.proofs.Counted.{places_more, places_less, free_unlisted}

-- what a step on the root leaves: every record, every page but one
pub record Left (w w' : List ℕ) (q : ℕ) : Type 0 where
  long : length w' ≡ 12288
  pages : (p : ℕ) → 1 ≤ p → q ≢ p → page_of w' p ≡ page_of w p
  records : (p : ℕ) → record_of w' p ≡ record_of w p
  shares : shares_of w' ≡ shares_of w

-- the header's two words
pub head_left : (w w₁ : List ℕ) (q r n : ℕ) → Left w w₁ q → Left w (set_height (set_root w₁ r) n) q
head_left w w₁ q r n k =
    record {
      long = set_height_long (set_root w₁ r) n ∙ set_root_long w₁ r ∙ k.long;
      pages = λ p l d. set_height_page (set_root w₁ r) n p l ∙ set_root_page w₁ r p l ∙ k.pages p l d;
      records = λ p. set_height_record (set_root w₁ r) n p ∙ set_root_record w₁ r p ∙ k.records p;
      shares = set_height_shares (set_root w₁ r) n ∙ set_root_shares w₁ r ∙ k.shares;
    }

module _ {w w' : List ℕ} {q : ℕ} (k : Left w w' q) (h : ℕ) (t : Tree h) where
  pub tree_left : {used : ℕ → Bool} → Places used 160 (page_places h t) → count q (page_places h t) ≡ 0 → Held w h t → Held w' h t
  tree_left p z g =
      held_frame w w' h t
      (all_counted (SamePage w w') (page_places h t) (λ x l. k.pages x (p.range x l).0 (λ e. omega (arith, ap (λ y. count y (page_places h t)) e))))
      (all_counted (SameRecord w w') (record_places h t) (λ x l. k.records x)) g

  pub used_left : (i : ℕ) → 1 ≤ i → i ≤ 160 → q ≢ i → page_used w' i ≡ page_used w i
  used_left i l u d = page_used_same w w' i (k.pages i l d)

pub room_first : (w : List ℕ) (q : ℕ) → PageRoom w → FirstFree (page_used w) 160 q → (1 ≤ q) × (q ≤ 160) × (page_used w q ≡ false)
room_first w zero r f = absurd (clash (page_used w r.place) r.free (f.none refl r.place r.high r.low))
  where
    bit : Bool → ℕ
    bit true = 1
    bit false = 0

    clash : (b : Bool) → b ≡ false → b ≡ true → ⊥
    clash b e d = omega (arith, ap bit (sym e ∙ d))
room_first w (suc q) r f = (omega arith, f.high, f.free (omega arith))

module _ (w : List ℕ) (q old tall : ℕ) (ws : List ℕ) (l : length w ≡ 12288) (fits : length ws ≡ 57) (room : PageRoom w) (first : FirstFree (page_used w) 160 q) (o : old ≡ root_of w) (n : tall ≡ height_of w) (is : IsInner ws 1 0 0 [] (old ∷ [])) where
  abbrev pub grown : List ℕ
  grown = set_height (set_root (put_page w q ws) q) (tall + 1)

  pub grown_left : Left w grown q
  grown_left =
      let f = room_first w q room first in
      head_left w (put_page w q ws) q q (tall + 1)
      (record {
        long = put_page_long w q ws fits ∙ l;
        pages = λ p a d. put_page_other w q ws fits p d;
        records = λ p. put_page_record w q ws fits f.1 p;
        shares = (put_page_head w q ws fits f.0).shares;
      })

  pub grown_here : page_of grown q ≡ ws
  grown_here =
      let f = room_first w q room first in
      set_height_page (set_root (put_page w q ws) q) (tall + 1) q f.0 ∙ set_root_page (put_page w q ws) q q f.0 ∙ put_page_here w q ws fits l f.1

  pub grown_used : page_used grown q ≡ true
  grown_used =
      let f = room_first w q room first in
      page_used_same (put_page w q ws) grown q (grown_here ∙ sym (put_page_here w q ws fits l f.1)) ∙ put_page_used w q ws fits l f.1 (λ e. omega (arith, is.mark_is))

  module _ (rs : List Region) (h : ℕ) (t : Tree h) (s : Whole w rs h t) where
    pub page_held : PageHeld grown (page_of grown q) h (page_at q [] t)
    page_held = subst (λ x. PageHeld grown x h (page_at q [] t)) (sym grown_here) (record { fill_is = is.fill_is; children_are = is.children_are ∙ ap (λ x. x ∷ []) (o ∙ s.root); keys_held = subst (λ x. KeysHeld {A = Tree h} grown x []) (sym is.keys_are) tt })

    pub own_pages : Places (page_used w) 160 (page_places h t)
    own_pages = subst (Places (page_used w) 160) (append-nil (page_places h t)) s.stands.pages

    pub grown_stands : Stands grown rs (suc h) 0 top (page_at q [] t) nothing_around
    unfolding listed weave
    grown_stands =
        let f = room_first w q room first in
        let a = s.stands in
        let z = free_unlisted q own_pages f.0 f.1 f.2 in
        record {
          long = grown_left.long;
          held = (page_held, tree_left grown_left h t own_pages z a.held);
          roomy = (omega arith, a.roomy);
          part = record { order = a.part.order; lists = a.part.lists; flags = a.part.flags; firsts = a.part.firsts };
          near = a.near;
          pairs = a.pairs;
          well = a.well;
          links = a.links;
          pages = places_more q (q ∷ (page_places h t ++ [])) a.pages f.0 f.1 f.2 grown_used (λ i x y d. used_left grown_left h t i x y d) (λ i. refl);
          records = places_same (λ i. refl) (λ i x y. record_used_same w grown i (grown_left.records i)) a.records;
        }

    pub grow_law : Grew w grown rs h t
    unfolding listed weave
    grow_law =
        record {
          place = q;
          whole = record {
            stands = grown_stands;
            same = s.same;
            root = set_height_root (set_root (put_page w q ws) q) (tall + 1) ∙ set_root_root (put_page w q ws) q (put_page_long w q ws fits ∙ l);
            height = set_height_height (set_root (put_page w q ws) q) (tall + 1) (set_root_long (put_page w q ws) q ∙ put_page_long w q ws fits ∙ l) ∙ omega (arith, s.height);
          };
          shares = grown_left.shares;
        }

pub grow_done : (w w₁ w₂ w₃ : List ℕ) (q old tall : ℕ) (ws : List ℕ) → length w ≡ 12288 → length ws ≡ 57 → PageRoom w → FirstFree (page_used w) 160 q → old ≡ root_of w → tall ≡ height_of w
    → IsInner ws 1 0 0 [] (old ∷ []) → w₁ ≡ put_page w q ws → w₂ ≡ set_root w₁ q → w₃ ≡ set_height w₂ (tall + 1)
    → (rs : List Region) (h : ℕ) (t : Tree h) → Whole w rs h t → Grew w w₃ rs h t
grow_done w w₁ w₂ w₃ q old tall ws l fits room first o n is e₁ e₂ e₃ rs h t s =
    subst (λ x. Grew w x rs h t) (sym (e₃ ∙ ap (λ x. set_height x (tall + 1)) (e₂ ∙ ap (λ x. set_root x q) e₁)))
    (grow_law w q old tall ws l fits room first o n is rs h t s)

-- A ROOT LESS
module _ (w : List ℕ) (old child tall : ℕ) (ok : RootIs w) (o : old ≡ root_of w) (c : child ≡ child_in (page_of w old) 0) (n : tall ≡ height_of w) where
  abbrev pub shrunk : List ℕ
  shrunk = set_height (set_root (free_page w old) child) (tall - 1)

  pub low : 1 ≤ old
  low = omega (arith, ok.low)

  pub high : old ≤ 160
  high = omega (arith, ok.high)

  pub shrunk_left : Left w shrunk old
  shrunk_left =
      head_left w (free_page w old) old child (tall - 1)
      (record {
        long = free_page_long w old ∙ ok.long;
        pages = λ p a d. free_page_other w old p d;
        records = λ p. free_page_record w old high p;
        shares = (free_page_head w old low).shares;
      })

  pub shrunk_free : page_used shrunk old ≡ false
  shrunk_free =
      page_used_same (free_page w old) shrunk old (set_height_page (set_root (free_page w old) child) (tall - 1) old low ∙ set_root_page (free_page w old) child old low)
      ∙ free_page_used w old ok.long high

  module _ (rs : List Region) (h q : ℕ) (t : Tree h) (s : Whole w rs (suc h) (page_at q [] t)) where
    pub at : old ≡ q
    at = o ∙ s.root

    pub child_at : child ≡ place_of h t
    unfolding children_from
    child_at =
        let g = s.stands.held.0 in
        let e : children_from (page_of w q) 0 1 ≡ place_of h t ∷ [] = subst (λ m. children_from (page_of w q) 0 (suc m) ≡ place_of h t ∷ []) g.fill_is g.children_are in
        c ∙ ap (λ x. child_in (page_of w x) 0) at ∙ head-eq_of_cons-eq e

    pub all_pages : Places (page_used w) 160 (old ∷ (page_places h t ++ []))
    unfolding listed weave
    all_pages = subst (λ x. Places (page_used w) 160 (x ∷ (page_places h t ++ []))) (sym at) s.stands.pages

    pub fewer : Places (page_used shrunk) 160 (page_places h t ++ [])
    fewer = places_less old (page_places h t ++ []) all_pages shrunk_free (λ i x y d. used_left shrunk_left h t i x y d) (λ i. refl)

    pub own : Places (page_used shrunk) 160 (page_places h t)
    own = subst (Places (page_used shrunk) 160) (append-nil (page_places h t)) fewer

    pub shrunk_stands : Stands shrunk rs h 0 top t nothing_around
    unfolding listed weave
    shrunk_stands =
        let a = s.stands in
        let z : count old (page_places h t) ≡ 0 = free_unlisted old own low high shrunk_free in
        record {
          long = shrunk_left.long;
          held = tree_left shrunk_left h t own z a.held.1;
          roomy = a.roomy.1;
          part = record { order = a.part.order; lists = a.part.lists; flags = a.part.flags; firsts = a.part.firsts };
          near = a.near;
          pairs = a.pairs;
          well = a.well;
          links = a.links;
          pages = fewer;
          records = places_same (λ i. refl) (λ i x y. record_used_same w shrunk i (shrunk_left.records i)) a.records;
        }

    pub shrink_law : Shrank w shrunk rs h t
    unfolding listed weave
    shrink_law =
        record {
          whole = record {
            stands = shrunk_stands;
            same = s.same;
            root = set_height_root (set_root (free_page w old) child) (tall - 1) ∙ set_root_root (free_page w old) child (free_page_long w old ∙ ok.long) ∙ child_at;
            height = set_height_height (set_root (free_page w old) child) (tall - 1) (set_root_long (free_page w old) child ∙ free_page_long w old ∙ ok.long) ∙ omega (arith, s.height);
          };
          shares = shrunk_left.shares;
        }

pub shrink_done : (w w₁ w₂ w₃ : List ℕ) (old child tall : ℕ) → RootIs w → old ≡ root_of w → child ≡ child_in (page_of w old) 0 → tall ≡ height_of w
    → w₁ ≡ free_page w old → w₂ ≡ set_root w₁ child → w₃ ≡ set_height w₂ (tall - 1)
    → (rs : List Region) (h q : ℕ) (t : Tree h) → Whole w rs (suc h) (page_at q [] t) → Shrank w w₃ rs h t
shrink_done w w₁ w₂ w₃ old child tall ok o c n e₁ e₂ e₃ rs h q t s =
    subst (λ x. Shrank w x rs h t) (sym (e₃ ∙ ap (λ x. set_height x (tall - 1)) (e₂ ∙ ap (λ x. set_root x child) e₁)))
    (shrink_law w old child tall ok o c n rs h q t s)
