-- An inner page cut at its key c: what its calls ask, and all that is there before the pages are stored.
-- Assumes nothing.
use Prim.Native.Nat.{ℕ, suc, ◌+◌, ◌-◌, ◌≤◌, ◌<◌}
use mathlib.Core.Path.{◌≡◌, refl, sym, ap, ap₂, ◌∙◌, subst}
use mathlib.Core.List.{List, [], ◌∷◌, ◌++◌}
use lib.Dec.{T}
use lib.ListN.{length, length-append, take, drop}
use lib.Seq.{take_at, drop-append-add}
use native.Mathlib.Omega.{arith}
use Rattle.words.specs.Lists.{count}
use Rattle.words.proofs.Counted.{count_append}
use Rattle.pages.specs.Layout.{page_of, mark_of, fill_of, next_of}
use Rattle.pages.specs.declared.KeyWords.{KeyWords}
use Rattle.xrtree.specs.Tree.{Key, Leaf, Tree, weave, listed, keys_in, list_pages, list_records, regions, leaves}
use Rattle.xrtree.specs.Rules.{linked, filled_below}
use Rattle.xrtree.specs.Claims.{page_at, Claim}
use Rattle.xrtree.specs.Local.{NoLeaf, Part, FirstIs}
use Rattle.xrtree.specs.Holes.{lo_after, Post, fill, fill_kids, hi_post}
use Rattle.xrtree.specs.Moves.{key_with, trim, raised, raised_places}
use Rattle.xrtree.specs.Holes.Post.{at_key, at_end}
use Rattle.xrtree.proofs.Splice.{page_at_lem}
use Rattle.newpages.specs.Pages.{keys_of, children_of, IsInner}
use Rattle.holding.specs.Held.{KeyHeld, KeysHeld, kid_places, EveryKid, place_of, PageHeld, Held, key_records}
use Rattle.holding.proofs.Frames.{keys_frame}
use Rattle.records.specs.Touched.{Touched}
use Rattle.records.proofs.Marks.{none_in, touched_then}
use Rattle.standing.specs.Stands.{Roomy}
use Rattle.steps.specs.Steps.{KidsFilled, next_places}
use Rattle.steps.proofs.Stays.{HeldAs}
use Rattle.raising.specs.Sides.{topped, next_cut}
use Rattle.raising.specs.Moves.{RaiseReady, Raised, EnterReady, Entered}
use Rattle.raising.specs.declared.Risen.{Risen}
use Rattle.raising.proofs.Keys.{records_count, keys_split, untouched, trim_counts}
use Rattle.split.specs.Ready.{InnerReady}
use Rattle.split.proofs.Parts.{inner_part}
use Rattle.split.proofs.Assemble.{Made}
use Rattle.split.proofs.Seen.{cut_same, child_stands, q_mark, p_mark, records_once, enter_ready, long_more, topped_counts}
use Rattle.split.proofs.Cuts.{Mid, mid_at, trim_long, keys_cut, places_left, places_right, every_cut, all_cut, listed_cut}

-- the next key's records are among the page's
next_among : {A : Type 0} (x : ℕ) (pre : List (A × Key)) (post : Post A) (t : A) → count x (next_places post) ≤ count x (key_records (fill_kids pre post t))
next_among x pre (at_key j cs last) t = omega (arith, records_count x pre ((t, j) ∷ cs), count_append x j.places (key_records cs))
next_among x pre at_end t = omega (arith, none_in x)

module _ {w : List ℕ} {h q i c : ℕ} (s : InnerReady w h q i c) where
  abbrev pub cut_at : Mid s.child_at.child.kids c
  cut_at = mid_at s.child_at.child.kids c s.high

  -- the child's words
  pub inner_held : PageHeld w (page_of w s.child_at.child.place) h s.child_at.child
  inner_held = (child_stands s.child_at).held.0

  pub inner_few : fill_of (page_of w s.child_at.child.place) ≤ 9
  inner_few = omega (arith, inner_held.fill_is, (child_stands s.child_at).roomy.0)

  pub inner_more : c < fill_of (page_of w s.child_at.child.place)
  inner_more = omega (arith, inner_held.fill_is, s.high)

  own_parts : (x : ℕ) → count x (key_records s.child_at.child.kids) ≡ count x (key_records cut_at.ls) + count x cut_at.k.places + count x (key_records cut_at.bs)
  own_parts x =
      ap (λ (z : List (Tree h × Key)). count x (key_records z)) (sym cut_at.is)
      ∙ omega (arith, records_count x cut_at.ls ((cut_at.m, cut_at.k) ∷ cut_at.bs), count_append x cut_at.k.places (key_records cut_at.bs))

  -- no record twice
  pub once : (x : ℕ) → count x (key_records (fill_kids s.child_at.pre s.child_at.post s.child_at.child)) + (count x (key_records cut_at.ls) + count x cut_at.k.places + count x (key_records cut_at.bs)) ≤ 1
  once x = omega (arith, records_once s.child_at x, own_parts x)

  unfoldable pub raise_ready : RaiseReady w (page_of w s.child_at.child.place) c h
  raise_ready =
      record {
        ls = cut_at.ls;
        m = cut_at.m;
        k = cut_at.k;
        bs = cut_at.bs;
        index = cut_at.index;
        keys_held = subst (KeysHeld w (keys_of (page_of w s.child_at.child.place))) (sym cut_at.is) inner_held.keys_held;
        pair = (page_at_lem FirstIs (Claim FirstIs NoLeaf h) _ _ cut_at.ls ((cut_at.m, cut_at.k) ∷ cut_at.bs) s.child_at.child.last
            (subst (λ z. Claim FirstIs NoLeaf (suc h) (lo_after s.child_at.lo s.child_at.pre) (hi_post s.child_at.hi s.child_at.post) (page_at s.child_at.child.place z s.child_at.child.last)) (sym cut_at.is)
            (child_stands s.child_at).part.firsts)).here.0;
        once = λ x. omega (arith, ap (λ (z : List (Tree h × Key)). count x (key_records z)) cut_at.is, records_once s.child_at x);
      }

  -- the page above is ready for the key
  module _ {w₁ : List ℕ} {t : Risen} (g : Raised w w₁ (page_of w s.child_at.child.place) c h raise_ready t) where
    abbrev pub up_places : List ℕ
    up_places = raised_places cut_at.k.key cut_at.ls cut_at.k.places

    pub up_held : KeyHeld w₁ t.key (key_with cut_at.k.key up_places (raised cut_at.k.key cut_at.ls cut_at.k.list))
    unfolding raise_ready
    up_held = g.key_held

    pub left_touched : Touched w w₁ (key_records cut_at.ls)
    unfolding raise_ready
    left_touched = g.touched

    pub left_keys : KeysHeld w₁ g.keys (trim cut_at.k.key cut_at.ls)
    unfolding raise_ready
    left_keys = g.keys_held

    unfoldable pub inner_enter : EnterReady w₁ (page_of w q) i t.key (suc h)
    inner_enter =
        enter_ready s.child_at t.key cut_at.k.key up_places (raised cut_at.k.key cut_at.ls cut_at.k.list) left_touched up_held
        (λ x. omega (arith, once x)) (λ x. omega (arith, once x, trim_counts x cut_at.k.key cut_at.ls cut_at.k.places))

    -- ALL THAT IS THERE before the pages are stored
    module _ {w₂ lws rws pws : List ℕ} {r : ℕ} (e : Entered w₁ w₂ (page_of w q) i t.key r (suc h) inner_enter pws)
        (l : IsInner lws (mark_of t.page) c (next_of t.page) (take c (keys_of t.page)) (take (suc c) (children_of t.page)))
        (m : IsInner rws 1 (fill_of t.page - suc c) (next_of t.page) (drop (suc c) (keys_of t.page)) (drop (suc c) (children_of t.page))) where
      next_touched : Touched w₁ w₂ (next_places s.child_at.post)
      unfolding inner_enter enter_ready
      next_touched = e.touched

      whole_kids : EveryKid (Held w h) (cut_at.ls ++ (cut_at.m, cut_at.k) ∷ cut_at.bs) s.child_at.child.last
      whole_kids = subst (λ z. EveryKid (Held w h) z s.child_at.child.last) (sym cut_at.is) (child_stands s.child_at).held.1

      places_here : children_of t.page ≡ kid_places (place_of h) (cut_at.ls ++ (cut_at.m, cut_at.k) ∷ cut_at.bs) s.child_at.child.last
      places_here = g.page_is.children_are ∙ inner_held.children_are ∙ ap (λ (z : List (Tree h × Key)). kid_places (place_of h) z s.child_at.child.last) (sym cut_at.is)

      kids_long : length cut_at.ls + suc (length cut_at.bs) ≡ length s.child_at.child.kids
      kids_long = sym (length-append cut_at.ls ((cut_at.m, cut_at.k) ∷ cut_at.bs)) ∙ ap length cut_at.is

      left_now_lem : HeldAs w w₂ lws (suc h) (page_at s.child_at.child.place (trim cut_at.k.key cut_at.ls) cut_at.m)
      left_now_lem = (
        record {
          fill_is = l.fill_is ∙ sym (trim_long cut_at.k.key cut_at.ls ∙ cut_at.index);
          children_are = l.children_are ∙ ap₂ (λ n (z : List ℕ). take (suc n) z) (sym cut_at.index) places_here
              ∙ places_left (place_of h) cut_at.k.key cut_at.ls cut_at.m cut_at.k cut_at.bs s.child_at.child.last;
          keys_held = subst (λ z. KeysHeld w₂ z (trim cut_at.k.key cut_at.ls)) (sym (l.keys_are ∙ ap (take c) g.page_is.keys_are ∙ take_at g.keys _ c g.many))
              (keys_frame w₁ w₂ g.keys (trim cut_at.k.key cut_at.ls) (untouched next_touched w₁ g.keys (trim cut_at.k.key cut_at.ls) left_keys
              (λ x. omega (arith, once x, trim_counts x cut_at.k.key cut_at.ls cut_at.k.places, next_among x s.child_at.pre s.child_at.post s.child_at.child))) left_keys);
        },
        (every_cut (Held w h) cut_at.k.key cut_at.ls cut_at.m cut_at.k cut_at.bs s.child_at.child.last whole_kids).0,
      )

      cut_words : List KeyWords
      cut_words = drop (length cut_at.ls) (keys_of (page_of w s.child_at.child.place))

      right_keys : KeysHeld w (drop 1 cut_words) cut_at.bs
      unfolding cut_words
      right_keys =
          (keys_split w (drop (length cut_at.ls) (keys_of (page_of w s.child_at.child.place))) ((cut_at.m, cut_at.k) ∷ []) cut_at.bs
          (keys_split w (keys_of (page_of w s.child_at.child.place)) cut_at.ls ((cut_at.m, cut_at.k) ∷ cut_at.bs)
          (subst (KeysHeld w (keys_of (page_of w s.child_at.child.place))) (sym cut_at.is) inner_held.keys_held)).1).1

      right_words : drop (suc c) (keys_of t.page) ≡ drop 1 cut_words
      unfolding cut_words
      right_words =
          let n : suc c ≡ length g.keys + 1 = omega (arith, g.many) in
          ap (λ n. drop n (keys_of t.page)) n ∙ ap (drop (length g.keys + 1)) g.page_is.keys_are ∙ drop-append-add g.keys (drop c (keys_of (page_of w s.child_at.child.place))) 1
          ∙ ap (λ n. drop 1 (drop n (keys_of (page_of w s.child_at.child.place)))) (sym cut_at.index)

      both_touched : Touched w w₂ (key_records cut_at.ls ++ next_places s.child_at.post)
      both_touched = touched_then left_touched next_touched

      right_now_lem : HeldAs w w₂ rws (suc h) (page_at r cut_at.bs s.child_at.child.last)
      right_now_lem = (
        record {
          fill_is = m.fill_is ∙ omega (arith, g.page_is.fill_is, inner_held.fill_is, kids_long, cut_at.index);
          children_are = m.children_are ∙ ap₂ (λ n (z : List ℕ). drop (suc n) z) (sym cut_at.index) places_here
              ∙ places_right (place_of h) cut_at.ls cut_at.m cut_at.k cut_at.bs s.child_at.child.last;
          keys_held = subst (λ z. KeysHeld w₂ z cut_at.bs) (sym (m.keys_are ∙ right_words))
              (keys_frame w w₂ (drop 1 cut_words) cut_at.bs (untouched both_touched w (drop 1 cut_words) cut_at.bs right_keys
              (λ x. omega (arith, once x, count_append x (key_records cut_at.ls) (next_places s.child_at.post), next_among x s.child_at.pre s.child_at.post s.child_at.child))) right_keys);
        },
        (every_cut (Held w h) cut_at.k.key cut_at.ls cut_at.m cut_at.k cut_at.bs s.child_at.child.last whole_kids).1,
      )

      same_list : {B : Type 0} (f : Tree h → List B) → weave f (λ (k : Key). []) (trim cut_at.k.key cut_at.ls) cut_at.m ++ weave f (λ (k : Key). []) cut_at.bs s.child_at.child.last
          ≡ weave f (λ (k : Key). []) s.child_at.child.kids s.child_at.child.last
      same_list {B} f =
          listed_cut f cut_at.k.key cut_at.ls cut_at.m cut_at.k cut_at.bs s.child_at.child.last
          ∙ ap (λ (z : List (Tree h × Key)). weave f (λ (k : Key). []) z s.child_at.child.last) cut_at.is

      pub inner_made : Made w w₂ (suc h) q i c s.child_at r lws rws pws
      unfolding listed inner_enter enter_ready
      inner_made =
          let a = s.child_at in
          let k = cut_at.k.key in
          let roomy = (child_stands a).roomy in
          let rooms = every_cut (Roomy h) k cut_at.ls cut_at.m cut_at.k cut_at.bs a.child.last (subst (λ z. EveryKid (Roomy h) z a.child.last) (sym cut_at.is) roomy.1) in
          record {
            left = page_at a.child.place (trim k cut_at.ls) cut_at.m;
            right = page_at r cut_at.bs a.child.last;
            key = topped k a.post up_places (raised k cut_at.ls cut_at.k.list);
            key' = next_cut k a.post;
            key_made = keys_cut k cut_at.ls cut_at.m cut_at.k cut_at.bs ∙ ap keys_in cut_at.is;
            next_same = cut_same k a.post;
            fresh = [];
            touched = key_records cut_at.ls ++ next_places a.post;
            long = both_touched.long;
            root = both_touched.root;
            height = both_touched.height;
            shares = both_touched.shares;
            pages = both_touched.pages;
            records = both_touched.records;
            uses = λ x low high. omega (arith, g.uses.counts x low high, e.uses.counts x low high, none_in x);
            fresh_range = λ x z. absurd (omega (arith, none_in x));
            own = λ x z. omega (arith, count_append x (key_records cut_at.ls) (next_places a.post), own_parts x, none_in x);
            left_mark = λ z. p_mark a (sym (l.mark_is ∙ g.page_is.mark_is) ∙ z);
            right_mark = λ z. (let o : ◌≡◌ {A = ℕ} 1 0 = sym m.mark_is ∙ z in omega arith);
            above_mark = λ z. q_mark a (sym e.mark_is ∙ z);
            left_place = refl;
            right_place = refl;
            left_held = left_now_lem;
            right_held = right_now_lem;
            above_held = e.held (page_at a.child.place (trim k cut_at.ls) cut_at.m) (page_at r cut_at.bs a.child.last) refl refl;
            part = inner_part a.rs s.nested h a.lo a.hi q a.child.place a.child.place r a.pre cut_at.ls cut_at.bs cut_at.m a.child.last cut_at.k up_places a.post
                (subst (λ z. Part a.rs (suc (suc h)) a.lo a.hi (fill q a.pre a.post (page_at a.child.place z a.child.last))) (sym cut_at.is) a.stands.part);
            same_regions_lem = same_list (regions h);
            same_links = λ us vs z. subst (λ (u : List Leaf). T (linked (us ++ (u ++ vs)))) (sym (same_list (leaves h))) z;
            below_pages = same_list (listed list_pages h);
            below_records = same_list (listed list_records h);
            own_records_lem = λ x. omega (arith, topped_counts x k a.post up_places, trim_counts x k cut_at.ls cut_at.k.places, own_parts x, none_in x);
            room = omega (arith, long_more a.pre a.post a.child (page_at a.child.place (trim k cut_at.ls) cut_at.m) (page_at r cut_at.bs a.child.last) (topped k a.post up_places (raised k cut_at.ls cut_at.k.list)) (next_cut k a.post), s.room);
            roomy_left = (omega (arith, trim_long k cut_at.ls, kids_long, roomy.0), rooms.0);
            roomy_right = (omega (arith, kids_long, roomy.0), rooms.1);
            size_left = trim_long k cut_at.ls ∙ cut_at.index;
            size_right = omega (arith, kids_long, cut_at.index);
            kids_filled = λ z. all_cut (filled_below h) k cut_at.ls cut_at.m cut_at.k cut_at.bs a.child.last (subst (λ z. KidsFilled (suc h) (page_at a.child.place z a.child.last)) (sym cut_at.is) z);
          }
