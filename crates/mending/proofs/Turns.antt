-- One turn at a page whose child on x's way may hold three: nothing to do, or a couple of it and a neighbour to mend.
-- Assumes nothing.
use Prim.Native.Nat.{ℕ, suc, ◌+◌, ◌-◌, ◌≤◌, ◌<◌}
use mathlib.Core.Path.{◌≡◌, refl, sym, ap, ◌∙◌, subst}
use mathlib.Core.List.{List, [], ◌∷◌}
use lib.ListN.{length, length-append}
use native.Mathlib.Omega.{arith}
use Rattle.xrtree.specs.Tree.{Tree}
use Rattle.xrtree.specs.Holes.{Post, fill}
use Rattle.xrtree.specs.Holes.Post.{at_key, at_end}
use Rattle.pages.specs.Layout.{page_of, fill_of, child_in}
use Rattle.standing.specs.Stands.{Stands}
use Rattle.path.specs.Path.{rank_in}
use Rattle.steps.specs.Steps.{size}
use Rattle.room.specs.Ways.{Filled, Others, keys_behind, Mended}
use Rattle.room.proofs.Fills.{size_fill}
use Rattle.room.proofs.Becoming.{spares_none}
use Rattle.room.proofs.Mending.{Under, mend_kept, next_kid, next_post, right_page, right_others, last_one, left_others}
use Rattle.mending.specs.Mends.{Room, ThinLeft, ThinRight, PairMended, Thin}
use Rattle.mending.proofs.Seen.{child_size, rank_is}

module _ {w : List ℕ} {q x inner : ℕ} (s : Thin w q x inner) where
  abbrev pub page : Tree (suc s.h)
  page = fill q s.pre s.post s.child

  abbrev pub PageMended : List ℕ → Type 0
  PageMended w' = Mended w w' s.rs s.h s.lo s.hi s.o page

  abbrev pub calm : Under 0 w w s.rs s.h s.lo s.hi s.o page page
  calm = record { becomes = record { stands = s.stands; place = refl; same = refl; spares = spares_none w s.o }; keys = omega arith; pages = omega arith }

  pub thin_few : fill_of (page_of w q) ≤ 8
  thin_few = omega (arith, s.stands.held.0.fill_is, s.room.few)

  pub parts : length page.kids ≡ length s.pre + keys_behind s.post
  parts = size_fill s.pre s.post s.child

  module _ (i : ℕ) (e : i ≡ rank_in (page_of w q) x) where
    pub at : length s.pre ≡ i
    at = sym (e ∙ rank_is w s.rs s.h s.lo s.hi q s.pre s.post s.child s.o x s.stands s.on_way)

    pub thin_index : i < 10
    thin_index = omega (arith, at, parts, s.room.few)

    module _ (n : ℕ) (a : n ≡ fill_of (page_of w (child_in (page_of w q) i))) where
      pub held_is : n ≡ size s.h s.child
      held_is =
          a ∙ child_size (record { rs = s.rs; lo = s.lo; hi = s.hi; o = s.o; pre = s.pre; post = s.post; child = s.child; stands = s.stands; index = at })

      -- it holds four or more
      pub thin_kept : 4 ≤ n → PageMended w
      thin_kept l =
          mend_kept 0 w w s.rs s.h s.lo s.hi q s.pre s.post s.o page s.child calm refl s.others s.kids (omega (arith, held_is)) s.most

      module _ (l : n < 4) (k : ℕ) (b : k ≡ fill_of (page_of w q)) where
        pub three : size s.h s.child ≡ 3
        three = omega (arith, held_is, s.least)

        pub behind : k ≡ i + keys_behind s.post
        behind = omega (arith, s.stands.held.0.fill_is, parts, at)

        -- a key follows it: its right neighbour
        pub as_left : i < k → (t : ThinLeft w q i inner) × ((w' : List ℕ) → PairMended w' t.couple → PageMended w')
        as_left g = go s.post s.stands s.others s.room (omega (arith, behind))
          where
            go : (post : Post (Tree s.h)) → Stands w s.rs (suc s.h) s.lo s.hi (fill q s.pre post s.child) s.o → Others (Filled s.h) s.pre post
                → Room s.rs s.h s.lo s.hi (fill q s.pre post s.child) s.o → 1 ≤ keys_behind post
                → (t : ThinLeft w q i inner) × ((w' : List ℕ) → PairMended w' t.couple → Mended w w' s.rs s.h s.lo s.hi s.o (fill q s.pre post s.child))
            go (at_key y cs last) st ot rm m =
                let f = right_page q s.pre y cs last s.child in
                let r = right_others (Filled s.h) s.pre y cs last ot in (
                  record {
                    couple =
                        record {
                          h = s.h;
                          level = s.level;
                          pair =
                              record {
                                rs = s.rs;
                                lo = s.lo;
                                hi = s.hi;
                                o = s.o;
                                pre = s.pre;
                                post = next_post cs last;
                                left = s.child;
                                key = y;
                                right = next_kid cs last;
                                stands = subst (λ z. Stands w s.rs (suc s.h) s.lo s.hi z s.o) f st;
                                index = at;
                              };
                          room = subst (λ z. Room s.rs s.h s.lo s.hi z s.o) f rm;
                          others = r.0;
                        };
                    three = three;
                    kids = s.kids;
                    near = r.1;
                  },
                  λ w' z. subst (λ z. Mended w w' s.rs s.h s.lo s.hi s.o z) (sym f) z,
                )
            go at_end st ot rm m = absurd (omega arith)

        -- none does: its left neighbour
        pub one_before : k ≤ i → 1 ≤ i
        one_before g = omega (arith, behind, s.some, parts, at)

        pub as_right : k ≤ i → (t : ThinRight w q (i - 1) inner) × ((w' : List ℕ) → PairMended w' t.couple → PageMended w')
        as_right g =
            let r = last_one s.pre (omega (arith, one_before g, at)) in
            let ot = left_others (Filled s.h) r.init r.left r.key s.post (subst (λ z. Others (Filled s.h) z s.post) r.whole s.others) in (
              record {
                couple =
                    record {
                      h = s.h;
                      level = s.level;
                      pair =
                          record {
                            rs = s.rs;
                            lo = s.lo;
                            hi = s.hi;
                            o = s.o;
                            pre = r.init;
                            post = s.post;
                            left = r.left;
                            key = r.key;
                            right = s.child;
                            stands = subst (λ z. Stands w s.rs (suc s.h) s.lo s.hi (fill q z s.post s.child) s.o) r.whole s.stands;
                            index = omega (arith, at, ap length r.whole, length-append r.init ((r.left, r.key) ∷ []));
                          };
                      room = subst (λ z. Room s.rs s.h s.lo s.hi (fill q z s.post s.child) s.o) r.whole s.room;
                      others = ot.0;
                    };
                three = three;
                kids = s.kids;
                near = ot.1;
              },
              λ w' z. subst (λ z. Mended w w' s.rs s.h s.lo s.hi s.o (fill q z s.post s.child)) (sym r.whole) z,
            )
