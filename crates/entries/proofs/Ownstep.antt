-- The owner's list is changed by its records, and its page is stored with the key's new words: all else is as it was.
-- Assumes nothing.
use Prim.Native.Nat.{ℕ, suc, ◌+◌, ◌≤◌, ◌<◌}
use mathlib.Core.Path.{◌≡◌, refl, sym, ap, ap₂, ◌∙◌, subst}
use mathlib.Core.Logic.{◌≢◌}
use mathlib.Core.Bool.{cond}
use mathlib.Core.List.{List, [], ◌∷◌, ◌++◌}
use lib.Dec.{T}
use lib.ListN.{length}
use native.Mathlib.Omega.{arith}
use native.Mathlib.Decide.{dec_lt}
use Rattle.words.specs.Lists.{All, count}
use Rattle.words.proofs.Listed.{all_every}
use Rattle.words.proofs.Counted.{count_append, count_same}
use Rattle.xrtree.specs.Tree.{Key, Tree, Listing, weave, listed, list_pages, list_records, list_leaves, page_places, record_places}
use Rattle.xrtree.specs.Rules.{linked}
use Rattle.xrtree.specs.Claims.{page_at}
use Rattle.pages.specs.Layout.{page_of, mark_of, fill_of, next_of, record_used}
use Rattle.pages.specs.declared.KeyWords.{KeyWords}
use Rattle.image.specs.Decode.{key_words_at}
use Rattle.newpages.specs.Pages.{put_for, keys_of, children_of, IsInner}
use Rattle.holding.specs.Held.{KeyHeld, KeysHeld, place_of, EveryKid, PageHeld, Held, key_records}
use Rattle.holding.proofs.Frames.{SamePage, SameRecord, key_frame}
use Rattle.standing.specs.Stands.{Places, Roomy}
use Rattle.standing.proofs.Counting.{all_counted, places_same}
use Rattle.standing.proofs.Counting.{place_once}
use Rattle.store.specs.Store.{put_page}
use Rattle.store.proofs.Kept.{page_used_same}
use Rattle.store.proofs.Frames.{put_page_long, put_page_here, put_page_other, put_page_record, put_page_head, put_page_record_used}
use Rattle.records.specs.Touched.{Touched, in_use, Uses}
use Rattle.entries.specs.Ways.{Below, within}
use Rattle.entries.proofs.Holes.{ahead, behind, listed_within, place_within, held_within, roomy_within, count_within}
use Rattle.entries.proofs.Keys.{key_here, keys_put, places_key, every_key, long_key, weave_key, count_key, count_weave, count_keys, every_frame}
use Rattle.entries.proofs.Leafstep.{stored_used}
use Rattle.entries.specs.Lies.{Lies, Stepped}

module _ {m h : ℕ} (c : Below (suc m) h) (q : ℕ) (pre : List (Tree m × Key)) (kid : Tree m) (post : List (Tree m × Key)) (last : Tree m) where
  abbrev pub page : Key → Tree (suc m)
  page k = page_at q (pre ++ (kid, k) ∷ post) last

  abbrev pub tree : Key → Tree h
  tree k = within c (page k)

  -- LISTINGS
  page_counts : (k : Key) (x : ℕ) → count x (page_places h (tree k))
      ≡ count x (ahead list_pages c) + (count x (q ∷ []) + count x (weave (page_places m) (λ (k : Key). []) (pre ++ (kid, k) ∷ post) last)) + count x (behind list_pages c)
  unfolding listed
  page_counts k x =
      omega (arith, count_within list_pages c (page k) x, count_append x (q ∷ []) (weave (page_places m) (λ (k : Key). []) (pre ++ (kid, k) ∷ post) last))

  record_counts : (k : Key) (x : ℕ) → count x (record_places h (tree k))
      ≡ count x (ahead list_records c) + count x (weave (record_places m) (λ (k : Key). k.places) (pre ++ (kid, k) ∷ post) last) + count x (behind list_records c)
  unfolding listed
  record_counts k x = count_within list_records c (page k) x

  -- of the records on the page: the children's, those of the keys before, of the key, of the keys behind
  split_counts : (k : Key) (x : ℕ) → count x (weave (record_places m) (λ (k : Key). k.places) (pre ++ (kid, k) ∷ post) last)
      ≡ count x (weave (record_places m) (λ (k : Key). []) (pre ++ (kid, k) ∷ post) last) + (count x (key_records pre) + count x k.places + count x (key_records post))
  split_counts k x = omega (arith, count_weave (record_places m) x (pre ++ (kid, k) ∷ post) last, count_keys (record_places m) x pre kid k post)

  pub page_places_lem : (k : Key) (x : ℕ) → count x k.places ≤ count x (record_places h (tree k))
  page_places_lem k x = omega (arith, record_counts k x, split_counts k x)

  module _ (key key' : Key) where
    listed_key : {B : Type 0} (L : Listing B) → L.on_key key' ≡ L.on_key key → listed L h (tree key') ≡ listed L h (tree key)
    listed_key L e = listed_within L c (page key') ∙ ap (λ z. ahead L c ++ (z ++ behind L c)) (one L e) ∙ sym (listed_within L c (page key))
      where
        one : {B : Type 0} (L : Listing B) → L.on_key key' ≡ L.on_key key → listed L (suc m) (page key') ≡ listed L (suc m) (page key)
        one L e = unfold listed in ap₂ ◌++◌ (ap (L.on_page q) (long_key kid key key' post last pre)) (weave_key kid key key' post last (listed L m) L.on_key e pre)

    roomy_key : Roomy h (tree key) → Roomy h (tree key')
    roomy_key r =
        let d = roomy_within c (page key) r in
        d.1 (page key') (subst (λ n. n ≤ 9) (sym (long_key kid key key' post last pre)) d.0.0, every_key kid key key' post last (Roomy m) pre d.0.1)

  module _ (w : List ℕ) (key : Key) (a : Lies w h (tree key)) where
    pub page_held : PageHeld w (page_of w q) m (page key) × EveryKid (Held w m) (pre ++ (kid, key) ∷ post) last
    page_held =
        (held_within w w c (page key) (all_every {P = SamePage w w} (λ q. refl) (ahead list_pages c)) (all_every {P = SamePage w w} (λ q. refl) (behind list_pages c))
        (all_every {P = SameRecord w w} (λ q. refl) (ahead list_records c)) (all_every {P = SameRecord w w} (λ q. refl) (behind list_records c)) a.held).part

    -- the key's words
    pub key_words : KeyHeld w (key_words_at (page_of w q) (length pre)) key
    key_words =
        let e : 0 + length pre ≡ length pre = omega arith in
        subst (λ j. KeyHeld w (key_words_at (page_of w q) j) key) e (key_here w kid key post (page_of w q) pre 0 (fill_of (page_of w q)) page_held.0.keys_held)

    pub page_range : (1 ≤ q) × (q ≤ 160)
    page_range = a.pages.range q (omega (arith, page_counts key q, count_same q []))

    pub key_below : length pre < fill_of (page_of w q)
    key_below = subst (λ n. length pre < n) (sym page_held.0.fill_is) (longer pre)
      where
        longer : (pre : List (Tree m × Key)) → length pre < length (pre ++ (kid, key) ∷ post)
        longer [] = omega arith
        longer (d ∷ pre) = let i = longer pre in omega arith

    pub page_fill : fill_of (page_of w q) ≤ 9
    page_fill = subst (λ n. n ≤ 9) (sym page_held.0.fill_is) (roomy_within c (page key) a.roomy).0.0

    module _ (w₁ ws ts taken freed : List ℕ) (x : KeyWords) (key' : Key) (touched : Touched w w₁ ts)
        (clear : (y : ℕ) → 0 < count y (record_places h (tree key)) → count y key.places ≡ 0 → count y ts ≡ 0)
        (uses : Uses w w₁ taken freed) (new : (y : ℕ) → count y key'.places + count y freed ≡ count y key.places + count y taken) (inside : (y : ℕ) → 0 < count y taken → (1 ≤ y) × (y ≤ 500))
        (now-held : KeyHeld w₁ x key') (fits : length ws ≡ 57)
        (is : IsInner ws (mark_of (page_of w q)) (fill_of (page_of w q)) (next_of (page_of w q)) (put_for (length pre) x (keys_of (page_of w q))) (children_of (page_of w q))) where
      abbrev w₂ : List ℕ
      w₂ = put_page w₁ q ws

      long_one : length w₁ ≡ 12288
      long_one = touched.long ∙ a.long

      once_page : (y : ℕ) → count y (page_places h (tree key)) ≤ 1
      once_page y = place_once a.pages y

      once_record : (y : ℕ) → count y (record_places h (tree key)) ≤ 1
      once_record y = place_once a.records y

      -- a page of the tree that is not the owner's, a record that is not of the owner's list
      other_page : (y : ℕ) → 0 < count y (page_places h (tree key)) → q ≢ y → SamePage w w₂ y
      other_page y l n = put_page_other w₁ q ws fits y n ∙ touched.pages y (a.pages.range y l).1

      other_record : (y : ℕ) → 0 < count y (record_places h (tree key)) → count y key.places ≡ 0 → SameRecord w w₂ y
      other_record y l z = put_page_record w₁ q ws fits page_range.1 y ∙ touched.records y (a.records.range y l).0 (clear y l z)

      not_own : (y : ℕ) → 0 < count y (ahead list_pages c) + count y (weave (page_places m) (λ (k : Key). []) (pre ++ (kid, key) ∷ post) last) + count y (behind list_pages c) → q ≢ y
      not_own y l e = let z = ap (λ i. count y (i ∷ [])) e in omega (arith, once_page y, page_counts key y, count_same y [], z)

      pages_off : (ps : List ℕ) → ((y : ℕ) → count y ps ≤ count y (ahead list_pages c) + count y (weave (page_places m) (λ (k : Key). []) (pre ++ (kid, key) ∷ post) last) + count y (behind list_pages c)) → All (SamePage w w₂) ps
      pages_off ps f = all_counted (SamePage w w₂) ps (λ y l. other_page y (omega (arith, f y, page_counts key y)) (not_own y (omega (arith, f y))))

      records_off : (ps : List ℕ) → ((y : ℕ) → count y ps + count y key.places ≤ count y (record_places h (tree key))) → All (SameRecord w w₂) ps
      records_off ps f = all_counted (SameRecord w w₂) ps (λ y l. other_record y (omega (arith, f y)) (omega (arith, f y, once_record y)))

      kept : KeyHeld w₂ x key'
      kept = key_frame w₁ w₂ x key' (all_every {P = SameRecord w₁ w₂} (put_page_record w₁ q ws fits page_range.1) key'.places) now-held

      page_again : PageHeld w₂ (page_of w₂ q) m (page key')
      page_again =
          subst (λ z. PageHeld w₂ z m (page key')) (sym (put_page_here w₁ q ws fits long_one page_range.1))
          (record {
            fill_is = is.fill_is ∙ page_held.0.fill_is ∙ sym (long_key kid key key' post last pre);
            children_are = is.children_are ∙ page_held.0.children_are ∙ sym (places_key kid key key' post last (place_of m) pre);
            keys_held = subst (λ z. KeysHeld w₂ z (pre ++ (kid, key') ∷ post)) (sym is.keys_are)
                (keys_put w w₂ kid key key' x kept post (records_off (key_records post) (λ y. omega (arith, record_counts key y, split_counts key y)))
                (keys_of (page_of w q)) pre (records_off (key_records pre) (λ y. omega (arith, record_counts key y, split_counts key y))) page_held.0.keys_held);
          })

      own_held : Held w₂ h (tree key')
      own_held =
          (held_within w w₂ c (page key)
          (pages_off (ahead list_pages c) (λ y. omega arith)) (pages_off (behind list_pages c) (λ y. omega arith))
          (records_off (ahead list_records c) (λ y. omega (arith, record_counts key y, split_counts key y))) (records_off (behind list_records c) (λ y. omega (arith, record_counts key y, split_counts key y)))
          a.held).again (page key') refl (
            page_again,
            every_key kid key key' post last (Held w₂ m) pre
                (every_frame w w₂ m (pre ++ (kid, key) ∷ post) last (pages_off (weave (page_places m) (λ (k : Key). []) (pre ++ (kid, key) ∷ post) last) (λ y. omega arith))
                (records_off (weave (record_places m) (λ (k : Key). []) (pre ++ (kid, key) ∷ post) last) (λ y. omega (arith, record_counts key y, split_counts key y))) page_held.1),
          )

      own_records_lem : Places (record_used w₂) 500 (record_places h (tree key'))
      own_records_lem =
          record {
            once = λ y l u.
                let z : cond (record_used w₂ y) 1 0 ≡ in_use w₁ y = ap (λ b. cond b 1 0) (put_page_record_used w₁ q ws fits page_range.1 y) in
                omega (
                  arith,
                  z,
                  uses.counts y l u,
                  new y,
                  a.records.once y l u,
                  record_counts key y,
                  record_counts key' y,
                  count_key kid key key' post last (record_places m) y pre,
                );
            range = λ y l. ranged y l (omega (arith, new y, record_counts key y, record_counts key' y, count_key kid key key' post last (record_places m) y pre));
          }
        where
          ranged : (y : ℕ) → 0 < count y (record_places h (tree key')) → 0 < count y (record_places h (tree key)) + count y taken → (1 ≤ y) × (y ≤ 500)
          ranged y l s = elim (dec_lt 0 (count y taken)) [ yes u ↦ inside y u | no u ↦ a.records.range y (omega arith) ]

      pub own_step_lem : Stepped w (put_page w₁ q ws) h (tree key) (tree key')
      own_step_lem =
          let k = put_page_head w₁ q ws fits page_range.0 in
          record {
            lies = record {
              long = put_page_long w₁ q ws fits ∙ long_one;
              held = own_held;
              roomy = roomy_key key key' a.roomy;
              links = subst (λ l. T (linked l)) (sym (listed_key key key' list_leaves refl)) a.links;
              pages = places_same (λ y. ap (count y) (listed_key key key' list_pages refl))
                  (λ i l u. stored_used w₁ q ws long_one fits page_range.1 (is.mark_is ∙ ap mark_of (sym (touched.pages q page_range.1))) i ∙ page_used_same w w₁ i (touched.pages i u)) a.pages;
              records = own_records_lem;
            };
            place = place_within c (page key) (page key') refl;
            pages = listed_key key key' list_pages refl;
            root = k.root ∙ touched.root;
            height = k.height ∙ touched.height;
            shares = k.shares ∙ touched.shares;
          }
