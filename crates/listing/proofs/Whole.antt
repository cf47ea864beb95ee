-- A set and a whole listing from their sections.
-- Assumes nothing.
use Prim.Native.Nat.{ℕ, ◌-◌, ◌<◌, ◌≤◌}
use mathlib.Core.Path.{◌≡◌, refl, sym, ap, ap₂, ◌∙◌}
use mathlib.Core.Bool.{true, false, cond}
use mathlib.Core.List.{List, [], ◌∷◌}
use lib.Dec.{T, eqb}
use lib.ListN.{length, drop}
use native.Mathlib.Omega.{arith}
use Rattle.words.specs.Lists.{some}
use Rattle.words.proofs.Tests.{by_test, T_of, of_T, eq_yes, eq_no, lt_yes, lt_no, and_false}
use Rattle.words.proofs.Says.{some_drop}
use Rattle.lines.specs.Text.{lines_of, pieces, in_front, is_newline}
use Rattle.regions.specs.Numbers.{image_first, unless}
use Rattle.regions.specs.Sets.{Set, empty_set}
use Rattle.regions.specs.Calls.{open_set_no}
use Rattle.image.specs.Read.{set_of}
use Rattle.image.specs.Valid.{valid}
use Rattle.form.specs.Form.{Reading, refused, read, and_then, section, Shares, region_no, saved_line, regions_at, set_at, ended, inner_at, most_bytes, listing_of}
use Rattle.form.specs.Steps.{place_at, heard, SharesRead}
use Rattle.form.proofs.Sections.{unless_done, unless_not}
use Rattle.index.specs.Opening.{open_no, OpensSet}
use Rattle.index.proofs.Empty.{opens_valid}
use Rattle.listing.specs.Promise.{number_of, line_of, lent, ReadsListing}
use Rattle.listing.specs.Steps.{RegionsRead, SetRead}

-- what was heard, taken further
pub heard_no : {X : Type 0} (n l : ℕ) (x : X) → (n ≡ 0 → ⊥) → heard n l x ≡ refused n l
heard_no n l x h = unless_not n (read x) (refused n l) h

pub heard_yes : {X : Type 0} (n l : ℕ) (x : X) → n ≡ 0 → heard n l x ≡ read x
heard_yes n l x e = unless_done n (read x) (refused n l) e

module _ {X Y : Type 0} (r : Reading X) (f : X → Reading Y) where
  pub then_no : (n l : ℕ) → r ≡ refused n l → and_then r f ≡ refused n l
  unfolding and_then
  then_no n l e = ap (λ x. and_then x f) e

  pub then_yes : (x : X) → r ≡ read x → and_then r f ≡ f x
  unfolding and_then
  then_yes x e = ap (λ y. and_then y f) e

-- there are lines where there are bytes
some_lines : (bs : List ℕ) → some (lines_of bs) ≡ some bs
unfolding pieces some in_front
some_lines [] = refl
some_lines (b ∷ bs) = by_test (is_newline b) (λ e. ap (λ x. some (cond x ((b ∷ []) ∷ lines_of bs) (in_front b (lines_of bs)))) e) (λ e. ap (λ x. some (cond x ((b ∷ []) ∷ lines_of bs) (in_front b (lines_of bs)))) e ∙ front (lines_of bs))
  where
    front : (ps : List (List ℕ)) → some (in_front b ps) ≡ true
    front [] = refl
    front (p ∷ ps) = refl

-- A SET
module _ (text : List ℕ) (line at : ℕ) where
  pub set_refused : (n k j : ℕ) (s : Shares) (p : ℕ) (w : List ℕ) → SharesRead text line at n k j s → (n ≡ 0 → ⊥) → SetRead text line at n k p w
  unfolding set_at
  set_refused n k j s p w r h = record { is = then_no _ regions_at n k (r.is ∙ heard_no n k _ h) ∙ sym (heard_no n k _ h); goes = λ z. absurd (h z) }

  module _ (k j : ℕ) (s : Shares) (r : SharesRead text line at 0 k j s) where
    set_on : set_at (place_at text line at) ≡ regions_at (s, place_at text k j)
    unfolding set_at
    set_on = then_yes _ regions_at _ (r.is ∙ heard_yes 0 k _ refl)

    own_open : (w : List ℕ) (m : ℕ) → length w ≡ 12288 → m ≡ open_no w s.sixteen → m ≡ open_set_no s.sixteen
    unfolding open_no
    own_open w m l e = e ∙ ap (λ b. image_first b (open_set_no s.sixteen)) (eq_yes (length w) 12288 l)

    pub set_shares : (w w' : List ℕ) (m p : ℕ) → length w ≡ 12288 → OpensSet w s.sixteen m w' → (m ≡ 0 → ⊥) → SetRead text line at m (k - 1) p w'
    unfolding regions_at
    set_shares w w' m p h o ne =
        record {
          is =
              set_on
              ∙ ap (λ x. unless x (section region_no saved_line 500 (empty_set s.sixteen) (place_at text k j)) (refused x (k - 1))) (sym (own_open w m h o.number_is))
              ∙ unless_not m _ _ ne
              ∙ sym (heard_no m (k - 1) _ ne);
          goes = λ q. absurd (ne q);
        }

    module _ (w w' : List ℕ) (o : OpensSet w s.sixteen 0 w') where
      -- the opened image
      pub set_opened : T (valid w') × ((set_of w').regions ≡ [])
      set_opened =
          let v = opens_valid w s.sixteen w' r.sixteen_is o in
          (T_of v.0, ap (λ (S : Set). S.regions) v.1)

      pub set_read : (w'' : List ℕ) (c l p : ℕ) → length w ≡ 12288 → RegionsRead text k j w' c l p w'' → SetRead text line at c l p w''
      unfolding regions_at
      set_read w'' c l p h g =
          let v = opens_valid w s.sixteen w' r.sixteen_is o in
          record {
            is =
                set_on
                ∙ unless_done (open_set_no s.sixteen) _ _ (sym (own_open w 0 h o.number_is))
                ∙ ap (λ S. section region_no saved_line 500 S (place_at text k j)) (sym v.1)
                ∙ g.is;
            goes = λ q. (g.goes q, g.stays_valid);
          }

-- A LISTING
module _ (text outer inner : List ℕ) where
  pub image_first_lem : lent outer inner ≡ false → (n l : ℕ) → n ≡ 1 → l ≡ 0 → ReadsListing text outer inner n l outer inner
  image_first_lem e n l f g =
      record {
        number_is = rw e f;
        line_is = rw e g;
        refused_is = λ h. (refl, refl);
        done = λ z. absurd (let q : ◌≡◌ {A = ℕ} 1 0 = sym f ∙ z in omega arith);
      }

  module _ (lo : length outer ≡ 12288) (li : length inner ≡ 12288) where
    both : lent outer inner ≡ true
    both = rw (eq_yes (length outer) 12288 lo, eq_yes (length inner) 12288 li) refl

    pub refused_with : (n l : ℕ) → listing_of text ≡ refused n l → (n ≡ 0 → ⊥) → ReadsListing text outer inner n l outer inner
    unfolding number_of line_of
    refused_with n l e h =
        record {
          number_is = rw both (sym (ap number_of e));
          line_is = rw both (sym (ap line_of e));
          refused_is = λ q. (refl, refl);
          done = λ z. absurd (h z);
        }

    pub oversized : most_bytes < length text → ReadsListing text outer inner 12 0 outer inner
    unfolding listing_of
    oversized h = refused_with 12 0 (ap (λ b. cond b (refused 12 0) (and_then (set_at (place_at text 1 0)) inner_at)) (lt_yes most_bytes (length text) h)) (λ z. omega (arith, z))

    module _ (small : length text ≤ most_bytes) where
      lines_first : listing_of text ≡ and_then (set_at (place_at text 1 0)) inner_at
      unfolding listing_of
      lines_first = ap (λ b. cond b (refused 12 0) (and_then (set_at (place_at text 1 0)) inner_at)) (lt_no most_bytes (length text) small)

      pub outer_refused : (n l p : ℕ) (w : List ℕ) → SetRead text 1 0 n l p w → (n ≡ 0 → ⊥) → ReadsListing text outer inner n l outer inner
      outer_refused n l p w r h = refused_with n l (lines_first ∙ then_no _ inner_at n l (r.is ∙ heard_no n l _ h)) h

      module _ (l p : ℕ) (w : List ℕ) (r : SetRead text 1 0 0 l p w) where
        inner_on : listing_of text ≡ and_then (set_at (place_at text l p)) (ended (set_of w))
        unfolding inner_at
        inner_on = lines_first ∙ then_yes _ inner_at _ (r.is ∙ heard_yes 0 l _ refl)

        pub inner_refused : (n l' p' : ℕ) (w' : List ℕ) → SetRead text l p n l' p' w' → (n ≡ 0 → ⊥) → ReadsListing text outer inner n l' outer inner
        inner_refused n l' p' w' r' h = refused_with n l' (inner_on ∙ then_no _ (ended (set_of w)) n l' (r'.is ∙ heard_no n l' _ h)) h

        module _ (l' p' : ℕ) (w' : List ℕ) (r' : SetRead text l p 0 l' p' w') where
          end_on : listing_of text ≡ ended (set_of w) (set_of w', place_at text l' p')
          end_on = inner_on ∙ then_yes _ (ended (set_of w)) _ (r'.is ∙ heard_yes 0 l' _ refl)

          pub line_too_many : p' < length text → ReadsListing text outer inner 12 l' outer inner
          unfolding ended
          line_too_many h =
              refused_with 12 l' (end_on ∙ ap (λ b. cond b (refused 12 l') (read (set_of w, set_of w'))) (some_lines (drop p' text) ∙ some_drop p' text ∙ lt_yes p' (length text) h)) (λ q. omega (arith, q))

          pub all_read : (o i : List ℕ) → length text ≤ p' → o ≡ w → i ≡ w' → ReadsListing text outer inner 0 0 o i
          unfolding ended number_of line_of
          all_read o i h e e' =
              let q = end_on ∙ ap (λ b. cond b (refused 12 l') (read (set_of w, set_of w'))) (some_lines (drop p' text) ∙ some_drop p' text ∙ lt_no p' (length text) h) in
              record {
                number_is = rw both (sym (ap number_of q));
                line_is = rw both (sym (ap line_of q));
                refused_is = λ x. absurd (x refl);
                done = λ x.
                    (ap valid e ∙ of_T (valid w) (r.goes refl).1, ap valid e' ∙ of_T (valid w') (r'.goes refl).1, q ∙ ap₂ (λ a b. read (set_of a, set_of b)) (sym e) (sym e'));
              }
