-- Lists: what every element or pair has, filters, beginnings.
-- Assumes nothing.
use Prim.Native.Nat.{ℕ, zero, suc, ◌+◌, ◌≤◌}
use mathlib.Core.Path.{◌≡◌, refl, sym, ap, ap₂, ◌∙◌, subst}
use mathlib.Core.Logic.{◌⊎◌, inl, inr, ⊎_elim}
use mathlib.Core.Bool.{Bool, true, false, ◌&&◌, not, cond, true≢false}
use mathlib.Core.List.{List, [], ◌∷◌, ◌++◌, map, flat_map, append_assoc}
use lib.Dec.{T}
use lib.ListN.{take, drop, length, length-append}
use native.Mathlib.Omega.{arith}
use Rattle.words.specs.Lists.{filter, take_while, drop_while, some, all, All, Pairs, In, last_or, first_no}
use Rattle.words.proofs.Tests.{T_of, off_t, no_t, both, by_test, and_comm, and_assoc}

and_in : (a b : Bool) → (a ≡ true → b ≡ true) → a ≡ (b && a)
and_in true b h = rw (h refl)
and_in false true h = refl
and_in false false h = refl

module _ {A : Type 0} where
  -- ALL
  pub all_mono : {P Q : A → Type 0} → ((x : A) → P x → Q x) → (xs : List A) → All P xs → All Q xs
  all_mono f [] h = tt
  all_mono f (x ∷ xs) h = (f x h.0, all_mono f xs h.1)

  pub all_two : {P Q R : A → Type 0} → ((x : A) → P x → Q x → R x) → (xs : List A) → All P xs → All Q xs → All R xs
  all_two f [] h k = tt
  all_two f (x ∷ xs) h k = (f x h.0 k.0, all_two f xs h.1 k.1)

  pub all_every : {P : A → Type 0} → ((x : A) → P x) → (xs : List A) → All P xs
  all_every f [] = tt
  all_every f (x ∷ xs) = (f x, all_every f xs)

  pub all_append : (P : A → Type 0) (xs ys : List A) → All P xs → All P ys → All P (xs ++ ys)
  all_append P [] ys h k = k
  all_append P (x ∷ xs) ys h k = (h.0, all_append P xs ys h.1 k)

  pub all_left : (P : A → Type 0) (xs ys : List A) → All P (xs ++ ys) → All P xs
  all_left P [] ys h = tt
  all_left P (x ∷ xs) ys h = (h.0, all_left P xs ys h.1)

  pub all_right : (P : A → Type 0) (xs ys : List A) → All P (xs ++ ys) → All P ys
  all_right P [] ys h = h
  all_right P (x ∷ xs) ys h = all_right P xs ys h.1

  pub all_take : (P : A → Type 0) (n : ℕ) (xs : List A) → All P xs → All P (take n xs)
  all_take P zero xs h = tt
  all_take P (suc n) [] h = tt
  all_take P (suc n) (x ∷ xs) h = (h.0, all_take P n xs h.1)

  pub all_drop : (P : A → Type 0) (n : ℕ) (xs : List A) → All P xs → All P (drop n xs)
  all_drop P zero xs h = h
  all_drop P (suc n) [] h = tt
  all_drop P (suc n) (x ∷ xs) h = all_drop P n xs h.1

  pub all_last : (P : A → Type 0) (x : A) (xs : List A) → P x → All P xs → P (last_or x xs)
  unfolding last_or
  all_last P x [] h k = h
  all_last P x (y ∷ ys) h k = all_last P y ys k.0 k.1

  -- PAIRS
  pub pairs_mono : {R S : A → A → Type 0} → ((x y : A) → R x y → S x y) → (xs : List A) → Pairs R xs → Pairs S xs
  pairs_mono f [] h = tt
  pairs_mono f (x ∷ xs) h = (all_mono (λ y r. f x y r) xs h.0, pairs_mono f xs h.1)

  pub pairs_left : (R : A → A → Type 0) (xs ys : List A) → Pairs R (xs ++ ys) → Pairs R xs
  pairs_left R [] ys h = tt
  pairs_left R (x ∷ xs) ys h = (all_left (R x) xs ys h.0, pairs_left R xs ys h.1)

  pub pairs_right_lem : (R : A → A → Type 0) (xs ys : List A) → Pairs R (xs ++ ys) → Pairs R ys
  pairs_right_lem R [] ys h = h
  pairs_right_lem R (x ∷ xs) ys h = pairs_right_lem R xs ys h.1

  pub pairs_across : (R : A → A → Type 0) (xs ys : List A) → Pairs R (xs ++ ys) → All (λ x. All (R x) ys) xs
  pairs_across R [] ys h = tt
  pairs_across R (x ∷ xs) ys h = (all_right (R x) xs ys h.0, pairs_across R xs ys h.1)

  pub pairs_append : (R : A → A → Type 0) (xs ys : List A) → Pairs R xs → Pairs R ys → All (λ x. All (R x) ys) xs → Pairs R (xs ++ ys)
  pairs_append R [] ys h k c = k
  pairs_append R (x ∷ xs) ys h k c = (all_append (R x) xs ys h.0 c.0, pairs_append R xs ys h.1 k c.1)

  -- one element more, or one less, in the middle
  pub pairs_put : (R : A → A → Type 0) (us vs : List A) (r : A) → Pairs R (us ++ vs) → All (λ x. R x r) us → All (R r) vs → Pairs R (us ++ r ∷ vs)
  pairs_put R [] vs r p a b = (b, p)
  pairs_put R (u ∷ us) vs r p a b =
      (all_append (R u) us (r ∷ vs) (all_left (R u) us vs p.0) (a.0, all_right (R u) us vs p.0), pairs_put R us vs r p.1 a.1 b)

  -- FILTERS
  pub filter_yes : (p : A → Bool) (x : A) (xs : List A) → p x ≡ true → filter p (x ∷ xs) ≡ x ∷ filter p xs
  unfolding filter
  filter_yes p x xs h = rw h

  pub filter_no : (p : A → Bool) (x : A) (xs : List A) → p x ≡ false → filter p (x ∷ xs) ≡ filter p xs
  unfolding filter
  filter_no p x xs h = rw h

  pub filter_append : (p : A → Bool) (xs ys : List A) → filter p (xs ++ ys) ≡ filter p xs ++ filter p ys
  unfolding filter
  filter_append p [] ys = refl
  filter_append p (x ∷ xs) ys = by_test (p x) (λ h. rw h (ap (x ∷◌) (filter_append p xs ys))) (λ h. rw h (filter_append p xs ys))

  pub filter_all : (p : A → Bool) (xs : List A) → All (λ x. p x ≡ true) xs → filter p xs ≡ xs
  unfolding filter
  filter_all p [] a = refl
  filter_all p (x ∷ xs) a = rw a.0 (ap (x ∷◌) (filter_all p xs a.1))

  pub filter_none : (p : A → Bool) (xs : List A) → All (λ x. p x ≡ false) xs → filter p xs ≡ []
  unfolding filter
  filter_none p [] a = refl
  filter_none p (x ∷ xs) a = rw a.0 (filter_none p xs a.1)

  -- two tests that agree on the list
  pub filter_same : (p q : A → Bool) (xs : List A) → All (λ x. p x ≡ q x) xs → filter p xs ≡ filter q xs
  unfolding filter
  filter_same p q [] a = refl
  filter_same p q (x ∷ xs) a = rw (a.0, filter_same p q xs a.1)

  pub filter_filter : (p q : A → Bool) (xs : List A) → filter q (filter p xs) ≡ filter (λ x. p x && q x) xs
  unfolding filter
  filter_filter p q [] = refl
  filter_filter p q (x ∷ xs) =
      by_test (p x)
      (λ h. rw h (by_test (q x) (λ k. rw k (ap (x ∷◌) (filter_filter p q xs))) (λ k. rw k (filter_filter p q xs))))
      (λ h. rw h (filter_filter p q xs))

  pub filter_iff : {M : A → Type 0} (p q : A → Bool) → ((x : A) → M x → T (p x) → T (q x)) → ((x : A) → M x → T (q x) → T (p x))
      → (xs : List A) → All M xs → filter p xs ≡ filter q xs
  filter_iff p q f g xs a = filter_same p q xs (all_mono (λ x m. both (p x) (q x) (f x m) (g x m)) xs a)

  pub filter_both : (p q : A → Bool) → ((x : A) → T (p x) → T (q x)) → ((x : A) → T (q x) → T (p x)) → (xs : List A) → filter p xs ≡ filter q xs
  filter_both p q f g xs = filter_same p q xs (all_every (λ x. both (p x) (q x) (f x) (g x)) xs)

  pub filter_never : (p : A → Bool) → ((x : A) → T (p x) → ⊥) → (xs : List A) → filter p xs ≡ []
  filter_never p f xs = filter_none p xs (all_every (λ x. off_t (p x) (f x)) xs)

  pub filter_comm : (p q : A → Bool) (xs : List A) → filter p (filter q xs) ≡ filter q (filter p xs)
  filter_comm p q xs =
      filter_filter q p xs ∙ filter_same (λ x. q x && p x) (λ x. p x && q x) xs (all_every (λ x. and_comm (q x) (p x)) xs) ∙ sym (filter_filter p q xs)

  -- where a test lets through only what q does, it reads only what q does
  pub filter_within : (p q : A → Bool) (xs : List A) → All (λ x. p x ≡ true → q x ≡ true) xs → filter p xs ≡ filter p (filter q xs)
  filter_within p q xs h =
      filter_same p (λ x. q x && p x) xs (all_mono (λ x k. and_in (p x) (q x) k) xs h) ∙ sym (filter_filter q p xs)

  -- what a filter lets through
  pub all_filter : {M N : A → Type 0} (p : A → Bool) → ((x : A) → M x → T (p x) → N x) → (xs : List A) → All M xs → All N (filter p xs)
  unfolding filter
  all_filter p f [] a = tt
  all_filter p f (x ∷ xs) a =
      by_test (p x) (λ h. rw h (f x a.0 (T_of h), all_filter p f xs a.1)) (λ h. rw h (all_filter p f xs a.1))

  pub all_kept : (P : A → Type 0) (p : A → Bool) (xs : List A) → All P xs → All P (filter p xs)
  all_kept P p xs h = all_filter {M = P} {N = P} p (λ x m t. m) xs h

  pub all_let : (p : A → Bool) (xs : List A) → All (λ x. p x ≡ true) (filter p xs)
  unfolding filter
  all_let p [] = tt
  all_let p (x ∷ xs) = by_test (p x) (λ h. rw h (h, all_let p xs)) (λ h. rw h (all_let p xs))

  -- AN ELEMENT of a list has what all have; of a filter it is one that passes
  pub in_all : (P : A → Type 0) (x : A) (xs : List A) → In x xs → All P xs → P x
  in_all P x [] h k = absurd h
  in_all P x (y ∷ ys) (inl e) k = subst P (sym e) k.0
  in_all P x (y ∷ ys) (inr h) k = in_all P x ys h k.1

  pub in_kept : (p : A → Bool) (x : A) (xs : List A) → In x (filter p xs) → In x xs
  unfolding filter
  in_kept p x [] h = h
  in_kept p x (y ∷ ys) h = by_test (p y) (λ e. ⊎_elim (λ q. inl q) (λ q. inr (in_kept p x ys q)) (rw e at h)) (λ e. inr (in_kept p x ys (rw e at h)))

  pub in_let : (p : A → Bool) (x : A) (xs : List A) → In x (filter p xs) → p x ≡ true
  in_let p x xs h = in_all (λ y. p y ≡ true) x (filter p xs) h (all_let p xs)

  pub in_filter : (p : A → Bool) (x : A) (xs : List A) → In x xs → p x ≡ true → In x (filter p xs)
  unfolding filter
  in_filter p x [] h e = elim h [ ]
  in_filter p x (y ∷ ys) (inl q) e = rw (ap p (sym q) ∙ e) (inl q)
  in_filter p x (y ∷ ys) (inr h) e = by_test (p y) (λ t. rw t (inr (in_filter p x ys h e))) (λ t. rw t (in_filter p x ys h e))

  pub in_append : (x : A) (xs ys : List A) → In x (xs ++ ys) → In x xs ⊎ In x ys
  in_append x [] ys h = inr h
  in_append x (y ∷ xs) ys (inl e) = inl (inl e)
  in_append x (y ∷ xs) ys (inr h) = ⊎_elim (λ k. inl (inr k)) (λ k. inr k) (in_append x xs ys h)

  pub filter_twice : (p : A → Bool) (xs : List A) → filter p (filter p xs) ≡ filter p xs
  filter_twice p xs = filter_all p (filter p xs) (all_let p xs)

  pub pairs_filter : {R S : A → A → Type 0} (p : A → Bool) → ((x y : A) → T (p x) → T (p y) → R x y → S x y)
      → (xs : List A) → Pairs R xs → Pairs S (filter p xs)
  unfolding filter
  pairs_filter p f [] a = tt
  pairs_filter {R} {S} p f (x ∷ xs) a =
      by_test (p x)
      (λ h. rw h (all_filter {M = R x} {N = S x} p (λ y r q. f x y (T_of h) q r) xs a.0, pairs_filter p f xs a.1))
      (λ h. rw h (pairs_filter p f xs a.1))

  pub pairs_kept : (R : A → A → Type 0) (p : A → Bool) (xs : List A) → Pairs R xs → Pairs R (filter p xs)
  pairs_kept R p xs h = pairs_filter {R = R} {S = R} p (λ x y s t r. r) xs h

  -- where no two can stand there is at most one
  pub none_two : (xs : List A) → Pairs (λ x y. ⊥) xs → length xs ≤ 1
  none_two [] h = omega arith
  none_two (x ∷ []) h = omega arith
  none_two (x ∷ y ∷ xs) h = absurd h.0.0

  -- and where there is at most one no two stand
  pub no_two : (R : A → A → Type 0) (xs : List A) → length xs ≤ 1 → Pairs R xs
  no_two R [] l = tt
  no_two R (x ∷ []) l = (tt, tt)
  no_two R (x ∷ y ∷ xs) l = absurd (omega arith)

  pub none_of : (p : A → Bool) (xs : List A) → filter p xs ≡ [] → All (λ x. p x ≡ false) xs
  unfolding filter
  none_of p [] e = tt
  none_of p (x ∷ xs) e = go (p x) refl e (λ f. none_of p xs f)
    where
      empty : List A → ℕ
      empty [] = 0
      empty (y ∷ ys) = 1

      go : (b : Bool) → p x ≡ b → cond b (x ∷ filter p xs) (filter p xs) ≡ [] → (filter p xs ≡ [] → All (λ x. p x ≡ false) xs) → (p x ≡ false) × All (λ x. p x ≡ false) xs
      go true q f k = let z = ap empty f in absurd (omega arith)
      go false q f k = (q, k f)

  -- BEGINNINGS: a test that holds of an earlier one where it holds of a later one
  pub begins : (q : A → Bool) (xs : List A) → Pairs (λ x y. T (q y) → T (q x)) xs → take_while q xs ≡ filter q xs
  unfolding filter take_while
  begins q [] a = refl
  begins q (x ∷ xs) a =
      by_test (q x) (λ h. rw h (ap (x ∷◌) (begins q xs a.1)))
      (λ h. rw h (sym (filter_none q xs (all_mono (λ y f. off_t (q y) (λ t. no_t h (f t))) xs a.0))))

  pub rests : (q : A → Bool) (xs : List A) → Pairs (λ x y. T (q y) → T (q x)) xs → drop_while q xs ≡ filter (λ x. not (q x)) xs
  unfolding filter drop_while
  rests q [] a = refl
  rests q (x ∷ xs) a =
      by_test (q x) (λ h. rw h (rests q xs a.1))
      (λ h. rw h (ap (x ∷◌) (sym (filter_all (λ y. not (q y)) xs (all_mono (λ y f. ap not (off_t (q y) (λ t. no_t h (f t)))) xs a.0)))))

  pub while_join : (q : A → Bool) (xs : List A) → take_while q xs ++ drop_while q xs ≡ xs
  unfolding take_while drop_while
  while_join q [] = refl
  while_join q (x ∷ xs) = by_test (q x) (λ h. rw h (ap (x ∷◌) (while_join q xs))) (λ h. rw h)

  -- SOME
  pub some_none : (xs : List A) → some xs ≡ false → xs ≡ []
  unfolding some
  some_none [] h = refl
  some_none (x ∷ xs) h = absurd (true≢false h)

  pub none_some : (xs : List A) → xs ≡ [] → some xs ≡ false
  unfolding some
  none_some xs h = rw h

  -- tests of every element
  pub all_test_append : (p : A → Bool) (xs ys : List A) → all p (xs ++ ys) ≡ (all p xs && all p ys)
  unfolding all
  all_test_append p [] ys = refl
  all_test_append p (x ∷ xs) ys = rw (all_test_append p xs ys) (sym (and_assoc (p x) (all p xs) (all p ys)))

module _ {A B : Type 0} where
  pub flat_append : (f : A → List B) (xs ys : List A) → flat_map f (xs ++ ys) ≡ flat_map f xs ++ flat_map f ys
  unfolding flat_map
  flat_append f [] ys = refl
  flat_append f (x ∷ xs) ys = ap (λ l. f x ++ l) (flat_append f xs ys) ∙ sym (append_assoc (f x) (flat_map f xs) (flat_map f ys))

  pub flat_same : (f g : A → List B) (xs : List A) → All (λ x. f x ≡ g x) xs → flat_map f xs ≡ flat_map g xs
  unfolding flat_map
  flat_same f g [] h = refl
  flat_same f g (x ∷ xs) h = ap₂ ◌++◌ h.0 (flat_same f g xs h.1)

  pub map_append : (f : A → B) (xs ys : List A) → map f (xs ++ ys) ≡ map f xs ++ map f ys
  map_append f [] ys = refl
  map_append f (x ∷ xs) ys = ap (f x ∷◌) (map_append f xs ys)

  -- a filter of what a map gives
  pub filter_map : (f : A → B) (p : B → Bool) (xs : List A) → filter p (map f xs) ≡ map f (filter (λ x. p (f x)) xs)
  unfolding filter
  filter_map f p [] = refl
  filter_map f p (x ∷ xs) = by_test (p (f x)) (λ h. rw h (ap (f x ∷◌) (filter_map f p xs))) (λ h. rw h (filter_map f p xs))

  pub filter_flat : (f : A → List B) (p : B → Bool) (xs : List A) → filter p (flat_map f xs) ≡ flat_map (λ x. filter p (f x)) xs
  unfolding flat_map filter
  filter_flat f p [] = refl
  filter_flat f p (x ∷ xs) = filter_append p (f x) (flat_map f xs) ∙ ap (λ l. filter p (f x) ++ l) (filter_flat f p xs)

  pub all_map : (P : B → Type 0) (f : A → B) (xs : List A) → All (λ x. P (f x)) xs → All P (map f xs)
  all_map P f [] h = tt
  all_map P f (x ∷ xs) h = (h.0, all_map P f xs h.1)

  pub all_flat : (P : B → Type 0) (f : A → List B) (xs : List A) → All (λ x. All P (f x)) xs → All P (flat_map f xs)
  unfolding flat_map
  all_flat P f [] h = tt
  all_flat P f (x ∷ xs) h = all_append P (f x) (flat_map f xs) h.0 (all_flat P f xs h.1)

  -- at most one for each
  pub flat_few : (f : A → List B) → ((x : A) → length (f x) ≤ 1) → (xs : List A) → length (flat_map f xs) ≤ length xs
  unfolding flat_map
  flat_few f h [] = omega arith
  flat_few f h (x ∷ xs) = omega (arith, h x, flat_few f h xs, length-append (f x) (flat_map f xs))

pub first_no_lem : (b : Bool) (n : ℕ) (ts : List (Bool × ℕ)) → b ≡ false → first_no ((b, n) ∷ ts) ≡ first_no ts
unfolding first_no
first_no_lem b n ts h = rw h

module _ {A : Type 0} where
  -- what passes and what does not are the whole
  pub length_parts : (p : A → Bool) (xs : List A) → length (filter p xs) + length (filter (λ x. not (p x)) xs) ≡ length xs
  unfolding filter
  length_parts p [] = refl
  length_parts p (x ∷ xs) = by_test (p x) (λ e. rw e (omega (arith, length_parts p xs))) (λ e. rw e (omega (arith, length_parts p xs)))

  -- a fact of every element holds of the last
  pub all_end : (P : A → Type 0) (x : A) (xs : List A) → All P (x ∷ xs) → P (last_or x xs)
  all_end P x xs h = all_last P x xs h.0 h.1

  pub last_append : (d : A) (us : List A) (x : A) (xs : List A) → last_or d (us ++ x ∷ xs) ≡ last_or x xs
  unfolding last_or
  last_append d [] x xs = refl
  last_append d (u ∷ us) x xs = last_append u us x xs

  -- all but the last, and the last
  pub last_split : (x : A) (xs : List A) → (us : List A) × (x ∷ xs ≡ us ++ last_or x xs ∷ [])
  unfolding last_or
  last_split x [] = ([], refl)
  last_split x (y ∷ ys) = let r = last_split y ys in (x ∷ r.0, ap (x ∷◌) r.1)

  pub pairs_two : {Q R S : A → A → Type 0} → ((x y : A) → Q x y → R x y → S x y) → (xs : List A) → Pairs Q xs → Pairs R xs → Pairs S xs
  pairs_two f [] h k = tt
  pairs_two f (x ∷ xs) h k = (all_two (λ y q r. f x y q r) xs h.0 k.0, pairs_two f xs h.1 k.1)
