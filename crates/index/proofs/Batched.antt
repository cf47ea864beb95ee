-- A batch: its items one after the other, what they mean together, and the ways out of the call.
-- Assumes nothing.
use Prim.Native.Nat.{ℕ, suc, ◌+◌, ◌*◌, ◌%◌, ◌<◌, ◌≤◌}
use mathlib.Core.Path.{◌≡◌, refl, sym, ap, ap₂, ◌∙◌, subst}
use mathlib.Core.Bool.{true}
use mathlib.Core.List.{List, [], ◌∷◌, ◌++◌}
use lib.Dec.{T, eqb}
use lib.ListN.{length, get_or, set, drop}
use lib.Seq.{sets}
use native.Mathlib.Omega.{arith}
use native.Mathlib.Numerals.{add-one}
use Rattle.words.specs.Lists.{All}
use Rattle.words.proofs.Tests.{by_test, eq_of, ne_of, eq_yes, eq_no}
use Rattle.words.proofs.Written.{sets_append}
use Rattle.regions.specs.Limits.{item_width}
use Rattle.regions.specs.Numbers.{image_first, unless}
use Rattle.regions.specs.Sets.{Set}
use Rattle.regions.specs.Items.{Item, item, item_region, item_of, items_in, first_items, items_of, batch_no, item_no, behind, numbers_of, behind_all}
use Rattle.regions.specs.Items.Item.{save_item, delete_item, unknown_item}
use Rattle.regions.specs.declared.Region.{Region}
use Rattle.regions.proofs.Numbers.{own_number, number_own, image_right}
use Rattle.regions.proofs.Done.{done_batch}
use Rattle.regions.proofs.Items.{items_next, items_many, item_at, batch_form, batch_room}
use Rattle.image.specs.Read.{set_of}
use Rattle.image.specs.Valid.{valid}
use Rattle.changes.specs.Changed.{SavesIn, DeletesIn}
use Rattle.index.specs.Batches.{Single, Singly, AnswersFirst, Batches}
use Rattle.index.specs.Batches.Singly.{none, then}
use Rattle.index.proofs.Changed.{save_tested, delete_tested}

-- ONE ITEM on a valid image, by its first word
module _ (w : List ℕ) (k a : ℕ) (r : Region) (n : ℕ) (w' : List ℕ) where
  pub single_save : T (valid w) → k ≡ 0 → SavesIn w a r n w' → Single w (item k a r) n w'
  unfolding item
  single_save v e s = rw (eq_yes k 0 e) (save_tested w a r n w' v s)

  pub single_delete : T (valid w) → (k ≡ 0 → ⊥) → k ≡ 1 → DeletesIn w a r.start n w' → Single w (item k a r) n w'
  unfolding item
  single_delete v h e d = rw (eq_no k 0 h, eq_yes k 1 e) (delete_tested w a r.start n w' v d)

  pub single_neither : (k ≡ 0 → ⊥) → (k ≡ 1 → ⊥) → n ≡ 12 → w' ≡ w → Single w (item k a r) n w'
  unfolding item
  single_neither h l e f = rw (eq_no k 0 h, eq_no k 1 l) (e, f)

-- ONE MORE behind those answered
singly_more : {w v u : List ℕ} {is : List Item} {ns : List ℕ} (i : Item) (n : ℕ) → Singly w is ns v → Single v i n u → Singly w (is ++ i ∷ []) (ns ++ n ∷ []) u
singly_more i n none s = then s none
singly_more i n (then t m) s = then t (singly_more i n m s)

pub singly_many : {w u : List ℕ} {is : List Item} {ns : List ℕ} → Singly w is ns u → length ns ≡ length is
singly_many none = refl
singly_many (then t m) = ap suc (singly_many m)

module _ (w words places : List ℕ) where
  pub answers_none : AnswersFirst 0 w words places w places
  unfolding first_items
  answers_none = ([], none, refl)

  pub answers_more : (i : ℕ) (v out : List ℕ) (r : Region) (n : ℕ) (u : List ℕ) → AnswersFirst i w words places v out → r ≡ item_region (drop (item_width * i) words)
      → Single v (item (get_or words (item_width * i) 0) (get_or words (item_width * i + 1) 0) r) n u → AnswersFirst (i + 1) w words places u (set out i n)
  answers_more i v out r n u (ns, m, e) f s =
      let k : i ≡ 0 + length ns = omega (arith, singly_many m, items_many i words) in
      let t : Single v (item_of (drop (item_width * i) words)) n u = subst (λ j. Single v j n u) (item_at words (item_width * i) r f) s in (
        ns ++ n ∷ [],
        subst (λ is. Singly w is (ns ++ n ∷ []) u) (sym (ap (λ j. first_items j words) (add-one i) ∙ items_next i words)) (singly_more (item_of (drop (item_width * i) words)) n m t),
        ap (λ o. set o i n) e ∙ sets_append places 0 i ns (n ∷ []) k,
      )

  pub answers_all : (i : ℕ) (v out : List ℕ) → i ≤ items_in words → items_in words ≤ i → AnswersFirst i w words places v out → AnswersFirst (items_in words) w words places v out
  answers_all i v out h l a = subst (λ n. AnswersFirst n w words places v out) (omega arith) a

-- WHAT IT MEANS: each number is that of the call on the set which those before it left
changed : (w v : List ℕ) (m n : ℕ) (S : Set) → valid w ≡ true → m ≡ n → ((m ≡ 0 → ⊥) → v ≡ w) → (m ≡ 0 → (valid v ≡ true) × (set_of v ≡ S)) → (set_of v ≡ unless n S (set_of w)) × (valid v ≡ true)
changed w v m n S t e r d =
    by_test (eqb n 0)
    (λ z. let q = d (e ∙ eq_of n 0 z) in (rw z q.1, q.0))
    (λ z. let q = r (λ y. ne_of n 0 z (sym e ∙ y)) in (rw z (ap set_of q), ap valid q ∙ t))

single_means : (w : List ℕ) (i : Item) (n : ℕ) (v : List ℕ) → Single w i n v → valid w ≡ true → (n ≡ item_no i (set_of w)) × (set_of v ≡ behind i (set_of w)) × (valid v ≡ true)
unfolding item_no behind
single_means w (save_item a r) n v s t =
    let e = number_own (valid w) n _ t s.number_is in
    let c = changed w v n _ _ t e s.refused s.done in
    (e, c.0, c.1)
single_means w (delete_item a p) n v s t =
    let e = number_own (valid w) n _ t s.number_is in
    let c = changed w v n _ _ t e s.refused s.done in
    (e, c.0, c.1)
single_means w (unknown_item a k) n v s t = (s.0, ap set_of s.1, ap valid s.1 ∙ t)

pub singly_means : {w u : List ℕ} {is : List Item} {ns : List ℕ} → Singly w is ns u → valid w ≡ true → (ns ≡ numbers_of is (set_of w)) × (set_of u ≡ behind_all is (set_of w)) × (valid u ≡ true)
unfolding numbers_of behind_all
singly_means none t = (refl, refl, t)
singly_means {w = w} (then {v = v} {i = i} {is = is} {n = n} s m) t =
    let (e, f, t') = single_means w i n v s t in
    let (g, h, q) = singly_means m t' in
    (ap₂ ◌∷◌ e (g ∙ ap (numbers_of is) f), h ∙ ap (behind_all is) f, q)

-- where every item is refused no word changes
refused_stays : (w : List ℕ) (i : Item) (n : ℕ) (v : List ℕ) → Single w i n v → (n ≡ 0 → ⊥) → v ≡ w
refused_stays w (save_item a r) n v s h = s.refused h
refused_stays w (delete_item a p) n v s h = s.refused h
refused_stays w (unknown_item a k) n v s h = s.1

singly_refused : {w u : List ℕ} {is : List Item} {ns : List ℕ} → Singly w is ns u → All (λ n. n ≡ 0 → ⊥) ns → u ≡ w
singly_refused none h = refl
singly_refused {w = w} (then {v = v} {i = i} {n = n} s m) h = singly_refused m h.1 ∙ refused_stays w i n v s h.0

-- THE CALL'S WAYS OUT
module _ (w words places : List ℕ) where
  refused_by : (n : ℕ) → (n ≡ 0 → ⊥) → n ≡ image_first (valid w) (batch_no (length words) (length places)) → Batches w words places n w places
  refused_by n h e = record { number_is = e; refused = λ z. (refl, refl); done = λ z. absurd (h z) }

  module _ (v : valid w ≡ true) where
    pub form_refused : (length words % item_width ≡ 0 → ⊥) → Batches w words places 12 w places
    form_refused h = refused_by 12 (λ z. omega (arith, z)) (own_number (valid w) 12 _ v (batch_form (length words) (length places) h))

    pub room_refused : length words % item_width ≡ 0 → length places < items_in words → Batches w words places 13 w places
    room_refused e h = refused_by 13 (λ z. omega (arith, z)) (own_number (valid w) 13 _ v (batch_room (length words) (length places) e h))

    pub all_answered : (w' places' : List ℕ) → length words % item_width ≡ 0 → items_in words ≤ length places → AnswersFirst (items_in words) w words places w' places' → Batches w words places 0 w' places'
    all_answered w' places' e h a =
        record {
          number_is = own_number (valid w) 0 _ v (sym (done_batch (length words) (length places) (record { whole = e; room = h })));
          refused = λ z. absurd (z refl);
          done = λ z. a;
        }

-- A BATCH THAT IS DONE: its numbers and the set it leaves are those of the fold over its items
module _ (w words places w' places' : List ℕ) (b : Batches w words places 0 w' places') where
  pub batches_mean : (places' ≡ sets places 0 (numbers_of (items_of words) (set_of w))) × (set_of w' ≡ behind_all (items_of words) (set_of w)) × (valid w' ≡ true)
  batches_mean =
      let (ns, m, e) = b.done refl in
      let (g, h, q) = singly_means m (image_right (valid w) _ b.number_is) in
      (e ∙ ap (sets places 0) g, h, q)

  pub all_refused : All (λ n. n ≡ 0 → ⊥) (numbers_of (items_of words) (set_of w)) → w' ≡ w
  all_refused h =
      let (ns, m, e) = b.done refl in
      singly_refused m (subst (All (λ n. n ≡ 0 → ⊥)) (sym (singly_means m (image_right (valid w) _ b.number_is)).0) h)
