-- Entries of a leaf that come into a key's list, one by one from the last to the first.
-- Assumes nothing.
use Prim.Native.Nat.{ℕ, zero, suc, ◌+◌, ◌-◌, ◌≤◌, ◌<◌}
use mathlib.Core.Path.{◌≡◌, refl, sym, ap, ◌∙◌, subst}
use mathlib.Core.Bool.{Bool, true, false, cond, ◌&&◌}
use mathlib.Core.List.{List, [], ◌∷◌, map}
use lib.Dec.{eqb}
use lib.ListN.{length}
use native.Mathlib.Omega.{arith}
use Rattle.words.specs.Lists.{All, count, filter}
use Rattle.words.proofs.Tests.{by_test, eq_of, ne_of, eq_yes}
use Rattle.words.proofs.Counted.{count_append, sum_add, sum_same, sum_count, pigeon}
use Rattle.words.proofs.Listed.{filter_yes, filter_no}
use Rattle.regions.specs.Positions.{stabs}
use Rattle.regions.specs.declared.Region.{Region}
use Rattle.xrtree.specs.Tree.{Entry, Key, region_of}
use Rattle.xrtree.specs.Moves.{key_with, first_start, first_end, fresh}
use Rattle.pages.specs.Layout.{record_used}
use Rattle.pages.specs.declared.KeyWords.{KeyWords}
use Rattle.image.specs.Read.{entry_at, entries_from, record_region}
use Rattle.holding.specs.Held.{KeyHeld}
use Rattle.holding.specs.Held.Chain.{done}
use Rattle.records.specs.Touched.{in_use, Uses, AllUsed, Room}
use Rattle.records.specs.Kept.{Came, pushed_key}
use Rattle.records.proofs.Marks.{none_in, touched_none, touched_in, touched_then, uses_same, uses_then}
use Rattle.standing.proofs.Counting.{all_counted, counted_all}
use Rattle.newkey.specs.Moves.{fresh_at, Gathered, used_records}

-- a map keeps the length
pub map_long : {A B : Type 0} (f : A → B) (xs : List A) → length (map f xs) ≡ length xs
map_long f [] = refl
map_long f (x ∷ xs) = ap suc (map_long f xs)

-- ENTRIES of a leaf's words
pub from_step : (ws : List ℕ) (j n : ℕ) → 1 ≤ j → j ≤ n → entries_from ws (j - 1) (n - (j - 1)) ≡ entry_at ws (j - 1) ∷ entries_from ws j (n - j)
unfolding entries_from
from_step ws j n a b =
    let e : n - (j - 1) ≡ suc (n - j) = omega arith in
    let f : suc (j - 1) ≡ j = omega arith in
    rw e (ap (λ i. entry_at ws (j - 1) ∷ entries_from ws i (n - j)) f)

pub entries_all : (P : Entry → Type 0) (ws : List ℕ) (i m j : ℕ) → All P (entries_from ws i m) → i ≤ j → j < i + m → P (entry_at ws j)
unfolding entries_from
entries_all P ws i zero j a l u = absurd (omega arith)
entries_all P ws i (suc m) j a l u =
    by_test (eqb i j) (λ e. subst (λ z. P (entry_at ws z)) (eq_of i j e) a.0)
    (λ e. let n : (i ≡ j → ⊥) = ne_of i j e in entries_all P ws (suc i) m j a.1 (omega arith) (omega arith))

-- FRESH, entry by entry
pub fresh_yes : (k : ℕ) (e : Entry) (es : List Entry) → fresh_at k e ≡ true → fresh k (e ∷ es) ≡ e.region ∷ fresh k es
unfolding fresh fresh_at
fresh_yes k e es h = ap (map region_of) (filter_yes (λ (e : Entry). eqb e.flag 0 && stabs k e.region) e es h)

pub fresh_no : (k : ℕ) (e : Entry) (es : List Entry) → fresh_at k e ≡ false → fresh k (e ∷ es) ≡ fresh k es
unfolding fresh fresh_at
fresh_no k e es h = ap (map region_of) (filter_no (λ (e : Entry). eqb e.flag 0 && stabs k e.region) e es h)

pub fresh_more : (k : ℕ) (e : Entry) (es : List Entry) → length (fresh k es) ≤ length (fresh k (e ∷ es))
fresh_more k e es = by_test (fresh_at k e) (λ h. omega (arith, ap length (fresh_yes k e es h))) (λ h. omega (arith, ap length (fresh_no k e es h)))

pub fresh_rest : (k : ℕ) (ws : List ℕ) (j m : ℕ) → length (fresh k (entries_from ws j m)) ≤ length (fresh k (entries_from ws 0 (j + m)))
fresh_rest k ws zero m = let e : 0 + m ≡ m = omega arith in rw e (omega arith)
fresh_rest k ws (suc j) m =
    let e : suc j + m ≡ j + suc m = omega arith in
    rw e (omega (arith, fresh_rest k ws j (suc m), more))
  where
    more : length (fresh k (entries_from ws (suc j) m)) ≤ length (fresh k (entries_from ws j (suc m)))
    more = unfold entries_from in fresh_more k (entry_at ws j) (entries_from ws (suc j) m)

-- RECORDS IN USE, in all
pub uses_sum : {w w' : List ℕ} {ps : List ℕ} → Uses w w' ps [] → All (λ q. (1 ≤ q) × (q ≤ 500)) ps → used_records w' ≡ used_records w + length ps
uses_sum {w} {w'} {ps} u a =
    sum_same (in_use w') (λ i. in_use w i + count i ps) 500 (λ i l h. omega (arith, u.counts i l h, none_in i))
    ∙ sum_add (in_use w) (λ i. count i ps) 500
    ∙ ap (λ n. used_records w + n) (sum_count ps 500 a)

pub room_of : (w : List ℕ) → used_records w < 500 → Room w
room_of w h =
    let z = pigeon (in_use w) 500 h in
    record { place = z.0; low = z.1; high = z.2; free = by_test (record_used w z.0) (λ t. absurd (omega (arith, z.3, ap (λ b. cond {A = ℕ} b 1 0) t))) (λ f. f) }

-- THE WALK
pub gather_start : (w : List ℕ) (k : ℕ) → Gathered w w k [] (record { key = k; start = 0; end = 0; head = 0 })
unfolding fresh filter first_start first_end
gather_start w k =
    record {
      places = [];
      range = tt;
      touched = touched_none w [];
      uses = uses_same (λ q. refl);
      held = record { key_is = refl; start_is = refl; end_is = refl; chain = done; list_is = refl };
    }

module _ {w₀ w : List ℕ} {k : ℕ} {es : List Entry} {t : KeyWords} (g : Gathered w₀ w k es t) where
  pub gathered_long : length g.places ≡ length (fresh k es)
  gathered_long = sym (ap length g.held.list_is ∙ map_long (record_region w) g.places)

  pub gathered_used : AllUsed w g.places
  gathered_used =
      all_counted (λ q. record_used w q ≡ true) g.places
      (λ q h.
      let r = counted_all (λ q. (1 ≤ q) × (q ≤ 500)) g.places g.range q h in
      by_test (record_used w q) (λ t. t) (λ f. absurd (omega (arith, g.uses.counts q r.0 r.1, none_in q, ap (λ b. cond {A = ℕ} b 1 0) f))))

  pub gathered_room : used_records w₀ + length (fresh k es) < 500 → Room w
  gathered_room h = room_of w (omega (arith, uses_sum g.uses g.range, gathered_long))

  pub gather_no : (e : Entry) → fresh_at k e ≡ false → Gathered w₀ w k (e ∷ es) t
  gather_no e h =
      record { places = g.places; range = g.range; touched = g.touched; uses = g.uses; held = subst (λ l. KeyHeld w t (key_with k g.places l)) (sym (fresh_no k e es h)) g.held }

  pub gather_yes : {w' : List ℕ} {t' : KeyWords} (e : Entry) → fresh_at k e ≡ true → Came w w' [] (pushed_key (key_with k g.places (fresh k es)) e.region) t' → Gathered w₀ w' k (e ∷ es) t'
  unfolding count
  gather_yes {w'} {t'} e h p =
      record {
        places = p.place ∷ g.places;
        range = ((p.low, p.high), g.range);
        touched = touched_in (touched_then g.touched p.touched) (p.place ∷ g.places) (λ x l z. omega (arith, count_append x g.places (p.place ∷ [])));
        uses = record { counts = λ q l u. omega (arith, (uses_then g.uses p.uses).counts q l u, count_append q g.places (p.place ∷ [])) };
        held = subst (λ l. KeyHeld w' t' (key_with k (p.place ∷ g.places) l)) (sym (fresh_yes k e es h)) p.held;
      }

-- an entry with flag 0
pub fresh_flag : (k : ℕ) (e : Entry) (b : Bool) (r : Region) → e.flag ≡ 0 → r ≡ e.region → b ≡ stabs k r → b ≡ fresh_at k e
unfolding fresh_at
fresh_flag k e b r z f g = g ∙ ap (stabs k) f ∙ sym (ap (λ t. t && stabs k e.region) (eq_yes e.flag 0 z))

-- THE TURNS of the code's loop
pub gather_begin : (w leaf : List ℕ) (n k : ℕ) → Gathered w w k (entries_from leaf n (n - n)) (record { key = k; start = 0; end = 0; head = 0 })
unfolding entries_from
gather_begin w leaf n k = let e : n - n ≡ 0 = omega arith in rw e (gather_start w k)

module _ {w₀ w : List ℕ} {k : ℕ} {t : KeyWords} (leaf : List ℕ) (n j : ℕ) (low : 1 ≤ j) (high : j ≤ n) (g : Gathered w₀ w k (entries_from leaf j (n - j)) t) where
  pub gather_pass : fresh_at k (entry_at leaf (j - 1)) ≡ false → Gathered w₀ w k (entries_from leaf (j - 1) (n - (j - 1))) t
  gather_pass h = subst (λ es. Gathered w₀ w k es t) (sym (from_step leaf j n low high)) (gather_no g (entry_at leaf (j - 1)) h)

  pub gather_take : {w' : List ℕ} {t' : KeyWords} {r : Region} → fresh_at k (entry_at leaf (j - 1)) ≡ true → r ≡ (entry_at leaf (j - 1)).region
      → ((key : Key) → KeyHeld w t key → AllUsed w key.places → Came w w' [] (pushed_key key r) t') → Gathered w₀ w' k (entries_from leaf (j - 1) (n - (j - 1))) t'
  gather_take {w'} {t'} {r} h e f =
      subst (λ es. Gathered w₀ w' k es t') (sym (from_step leaf j n low high))
      (gather_yes g (entry_at leaf (j - 1)) h (subst (λ z. Came w w' [] (pushed_key (key_with k g.places (fresh k (entries_from leaf j (n - j)))) z) t') e (f (key_with k g.places (fresh k (entries_from leaf j (n - j)))) g.held (gathered_used g))))

  pub gather_free : fresh_at k (entry_at leaf (j - 1)) ≡ true → used_records w₀ + length (fresh k (entries_from leaf 0 n)) ≤ 500 → Room w
  gather_free h room =
      let e : j - 1 + (n - (j - 1)) ≡ n = omega arith in
      gathered_room g
      (omega (arith, room, rw e at (fresh_rest k leaf (j - 1) (n - (j - 1))), ap (λ es. length (fresh k es)) (from_step leaf j n low high), ap length (fresh_yes k (entry_at leaf (j - 1)) (entries_from leaf j (n - j)) h)))

pub gather_done : {w₀ w : List ℕ} {k : ℕ} {t : KeyWords} (leaf : List ℕ) (n j : ℕ) → j ≡ 0 → Gathered w₀ w k (entries_from leaf j (n - j)) t → Gathered w₀ w k (entries_from leaf 0 n) t
gather_done {w₀} {w} {k} {t} leaf n j z g =
    let e : n - 0 ≡ n = omega arith in
    subst (λ m. Gathered w₀ w k (entries_from leaf 0 m) t) e (subst (λ i. Gathered w₀ w k (entries_from leaf i (n - i)) t) z g)
