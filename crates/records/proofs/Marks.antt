-- Changes of records: which stay, which are taken or given back, one change after another; and rule 7 by counts.
-- Assumes nothing.
use Prim.Native.Nat.{ℕ, ◌+◌, ◌≤◌}
use mathlib.Core.Path.{◌≡◌, refl, sym, ap, ◌∙◌}
use mathlib.Core.Logic.{◌≢◌}
use mathlib.Core.Bool.{true, false, cond, true≢false}
use mathlib.Core.List.{List, [], ◌∷◌, ◌++◌}
use native.Mathlib.Omega.{arith}
use native.Mathlib.Decide.{ℕ_discrete}
use Rattle.words.specs.Lists.{All, count}
use Rattle.words.proofs.Counted.{one, count_same, count_other, count_none, count_append}
use Rattle.regions.specs.declared.Region.{Region}
use Rattle.pages.specs.Layout.{record_used}
use Rattle.store.specs.Store.{put_record, set_next, free_record, FirstFree}
use Rattle.store.proofs.Frames.{put_record_long, put_record_page, put_record_head, put_record_other, set_next_long, set_next_page, set_next_head, set_next_other, free_record_long, free_record_page, free_record_head, free_record_other}
use Rattle.store.proofs.Places.{all_counted, counted_has}
use Rattle.holding.specs.Held.{KeyHeld}
use Rattle.holding.proofs.Frames.{SameRecord}
use Rattle.xrtree.specs.Tree.{Key}
use Rattle.pages.specs.declared.KeyWords.{KeyWords}
use Rattle.records.specs.Touched.{Touched, Uses, AllUsed, Room, Ends}

pub none_in : (x : ℕ) → count x [] ≡ 0
unfolding count
none_in x = refl

-- WHAT STAYS
pub touched_none : (w : List ℕ) (qs : List ℕ) → Touched w w qs
touched_none w qs = record { long = refl; root = refl; height = refl; shares = refl; pages = λ p h. refl; records = λ q l z. refl }

pub touched_in : {w w' : List ℕ} {ps : List ℕ} → Touched w w' ps → (qs : List ℕ) → ((x : ℕ) → 1 ≤ x → count x qs ≡ 0 → count x ps ≡ 0) → Touched w w' qs
touched_in t qs f =
    record { long = t.long; root = t.root; height = t.height; shares = t.shares; pages = t.pages; records = λ q l z. t.records q l (f q l z) }

pub touched_then : {w w' w'' : List ℕ} {ps qs : List ℕ} → Touched w w' ps → Touched w' w'' qs → Touched w w'' (ps ++ qs)
touched_then {ps = ps} {qs = qs} t u =
    record {
      long = u.long ∙ t.long;
      root = u.root ∙ t.root;
      height = u.height ∙ t.height;
      shares = u.shares ∙ t.shares;
      pages = λ p h. u.pages p h ∙ t.pages p h;
      records = λ q l z. u.records q l (omega (arith, count_append q ps qs)) ∙ t.records q l (omega (arith, count_append q ps qs));
    }

-- every record of a list that shares no place with those that changed
pub touched_list : {w w' : List ℕ} {ps : List ℕ} → Touched w w' ps → (qs : List ℕ) → All (λ q. 1 ≤ q) qs → ((x : ℕ) → count x ps + count x qs ≤ 1) → All (SameRecord w w') qs
touched_list {w} {w'} {ps} t qs a f =
    all_counted (SameRecord w w') qs (λ x h. t.records x (counted_has (λ q. 1 ≤ q) x qs a h) (omega (arith, f x)))

module _ (w : List ℕ) (q : ℕ) where
  pub touched_put : (r : Region) (n : ℕ) → Touched w (put_record w q r n) (q ∷ [])
  touched_put r n =
      let h = put_record_head w q r n in
      record {
        long = put_record_long w q r n;
        root = h.root;
        height = h.height;
        shares = h.shares;
        pages = put_record_page w q r n;
        records = λ p l z. put_record_other w q r n p (count_none p q [] z).0;
      }

  pub touched_next : (n : ℕ) → Touched w (set_next w q n) (q ∷ [])
  touched_next n =
      let h = set_next_head w q n in
      record {
        long = set_next_long w q n;
        root = h.root;
        height = h.height;
        shares = h.shares;
        pages = set_next_page w q n;
        records = λ p l z. set_next_other w q n p (count_none p q [] z).0;
      }

  pub touched_free : Touched w (free_record w q) (q ∷ [])
  touched_free =
      let h = free_record_head w q in
      record {
        long = free_record_long w q;
        root = h.root;
        height = h.height;
        shares = h.shares;
        pages = free_record_page w q;
        records = λ p l z. free_record_other w q p (count_none p q [] z).0;
      }

-- WHAT IS IN USE
pub uses_same : {w w' : List ℕ} → ((q : ℕ) → record_used w' q ≡ record_used w q) → Uses w w' [] []
uses_same f = record { counts = λ q l u. ap (λ b. cond b 1 0 + count q []) (f q) }

pub uses_then : {w w' w'' : List ℕ} {ps qs ms ns : List ℕ} → Uses w w' ps qs → Uses w' w'' ms ns → Uses w w'' (ps ++ ms) (qs ++ ns)
uses_then {ps = ps} {qs = qs} {ms = ms} {ns = ns} s t =
    record { counts = λ q l u. omega (arith, s.counts q l u, t.counts q l u, count_append q ps ms, count_append q qs ns) }

pub uses_taken : {w w' : List ℕ} {q : ℕ} → record_used w q ≡ false → record_used w' q ≡ true → ((p : ℕ) → q ≢ p → record_used w' p ≡ record_used w p) → Uses w w' (q ∷ []) []
uses_taken {w} {w'} {q} a b f =
    record {
      counts = λ p l u.
          elim (ℕ_discrete p q) [
            | yes e ↦ rw e (omega (arith, ap one a, ap one b, count_same q [], none_in q))
            | no n ↦ omega (arith, ap one (f p (λ z. n (sym z))), count_other p q [] n, none_in p)
          ];
    }

pub uses_freed : {w w' : List ℕ} {q : ℕ} → record_used w q ≡ true → record_used w' q ≡ false → ((p : ℕ) → q ≢ p → record_used w' p ≡ record_used w p) → Uses w w' [] (q ∷ [])
uses_freed {w} {w'} {q} a b f =
    record {
      counts = λ p l u.
          elim (ℕ_discrete p q) [
            | yes e ↦ rw e (omega (arith, ap one a, ap one b, count_same q [], none_in q))
            | no n ↦ omega (arith, ap one (f p (λ z. n (sym z))), count_other p q [] n, none_in p)
          ];
    }

-- a free record stands in no list whose records are in use
pub free_off : (w : List ℕ) (q : ℕ) (qs : List ℕ) → record_used w q ≡ false → AllUsed w qs → count q qs ≡ 0
free_off w q qs f a =
    elim (ℕ_discrete (count q qs) 0) [
      | yes e ↦ e
      | no n ↦ absurd (true≢false (sym (counted_has (λ p. record_used w p ≡ true) q qs a (omega arith)) ∙ f))
    ]

-- the first free record is there, where one is free
pub room_first : (w : List ℕ) (q : ℕ) → Room w → FirstFree (record_used w) 500 q → (1 ≤ q) × (q ≤ 500) × (record_used w q ≡ false)
room_first w q r f =
    let n : q ≢ 0 = λ e. true≢false (sym (f.none e r.place r.high r.low) ∙ r.free) in
    let l : 1 ≤ q = omega arith in
    (l, f.high, f.free l)

-- a key's list ends
pub held_ends : (w : List ℕ) (x : KeyWords) (k : Key) → KeyHeld w x k → Ends w x.head
held_ends w x k h = record { places = k.places; chain = h.chain }
