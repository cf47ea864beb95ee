-- A turn and each way out of the loops along a list of records and over a page's keys.
-- Assumes nothing.
use Prim.Native.Nat.{ℕ, suc, ◌+◌, ◌-◌, ◌*◌, ◌≤◌, ◌<◌}
use mathlib.Core.Path.{◌≡◌}
use mathlib.Core.Bool.{Bool, true, false}
use mathlib.Core.List.{List, [], ◌∷◌}
use lib.ListN.{get_or}
use native.Mathlib.Omega.{arith}
use native.Mathlib.Numerals.{add-one}
use Rattle.regions.specs.Positions.{spans, holds}
use Rattle.regions.specs.declared.Region.{Region}
use Rattle.regions.specs.declared.Choice.{Choice}
use Rattle.pages.specs.Layout.{page_of, fill_of, record_of, record_next, region_in, key_word}
use Rattle.xrtree.specs.Search.{run, cost}
use Rattle.tally.specs.declared.Task.{Task}
use Rattle.tally.specs.declared.Tally.{Tally}
use Rattle.tally.specs.Tallies.{Tallied, stepped}
use Rattle.tally.proofs.Tallies.{Leads, leads_all, tallied_none, tallied_step, tallied_then, leads_on, leads_last, leads_done}
use Rattle.meets.specs.PageMet.{held_from, looked_from, key_in, lists_from, lists_looked_from, lists_met, lists_looked}
use Rattle.meets.proofs.PageMet.{records_few, held_ended, looked_ended, held_stop, looked_stop, held_more, looked_more, held_none, looked_none, run_beside, run_list, cost_beside, cost_list, run_few, cost_few, lists_none, lists_looked_none, lists_last, lists_looked_last, lists_more, lists_looked_more}

-- A LIST: n records were looked at, and q is the next
abbrev pub Walking : Task → List ℕ → Tally → List ℕ → Choice → ℕ → ℕ → List ℕ → Tally → ℕ → ℕ → Type 0
Walking task out₀ t₀ w ch p head out t q n =
    Leads task out₀ t₀ (held_from w ch p 501 head) (looked_from w ch p 501 head) out t (held_from w ch p (501 - n) q) (looked_from w ch p (501 - n) q) n

module _ {task : Task} {out₀ : List ℕ} {t₀ : Tally} (w : List ℕ) (ch : Choice) (p head : ℕ) {out : List ℕ} {t : Tally} (q n : ℕ) (l : Walking task out₀ t₀ w ch p head out t q n) where
  abbrev pub Walked : List ℕ → Tally → Type 0
  Walked out' t' = Tallied task out₀ t₀ (held_from w ch p 501 head) (looked_from w ch p 501 head) out' t'

  pub walk_ended : q ≡ 0 → Walked out t
  walk_ended e = leads_done l (held_ended ch p w (501 - n) q e) (looked_ended ch p w (501 - n) q e)

  pub walk_full : 501 ≤ n → Walked out t
  walk_full h = let e : 501 - n ≡ 0 = omega arith in leads_done l (held_none ch p w (501 - n) q e) (looked_none ch p w (501 - n) q e)

  module _ (a : Region) (t₁ : Tally) (h : n < 501) (e : q ≡ 0 → ⊥) (f : a ≡ region_in (record_of w q) 0) (s : t₁ ≡ stepped t) where
    pub walk_stop : holds ch p a ≡ false → Walked out t₁
    walk_stop g =
        let m : 501 - n ≡ suc (501 - (n + 1)) = omega arith in
        leads_last l (tallied_step s) (held_stop ch p w (501 - n) (501 - (n + 1)) q a e m f g) (looked_stop ch p w (501 - n) (501 - (n + 1)) q a e m f g)

    pub walk_on : (out₂ : List ℕ) (t₂ : Tally) (q₂ : ℕ) → holds ch p a ≡ true → Tallied task out t₁ (a ∷ []) 0 out₂ t₂ → q₂ ≡ record_next (record_of w q)
        → Walking task out₀ t₀ w ch p head out₂ t₂ q₂ (n + 1)
    walk_on out₂ t₂ q₂ g v d =
        let m : 501 - n ≡ suc (501 - (n + 1)) = omega arith in
        rw d
        (leads_on l (tallied_then (tallied_step s) v) (held_more ch p w (501 - n) (501 - (n + 1)) q a e m f g) (looked_more ch p w (501 - n) (501 - (n + 1)) q a e m f g)
        (omega arith) (omega arith))

-- A KEY: its stored pair does not hold p, or it does
abbrev pub KeyMet : Task → List ℕ → Tally → List ℕ → ℕ → ℕ → Choice → ℕ → List ℕ → Tally → Type 0
KeyMet task out t w page i ch p out' t' = Tallied task out t (run ch p (key_in w page i)) (cost ch p (key_in w page i)) out' t'

module _ (w : List ℕ) (page i : ℕ) (ch : Choice) (p s u : ℕ) (d : s ≡ get_or (page_of w page) (key_word i + 1) 0) (e : u ≡ get_or (page_of w page) (key_word i + 2) 0) where
  -- the stored pair, as it is read
  read : (b : Bool) → spans ch p s u ≡ b → spans ch p (key_in w page i).pair_start (key_in w page i).pair_end ≡ b
  read b h = rw (← d, ← e) h

  pub key_beside : {task : Task} {out : List ℕ} {t : Tally} → spans ch p s u ≡ false → KeyMet task out t w page i ch p out t
  key_beside h = rw (run_beside ch p (key_in w page i) (read false h), cost_beside ch p (key_in w page i) (read false h)) tallied_none

  pub key_walked : {task : Task} {out : List ℕ} {t : Tally} (head : ℕ) (out' : List ℕ) (t' : Tally) → head ≡ get_or (page_of w page) (key_word i + 3) 0 → spans ch p s u ≡ true
      → Tallied task out t (held_from w ch p 501 head) (looked_from w ch p 501 head) out' t' → KeyMet task out t w page i ch p out' t'
  key_walked head out' t' f h r = rw (run_list ch p (key_in w page i) (read true h), cost_list ch p (key_in w page i) (read true h), ← f) r

-- THE KEYS OF A PAGE: n of them, key i comes next
abbrev pub Paging : Task → List ℕ → Tally → List ℕ → ℕ → Choice → ℕ → List ℕ → Tally → ℕ → ℕ → Type 0
Paging task out₀ t₀ w page ch p out t n i =
    Leads task out₀ t₀ (lists_met w ch p page) (lists_looked w ch p page) out t (lists_from w ch p (page_of w page) i (n - i)) (lists_looked_from w ch p (page_of w page) i (n - i)) (501 * i)

pub page_start : {task : Task} {out : List ℕ} {t : Tally} (w : List ℕ) (page : ℕ) (ch : Choice) (p n : ℕ) → n ≡ fill_of (page_of w page) → Paging task out t w page ch p out t n 0
page_start w page ch p n e = let f : n - 0 ≡ fill_of (page_of w page) = omega arith in rw f leads_all

module _ {task : Task} {out₀ : List ℕ} {t₀ : Tally} (w : List ℕ) (page : ℕ) (ch : Choice) (p : ℕ) {out : List ℕ} {t : Tally} (n i : ℕ) (l : Paging task out₀ t₀ w page ch p out t n i) where
  abbrev pub Paged : List ℕ → Tally → Type 0
  Paged out' t' = Tallied task out₀ t₀ (lists_met w ch p page) (lists_looked w ch p page) out' t'

  pub page_done : n ≤ i → Paged out t
  page_done h =
      let e : n - i ≡ 0 = omega arith in
      leads_done l (lists_none w ch p (page_of w page) i (n - i) e) (lists_looked_none w ch p (page_of w page) i (n - i) e)

  module _ (out₁ : List ℕ) (t₁ : Tally) (k : ℕ) (h : i < n) (e : k ≡ get_or (page_of w page) (key_word i) 0)
      (r : KeyMet task out t w page i ch p out₁ t₁) where
    pub page_last : p < k → Paged out₁ t₁
    page_last g =
        let m : n - i ≡ suc (n - suc i) = omega arith in
        let d : p < get_or (page_of w page) (key_word i) 0 = omega arith in
        leads_last l r (lists_last w ch p (page_of w page) i (n - i) (n - suc i) m d) (lists_looked_last w ch p (page_of w page) i (n - i) (n - suc i) m d)

    pub page_on : k ≤ p → Paging task out₀ t₀ w page ch p out₁ t₁ n (i + 1)
    page_on g =
        let m : n - i ≡ suc (n - suc i) = omega arith in
        let d : get_or (page_of w page) (key_word i) 0 ≤ p = omega arith in
        let b = records_few w 501 (get_or (page_of w page) (key_word i + 3) 0) in
        leads_on l r
        (rw (add-one i) (lists_more w ch p (page_of w page) i (n - i) (n - suc i) m d))
        (rw (add-one i) (lists_looked_more w ch p (page_of w page) i (n - i) (n - suc i) m d))
        (omega (arith, run_few ch p (key_in w page i))) (omega (arith, cost_few ch p (key_in w page i)))
