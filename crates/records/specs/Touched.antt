-- What a change of stab records leaves as it was, and which records it takes or gives back.
-- Assumes nothing.
use Rattle.std.specs.Prelude.{ℕ, ◌+◌, ◌≤◌, ◌≡◌, true, false, cond, List, length}
use Rattle.words.specs.Lists.{All, count}
use Rattle.pages.specs.Layout.{root_of, height_of, shares_of, page_of, record_of, record_used, page_count, record_count}
use Rattle.holding.specs.Held.{Chain}

-- w' is w but for the records at the places qs
pub record Touched (w w' : List ℕ) (qs : List ℕ) : Type 0 where
  pub long : length w' ≡ length w
  pub root : root_of w' ≡ root_of w
  pub height : height_of w' ≡ height_of w
  pub shares : shares_of w' ≡ shares_of w
  pub pages : (p : ℕ) → p ≤ page_count → page_of w' p ≡ page_of w p
  pub records : (q : ℕ) → 1 ≤ q → count q qs ≡ 0 → record_of w' q ≡ record_of w q

-- 1 for a record in use, 0 for a free one
abbrev pub in_use : List ℕ → ℕ → ℕ
in_use w q = cond (record_used w q) 1 0

-- the records at the places `taken` were free and are in use, those at `freed` were in use and are free, all others are as they were
pub record Uses (w w' : List ℕ) (taken freed : List ℕ) : Type 0 where
  pub counts : (q : ℕ) → 1 ≤ q → q ≤ record_count → in_use w' q + count q freed ≡ in_use w q + count q taken

abbrev pub AllUsed : List ℕ → List ℕ → Type 0
AllUsed w qs = All (λ q. record_used w q ≡ true) qs

-- some record is free
pub record Room (w : List ℕ) : Type 0 where
  pub place : ℕ
  pub low : 1 ≤ place
  pub high : place ≤ record_count
  pub free : record_used w place ≡ false

-- the list from place q on comes to an end
pub record Ends (w : List ℕ) (q : ℕ) : Type 0 where
  pub places : List ℕ
  pub chain : Chain w q places
