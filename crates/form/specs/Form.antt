-- Document 01, "The listing and its program": which text is a listing, of which two sets, and where any other text is first refused.
-- A text is its lines; a section is a count and that many lines; a set is a section of shares and one of regions; a listing is two sets and nothing more.
-- Assumes nothing.
use Rattle.std.specs.Prelude.{ℕ, zero, suc, ◌-◌, not, cond, List, [], ◌∷◌, ltb, eqb, length, get_or, set, replicate}
use Rattle.words.specs.Lists.{some, first_no}
use Rattle.regions.specs.Limits.{account_count, last_account, most_regions}
use Rattle.regions.specs.Positions.{account}
use Rattle.regions.specs.Sets.{Set, empty_set, saved}
use Rattle.regions.specs.Numbers.{unless, ACCOUNT, FORM}
use Rattle.regions.specs.Calls.{open_set_no, save_no}
use Rattle.regions.specs.declared.Region.{Region}
use Rattle.lines.specs.Text.{lines_of, first_of, rest_of, numbers_of, is_line}

-- what reading comes to: a refusal's number and line, or what was read
pub data Reading (X : Type 0) : Type 0 where
  refused : ℕ → ℕ → Reading X
  read : X → Reading X

-- read one thing, then another that may depend on it; the first refusal ends it
unfoldable pub and_then : {X Y : Type 0} → Reading X → (X → Reading Y) → Reading Y
and_then (refused number at) f = refused number at
and_then (read x) f = f x

-- where reading stands: the next line's number, from 1, and the lines from there on. A missing line is empty, and so in no form
pub record Place : Type 0 where
  pub at : ℕ
  pub left : List (List ℕ)

abbrev pub line_at : Place → List ℕ
line_at p = first_of p.left

abbrev pub onward : Place → Place
onward p = record { at = suc p.at; left = rest_of p.left }

-- a line's i-th number
abbrev pub number_at : ℕ → List ℕ → ℕ
number_at i l = get_or (numbers_of l) i 0

-- A SECTION: a count of at most so many, and then that many lines. Each is tested with what the lines before it made of x, and makes something more of it
unfoldable pub count_no : ℕ → List ℕ → ℕ
count_no most l = first_no ((not (is_line 1 l), FORM) ∷ (ltb most (number_at 0 l), FORM) ∷ [])

module _ {X : Type 0} (number : X → List ℕ → ℕ) (made : X → List ℕ → X) where
  unfoldable pub items : ℕ → X → Place → Reading (X × Place)
  items zero x p = read (x, p)
  items (suc n) x p = unless (number x (line_at p)) (items n (made x (line_at p)) (onward p)) (refused (number x (line_at p)) p.at)

  unfoldable pub section : ℕ → X → Place → Reading (X × Place)
  section most x p = unless (count_no most (line_at p)) (items (number_at 0 (line_at p)) x (onward p)) (refused (count_no most (line_at p)) p.at)

-- SHARES: sixteen numbers, 0 until a line gives one, and the least account that the next line may have, since accounts ascend
pub record Shares : Type 0 where
  pub sixteen : List ℕ
  pub from : ℕ

abbrev pub no_shares : Shares
no_shares = record { sixteen = replicate account_count 0; from = 0 }

-- account and share: its form, which takes in that accounts ascend and no share is 0, before the account's range
unfoldable pub share_no : Shares → List ℕ → ℕ
share_no s l =
    first_no
    ((not (is_line 2 l), FORM) ∷
    (ltb (number_at 0 l) s.from, FORM) ∷
    (eqb (number_at 1 l) 0, FORM) ∷
    (ltb last_account (number_at 0 l), ACCOUNT) ∷
    [])

unfoldable pub shared : Shares → List ℕ → Shares
shared s l = record { sixteen = set s.sixteen (number_at 0 l) (number_at 1 l); from = suc (number_at 0 l) }

-- REGIONS: start, end, level, reference; each is saved in its start's account
abbrev pub region_at : List ℕ → Region
region_at l = record { start = number_at 0 l; end = number_at 1 l; level = number_at 2 l; reference = number_at 3 l }

unfoldable pub region_no : Set → List ℕ → ℕ
region_no S l = cond (is_line 4 l) (save_no S (account (region_at l).start) (region_at l)) FORM

unfoldable pub saved_line : Set → List ℕ → Set
saved_line S l = saved (region_at l) S

-- A SET: its shares, refused at their section's last line where they sum to more than 500; then its regions
unfoldable pub regions_at : Shares × Place → Reading (Set × Place)
regions_at t = unless (open_set_no t.0.sixteen) (section region_no saved_line most_regions (empty_set t.0.sixteen) t.1) (refused (open_set_no t.0.sixteen) (t.1.at - 1))

unfoldable pub set_at : Place → Reading (Set × Place)
set_at p = and_then (section share_no shared account_count no_shares p) regions_at

-- A LISTING: outer, inner, and no line behind them
unfoldable pub ended : Set → Set × Place → Reading (Set × Set)
ended outer t = cond (some t.1.left) (refused FORM t.1.at) (read (outer, t.0))

unfoldable pub inner_at : Set × Place → Reading (Set × Set)
inner_at t = and_then (set_at t.1) (ended t.0)

abbrev pub most_bytes : ℕ
most_bytes = 65536

unfoldable pub listing_of : List ℕ → Reading (Set × Set)
listing_of text = cond (ltb most_bytes (length text)) (refused FORM 0) (and_then (set_at (record { at = 1; left = lines_of text })) inner_at)
