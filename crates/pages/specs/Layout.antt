-- Document 01, "A valid image": the word layout, as docs/LAYOUT.md has it: 12,288 words.
-- Assumes nothing.
use Rattle.std.specs.Prelude.{ℕ, ◌+◌, ◌*◌, Bool, not, List, eqb, get_or, take, drop}
use Rattle.regions.specs.Limits.{account_count}
use Rattle.regions.specs.declared.Region.{Region}

abbrev pub image_words : ℕ
image_words = 12288

-- HEADER: words 0 to 17 (words 18 to 56 mean nothing)
abbrev pub root_of : List ℕ → ℕ
root_of w = get_or w 0 0

abbrev pub height_of : List ℕ → ℕ
height_of w = get_or w 1 0

-- sixteen shares, an account's after the other
unfoldable pub shares_of : List ℕ → List ℕ
shares_of w = take account_count (drop 2 w)

-- PAGES: places 1 to 160, 57 words each; place p from word 57 p on. (Place 0, the header's, is "none")
abbrev pub page_count : ℕ
page_count = 160

abbrev pub page_width : ℕ
page_width = 57

abbrev pub page_word : ℕ → ℕ
page_word p = page_width * p

unfoldable pub page_of : List ℕ → ℕ → List ℕ
page_of w p = take page_width (drop (page_word p) w)

-- of the 57 words of a page: mark (0 for a free place), fill, next leaf; then entries, or keys and children
abbrev pub head_width : ℕ
head_width = 3

abbrev pub mark_of : List ℕ → ℕ
mark_of ws = get_or ws 0 0

abbrev pub fill_of : List ℕ → ℕ
fill_of ws = get_or ws 1 0

abbrev pub next_of : List ℕ → ℕ
next_of ws = get_or ws 2 0

-- of a leaf: entry i, six words (the sixth means nothing); room for nine
abbrev pub region_in : List ℕ → ℕ → Region
region_in ws b = record { start = get_or ws b 0; end = get_or ws (b + 1) 0; level = get_or ws (b + 2) 0; reference = get_or ws (b + 3) 0 }

abbrev pub entry_width : ℕ
entry_width = 6

abbrev pub entry_word : ℕ → ℕ
entry_word i = head_width + entry_width * i

abbrev pub flag_in : List ℕ → ℕ → ℕ
flag_in ws i = get_or ws (entry_word i + 4) 0

-- of an inner page: key i, four words (key, stored pair, head of its list), room for nine; child i, room for ten
abbrev pub key_width : ℕ
key_width = 4

abbrev pub key_word : ℕ → ℕ
key_word i = head_width + key_width * i

abbrev pub first_child : ℕ
first_child = 39

abbrev pub child_word : ℕ → ℕ
child_word i = first_child + i

abbrev pub child_in : List ℕ → ℕ → ℕ
child_in ws i = get_or ws (child_word i) 0

-- STAB RECORDS: places 1 to 500, six words each: the region's four, the next record (0 for none), one that means nothing; free where the end is 0
abbrev pub record_count : ℕ
record_count = 500

abbrev pub record_width : ℕ
record_width = 6

-- the words before record 0, which is "none": the header and the pages
abbrev pub record_base : ℕ
record_base = 9177

abbrev pub record_word : ℕ → ℕ
record_word q = record_base + record_width * q

unfoldable pub record_of : List ℕ → ℕ → List ℕ
record_of w q = take record_width (drop (record_word q) w)

abbrev pub record_next : List ℕ → ℕ
record_next rec = get_or rec 4 0

abbrev pub record_end : List ℕ → ℕ
record_end rec = get_or rec 1 0

-- a place in use
unfoldable pub page_used : List ℕ → ℕ → Bool
page_used w p = not (eqb (mark_of (page_of w p)) 0)

unfoldable pub record_used : List ℕ → ℕ → Bool
record_used w q = not (eqb (record_end (record_of w q)) 0)
