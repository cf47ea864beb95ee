-- Document 01: the numbers of the house, each by its name. (Refusals have theirs in Numbers, the words of an image in crate pages.)
-- Assumes nothing.
use Rattle.std.specs.Prelude.{ℕ, List, [], ◌∷◌}

-- accounts, from 0 to the last
abbrev pub account_count : ℕ
account_count = 16

abbrev pub last_account : ℕ
last_account = 15

-- the positions of a document, and of an account
abbrev pub document_positions : ℕ
document_positions = 65536

abbrev pub account_positions : ℕ
account_positions = 268435456

abbrev pub last_level : ℕ
last_level = 255

-- the regions around one position, at most: their levels rise inwards
abbrev pub most_around : ℕ
most_around = last_level

-- the regions of a set, at most: also what its shares may come to together
abbrev pub most_regions : ℕ
most_regions = 500

-- seats, from 0 to the last
abbrev pub seat_count : ℕ
seat_count = 8

abbrev pub last_seat : ℕ
last_seat = 7

-- the pairs a round of a seat that asks for limit 0
abbrev pub house_limit : ℕ
house_limit = 8

-- the most pairs a round that a seat may ask for, and may have stored
abbrev pub most_a_round : ℕ
most_a_round = 32

-- a region, a pair and an item of a batch in words; a seat's words of the round buffer, and all of its words
abbrev pub region_width : ℕ
region_width = 4

abbrev pub pair_width : ℕ
pair_width = 4

-- (change request C-14)
abbrev pub item_width : ℕ
item_width = 6

abbrev pub seat_width : ℕ
seat_width = 128

abbrev pub buffer_words : ℕ
buffer_words = 1024

abbrev pub accounts : List ℕ
accounts = 0 ∷ 1 ∷ 2 ∷ 3 ∷ 4 ∷ 5 ∷ 6 ∷ 7 ∷ 8 ∷ 9 ∷ 10 ∷ 11 ∷ 12 ∷ 13 ∷ 14 ∷ 15 ∷ []
