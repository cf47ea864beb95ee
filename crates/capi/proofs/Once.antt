-- Each promise that is the border's own has one result: any two results that it allows are equal. (The others are the calls' own promises.)
-- Assumes nothing.
use Prim.Native.Nat.{ℕ, ◌*◌}
use mathlib.Core.Path.{◌≡◌, refl, sym, ap, ◌∙◌}
use mathlib.Core.Bool.{Bool}
use mathlib.Core.List.{List, map}
use lib.ListN.{take, drop, replicate}
use denote.Ref.{Bor}
use Rattle.words.specs.Lists.{some}
use Rattle.flat.specs.Numbers.{kind_of}
use Rattle.regions.specs.Numbers.{unless}
use Rattle.regions.specs.Desk.{closed, seat_word}
use Rattle.regions.specs.Refusals.{number_told}
use Rattle.regions.specs.declared.Region.{Region}
use Rattle.regions.specs.declared.Seat.{Seat}
use Rattle.parts.specs.Lent.{word_at}
use Rattle.queries.specs.Searches.{parent_found}
use Rattle.queries.proofs.Once.{parent_once}
use Rattle.desk.specs.Promises.{LendsPart}
use Rattle.desk.proofs.Once.{opens_desk_once, opens_seat_once, closes_seat_once, rounds_once}
use Rattle.flat.specs.Seats.{seat_of, flat_seat}
use Rattle.flat.specs.declared.FlatSeat.{FlatSeat}
use Rattle.capi.specs.Border.{told, TellsParent}
use Rattle.capi.specs.Seats.{Left, OpensFlatDesk, OpensFlatSeat, ClosesFlatSeat, RoundsFlat, PartsFlat}

pub tells_once : (w : List ℕ) (a p l : ℕ) (m n : ℕ) (f g : Bool) (r s : Region) → TellsParent w a p l m f r → TellsParent w a p l n g s → (m ≡ n) × (f ≡ g) × (r ≡ s)
tells_once w a p l m n f g r s x y =
    let same = parent_once w a p l x.answer y.answer x.finds y.finds in (
      x.number_is ∙ (ap number_told same ∙ sym y.number_is),
      x.found_is ∙ (ap (λ z. some (parent_found z)) same ∙ sym y.found_is),
      x.region_is ∙ (ap (λ z. told (parent_found z)) same ∙ sym y.region_is),
    )

-- what is left is one where the number and the seats are
left_once : (m n : ℕ) (fs : List FlatSeat) (ds es : List Seat) (u v : List FlatSeat) → m ≡ n → ds ≡ es → Left m fs ds u → Left n fs es v → u ≡ v
left_once m n fs ds es u v e d x y =
    x ∙ (ap (λ (k : ℕ). unless k (map flat_seat ds) fs) e ∙ (ap (λ (xs : List Seat). unless n (map flat_seat xs) fs) d ∙ sym y))

pub opens_flat_desk_once : (u v : List FlatSeat) → OpensFlatDesk u → OpensFlatDesk v → u ≡ v
opens_flat_desk_once u v x y =
    let shut = replicate 8 closed in
    x.left ∙ (ap (map flat_seat) (opens_desk_once shut 0 0 x.seats y.seats (x.opens shut refl) (y.opens shut refl)).1 ∙ sym y.left)

pub opens_flat_seat_once : (fs : List FlatSeat) (i a k l m n : ℕ) (u v : List FlatSeat) → OpensFlatSeat fs i a k l m u → OpensFlatSeat fs i a k l n v → (m ≡ n) × (u ≡ v)
opens_flat_seat_once fs i a k l m n u v x y =
    let same = opens_seat_once (map seat_of fs) i a (kind_of k) l m n x.seats y.seats x.opens y.opens in
    (same.0, left_once m n fs x.seats y.seats u v same.0 same.1 x.left y.left)

pub closes_flat_seat_once : (fs : List FlatSeat) (i m n : ℕ) (u v : List FlatSeat) → ClosesFlatSeat fs i m u → ClosesFlatSeat fs i n v → (m ≡ n) × (u ≡ v)
closes_flat_seat_once fs i m n u v x y =
    let same = closes_seat_once (map seat_of fs) i m n x.seats y.seats x.closes y.closes in
    (same.0, left_once m n fs x.seats y.seats u v same.0 same.1 x.left y.left)

pub rounds_flat_once : (outer inner : List ℕ) (fs : List FlatSeat) (b : List ℕ) (m n : ℕ) (cs ds : List ℕ) (u v : List FlatSeat) (w z : List ℕ)
    → RoundsFlat outer inner fs b m cs u w
    → RoundsFlat outer inner fs b n ds v z
    → (m ≡ n) × (cs ≡ ds) × (u ≡ v) × (w ≡ z)
rounds_flat_once outer inner fs b m n cs ds u v w z x y =
    let same = rounds_once outer inner (map seat_of fs) b m n cs ds x.seats y.seats w z x.rounds y.rounds in
    (same.0, same.1, left_once m n fs x.seats y.seats u v same.0 same.2 x.left y.left, same.3)

pub parts_flat_once : (fs : List FlatSeat) (b : List ℕ) (i c m n p q s t : ℕ) → PartsFlat fs b i c m p s → PartsFlat fs b i c n q t → (m ≡ n) × (p ≡ q) × (s ≡ t)
parts_flat_once fs b i c m n p q s t x y =
    let e : m ≡ n = x.number_is.number_is ∙ sym y.number_is.number_is in (
      e,
      x.first_is ∙ (ap (λ (k : ℕ). unless k (seat_word i) 0) e ∙ sym y.first_is),
      x.words_are ∙ (ap (λ (k : ℕ). unless k (4 * c) 0) e ∙ sym y.words_are),
    )

-- what the border tells of a part, its first word and its length, is the very slice that the desk lends; a refused one is empty on both sides
pub part_told : (fs : List FlatSeat) (b : Bor (List ℕ)) (i c number first words : ℕ) (r : Bor (List ℕ)) → PartsFlat fs b.now i c number first words → LendsPart (map seat_of fs) b i c r
    → (number ≡ 0 → r.ref_ptr ≡ word_at b first) × (r.now ≡ take words (drop first b.now))
part_told fs b i c number first words r x y = (
  λ z. y.place_is (sym x.number_is.number_is ∙ z) ∙ ap (word_at b) (ap (λ (k : ℕ). unless k (seat_word i) 0) (sym z) ∙ sym x.first_is),
  y.part_is.words_are ∙ sym x.part_is.words_are,
)
