-- Each promise of the desk has one result: any two results that it allows are equal.
-- Assumes nothing.
use Prim.Native.Nat.{ℕ}
use mathlib.Core.Path.{◌≡◌, sym, ap, ◌∙◌}
use mathlib.Core.List.{List, map}
use lib.ListN.{set, replicate}
use denote.Ref.{Bor}
use Rattle.regions.specs.Numbers.{unless}
use Rattle.regions.specs.Desk.{closed, opened, turned, counts, served, part_no}
use Rattle.regions.specs.declared.Kind.{Kind}
use Rattle.regions.specs.declared.Seat.{Seat}
use Rattle.image.specs.Read.{set_of}
use Rattle.desk.specs.Promises.{OpensDesk, OpensSeat, ClosesSeat, Rounds, Parts, PartNumber, LendsPart}

-- what the number decides of is one where the number is one
decided : {X : Type 0} (m n : ℕ) (x y : X) {u v : X} → m ≡ n → u ≡ unless m x y → v ≡ unless n x y → u ≡ v
decided m n x y e p q = p ∙ ap (λ (k : ℕ). unless k x y) e ∙ sym q

pub opens_desk_once : (ds : List Seat) (m n : ℕ) (u v : List Seat) → OpensDesk ds m u → OpensDesk ds n v → (m ≡ n) × (u ≡ v)
opens_desk_once ds m n u v x y =
    let e : m ≡ n = x.number_is ∙ sym y.number_is in
    (e, decided m n (replicate 8 closed) ds e x.desk_is y.desk_is)

pub opens_seat_once : (ds : List Seat) (i a : ℕ) (k : Kind) (l m n : ℕ) (u v : List Seat) → OpensSeat ds i a k l m u → OpensSeat ds i a k l n v → (m ≡ n) × (u ≡ v)
opens_seat_once ds i a k l m n u v x y =
    let e : m ≡ n = x.number_is ∙ sym y.number_is in
    (e, decided m n (set ds i (opened a k l)) ds e x.desk_is y.desk_is)

pub closes_seat_once : (ds : List Seat) (i m n : ℕ) (u v : List Seat) → ClosesSeat ds i m u → ClosesSeat ds i n v → (m ≡ n) × (u ≡ v)
closes_seat_once ds i m n u v x y =
    let e : m ≡ n = x.number_is ∙ sym y.number_is in
    (e, decided m n (set ds i closed) ds e x.desk_is y.desk_is)

pub rounds_once : (outer inner : List ℕ) (ds : List Seat) (b : List ℕ) (m n : ℕ) (cs cs' : List ℕ) (u v : List Seat) (w w' : List ℕ) → Rounds outer inner ds b m cs u w → Rounds outer inner ds b n cs' v w'
    → (m ≡ n) × (cs ≡ cs') × (u ≡ v) × (w ≡ w')
rounds_once outer inner ds b m n cs cs' u v w w' x y =
    let e : m ≡ n = x.number_is ∙ sym y.number_is in
    let X = set_of outer in
    let Y = set_of inner in (
      e,
      decided m n (counts X Y ds) (replicate 8 0) e x.counts_are y.counts_are,
      decided m n (map (turned X Y) ds) ds e x.desk_is y.desk_is,
      decided m n (served X Y ds b) b e x.buffer_is y.buffer_is,
    )

pub parts_once : (ds : List Seat) (b : List ℕ) (i n : ℕ) (u v : List ℕ) → Parts ds b i n u → Parts ds b i n v → u ≡ v
parts_once ds b i n u v x y = x.words_are ∙ sym y.words_are

pub part_number_once : (ds : List Seat) (b : List ℕ) (i n r t : ℕ) → PartNumber ds b i n r → PartNumber ds b i n t → r ≡ t
part_number_once ds b i n r t x y = x.number_is ∙ sym y.number_is

-- a part is one in its words, and where it is not refused, in its place
pub lends_part_once : (ds : List Seat) (b : Bor (List ℕ)) (i n : ℕ) (u v : Bor (List ℕ)) → LendsPart ds b i n u → LendsPart ds b i n v
    → (u.now ≡ v.now) × (part_no ds b.now i n ≡ 0 → u.ref_ptr ≡ v.ref_ptr)
lends_part_once ds b i n u v x y = (parts_once ds b.now i n u.now v.now x.part_is y.part_is, λ z. x.place_is z ∙ sym (y.place_is z))
