-- A section line by line: the first line that is refused ends it, and what is left of it is a section's rest from the next place on.
-- Assumes nothing.
use Prim.Native.Nat.{ℕ, suc, ◌+◌}
use mathlib.Core.Path.{◌≡◌, sym, ap, ap₂, ◌∙◌}
use mathlib.Core.List.{List}
use lib.ListN.{length, set}
use native.Mathlib.Omega.{arith}
use native.Mathlib.Numerals.{add-one}
use Rattle.words.proofs.Tests.{eq_yes, eq_no}
use Rattle.regions.specs.Numbers.{unless}
use Rattle.form.specs.Form.{refused, read, Place, onward, number_at, count_no, items, section, Shares, no_shares, share_no, shared}
use Rattle.form.specs.Readers.{line_from, Behind}
use Rattle.form.specs.Steps.{place_at, Stands, heard, SharesRead}

pub unless_done : {X : Type 0} (n : ℕ) (x y : X) → n ≡ 0 → unless n x y ≡ x
unless_done n x y e = rw (eq_yes n 0 e)

pub unless_not : {X : Type 0} (n : ℕ) (x y : X) → (n ≡ 0 → ⊥) → unless n x y ≡ y
unless_not n x y h = rw (eq_no n 0 h)

-- the place behind a line that was read, and that it is one to stand at
pub place_on : (text : List ℕ) (line at next : ℕ) → Behind text at next → onward (place_at text line at) ≡ place_at text (line + 1) next
place_on text line at next b = ap₂ (λ n ls. record { at = n; left = ls }) (sym (add-one line)) (sym b.2)

pub stands_on : (text : List ℕ) (line at next : ℕ) → Stands text line at → Behind text at next → Stands text (line + 1) next
stands_on text line at next s b = (s.0, b.1, omega (arith, s.2, b.0))

module _ {X : Type 0} (number : X → List ℕ → ℕ) (made : X → List ℕ → X) (text : List ℕ) where
  -- a section's count
  pub section_goes : (most : ℕ) (x : X) (line at count next : ℕ) → count_no most (line_from text at) ≡ 0 → count ≡ number_at 0 (line_from text at) → Behind text at next
      → section number made most x (place_at text line at) ≡ items number made count x (place_at text (line + 1) next)
  unfolding section
  section_goes most x line at count next e c b =
      unless_done (count_no most (line_from text at)) _ _ e
      ∙ ap (λ k. items number made k x (onward (place_at text line at))) (sym c)
      ∙ ap (items number made count x) (place_on text line at next b)

  pub section_ends : (most : ℕ) (x : X) (line at m : ℕ) (y : X × Place) → m ≡ count_no most (line_from text at) → (m ≡ 0 → ⊥)
      → section number made most x (place_at text line at) ≡ heard m line y
  unfolding section
  section_ends most x line at m y e h =
      ap (λ k. unless k (items number made (number_at 0 (line_from text at)) x (onward (place_at text line at))) (refused k line)) (sym e)
      ∙ unless_not m _ _ h ∙ sym (unless_not m (read y) (refused m line) h)

  -- one line more, and none left
  pub items_go : (left left' : ℕ) (x x' : X) (line at m next : ℕ) → left ≡ suc left' → m ≡ number x (line_from text at) → m ≡ 0 → x' ≡ made x (line_from text at) → Behind text at next
      → items number made left x (place_at text line at) ≡ items number made left' x' (place_at text (line + 1) next)
  unfolding items
  items_go left left' x x' line at m next l n z e b =
      ap (λ k. items number made k x (place_at text line at)) l
      ∙ unless_done (number x (line_from text at)) _ _ (sym n ∙ z)
      ∙ ap (λ y. items number made left' y (onward (place_at text line at))) (sym e)
      ∙ ap (items number made left' x') (place_on text line at next b)

  pub items_end : (left left' : ℕ) (x : X) (line at m : ℕ) (y : X × Place) → left ≡ suc left' → m ≡ number x (line_from text at) → (m ≡ 0 → ⊥)
      → items number made left x (place_at text line at) ≡ heard m line y
  unfolding items
  items_end left left' x line at m y l n h =
      ap (λ k. items number made k x (place_at text line at)) l
      ∙ ap (λ k. unless k (items number made left' (made x (line_from text at)) (onward (place_at text line at))) (refused k line)) (sym n)
      ∙ unless_not m _ _ h ∙ sym (unless_not m (read y) (refused m line) h)

  pub items_none : (left : ℕ) (x : X) (p : Place) (line : ℕ) → left ≡ 0 → items number made left x p ≡ heard 0 line (x, p)
  unfolding items
  items_none left x p line l = ap (λ k. items number made k x p) l

-- SHARES: what a line makes of them
pub shared_is : (shares : List ℕ) (from : ℕ) (l : List ℕ) (a b s : ℕ) → a ≡ number_at 0 l → b ≡ a → s ≡ number_at 1 l
    → ◌≡◌ {A = Shares} (record { sixteen = set shares b s; from = a + 1 }) (shared (record { sixteen = shares; from = from }) l)
unfolding shared
shared_is shares from l a b s e f g = rw (f, e, g, add-one (number_at 0 l))

-- the same refusal, told by other names
pub heard_same : {X : Type 0} (x : X) (m n l k : ℕ) → n ≡ m → k ≡ l → heard m l x ≡ heard n k x
heard_same x m n l k e f = ap₂ (λ a b. heard a b x) (sym e) (sym f)

-- SHARES read, or refused at their count or at a line
module _ (text : List ℕ) (line at : ℕ) where
  pub shares_refused : (n k j : ℕ) (s : Shares) → section share_no shared 16 no_shares (place_at text line at) ≡ heard n k (s, place_at text k j) → (n ≡ 0 → ⊥) → length s.sixteen ≡ 16
      → SharesRead text line at n k j s
  shares_refused n k j s e h l = record { is = e; goes = λ z. absurd (h z); sixteen_is = l; some_line = λ z. absurd (h z) }
