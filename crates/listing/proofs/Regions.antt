-- One region line: refused by its form or by the save, or saved and counted.
-- Assumes nothing.
use Prim.Native.Nat.{ℕ}
use mathlib.Core.Path.{◌≡◌, refl, sym, ap, ◌∙◌}
use mathlib.Core.Bool.{cond}
use mathlib.Core.List.{List}
use lib.Dec.{T}
use native.Mathlib.Omega.{arith}
use Rattle.regions.specs.Positions.{account}
use Rattle.regions.specs.Sets.{saved}
use Rattle.regions.specs.Calls.{save_no}
use Rattle.regions.specs.declared.Region.{Region}
use Rattle.image.specs.Read.{set_of}
use Rattle.image.specs.Valid.{valid}
use Rattle.changes.specs.Changed.{SavesIn}
use Rattle.changes.specs.Counts.{Counted}
use Rattle.form.specs.Form.{region_at, region_no, saved_line}
use Rattle.form.specs.Readers.{line_from, NoRegion, RegionRead}
use Rattle.listing.specs.Steps.{Takes}

module _ (text : List ℕ) (at : ℕ) (w : List ℕ) where
  pub takes_form : (held : List ℕ) (next : ℕ) → T (valid w) → NoRegion text at → Takes text at w 12 next held w
  unfolding region_no
  takes_form held next v f =
      record {
        number_is = sym (ap (λ b. cond b (save_no (set_of w) (account (region_at (line_from text at)).start) (region_at (line_from text at))) 12) f);
        goes = λ z. absurd (omega (arith, z));
        stays_valid = v;
      }

  module _ (r : Region) (next : ℕ) (l : RegionRead text at r next) (a : ℕ) (o : a ≡ account r.start) where
    -- the save's number is the line's
    line_number : (n : ℕ) → n ≡ save_no (set_of w) a r → n ≡ region_no (set_of w) (line_from text at)
    unfolding region_no
    line_number n e =
        e
        ∙ ap (λ b. save_no (set_of w) b r) o
        ∙ ap (λ x. save_no (set_of w) (account x.start) x) l.region_is
        ∙ sym (ap (λ b. cond b (save_no (set_of w) (account (region_at (line_from text at)).start) (region_at (line_from text at))) 12) l.is)

    -- refused by the save, or saved and counted
    pub takes_none : (n m : ℕ) (held' w' : List ℕ) → SavesIn w a r n w' → T (valid w') → (n ≡ 0 → ⊥) → Takes text at w n m held' w'
    takes_none n m held' w' s v h = record { number_is = line_number n s.number_is; goes = λ z. absurd (h z); stays_valid = v }

    pub takes_saved : (held' w' : List ℕ) → SavesIn w a r 0 w' → T (valid w') → Counted held' w' → Takes text at w 0 next held' w'
    unfolding saved_line
    takes_saved held' w' s v c =
        record {
          number_is = line_number 0 s.number_is;
          goes = λ z. (l.goes, (s.done refl).1 ∙ ap (λ x. saved x (set_of w)) l.region_is, c);
          stays_valid = v;
        }
