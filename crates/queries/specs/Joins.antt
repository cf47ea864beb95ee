-- Document 01, "Calls": the join, its promise. Both sets may be one image.
-- Assumes nothing.
use Rattle.std.specs.Prelude.{ℕ, ◌≡◌, ◌&&◌, List, length, Result, Ok, Err}
use Rattle.regions.specs.Numbers.{image_first}
use Rattle.regions.specs.Limits.{pair_width}
use Rattle.regions.specs.Calls.{pair_words, written, join_no, joined}
use Rattle.regions.specs.declared.Kind.{Kind}
use Rattle.regions.specs.declared.Refusal.{Refusal}
use Rattle.image.specs.Read.{set_of}
use Rattle.image.specs.Valid.{valid}

-- how many pairs an answer tells: none on a refusal
abbrev pub pairs_told : Result ℕ Refusal → ℕ
pairs_told (Ok total) = total
pairs_told (Err _) = 0

pub record JoinsSets (outer inner : List ℕ) (account : ℕ) (kind : Kind) (out : List ℕ) (number total : ℕ) (out' : List ℕ) : Type 0 where
  pub number_is : number ≡ image_first (valid outer && valid inner) (join_no account)
  pub refused : (number ≡ 0 → ⊥) → (total ≡ 0) × (out' ≡ out)
  pub done : number ≡ 0
      → (total ≡ length (joined (set_of outer) (set_of inner) account kind)) × (out' ≡ written pair_words pair_width out (joined (set_of outer) (set_of inner) account kind))
