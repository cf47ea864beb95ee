-- One line of each kind: what its bytes say, and the place behind it.
-- Assumes nothing.
use Prim.Native.Nat.{ℕ, suc, ◌+◌, ◌<◌, ◌≤◌}
use mathlib.Core.Path.{◌≡◌, sym, ap, ◌∙◌}
use mathlib.Core.Bool.{true, true≢false}
use mathlib.Core.List.{List, [], ◌∷◌}
use lib.ListN.{length, get_or, drop, length-drop}
use lib.Seq.{get_or-take, drop-drop}
use native.Mathlib.Omega.{arith}
use Rattle.words.specs.Lists.{first_no}
use Rattle.words.proofs.Tests.{lt_yes, lt_no, eq_yes, eq_no}
use Rattle.regions.specs.declared.Region.{Region}
use Rattle.lines.specs.Text.{lines_of, rest_of, is_line}
use Rattle.lines.specs.Reads.{NoLine, ReadsLine}
use Rattle.lines.proofs.Lined.{lines_on, no_line}
use Rattle.form.specs.Form.{number_at, count_no, Shares, share_no}
use Rattle.form.specs.Readers.{line_from, Behind, CountRead, ShareRead, RegionRead}

module _ (text : List ℕ) (at : ℕ) where
  -- the place behind a line
  pub line_behind : (k next : ℕ) → at ≤ length text → is_line k (line_from text at) ≡ true → next ≡ at + length (line_from text at) → Behind text at next
  unfolding rest_of
  line_behind k next l e n =
      let o = lines_on k (drop at text) e in
      let d : length (drop at text) + at ≡ length text = simp length-drop (omega arith) in (
        omega (arith, some_byte (line_from text at) e),
        omega (arith, o.1),
        ap (λ i. lines_of (drop i text)) n ∙ ap lines_of (sym (drop-drop (length (line_from text at)) at text)) ∙ sym (ap rest_of o.0),
      )
    where
      some_byte : (bs : List ℕ) → is_line k bs ≡ true → 0 < length bs
      some_byte [] f = absurd (true≢false (sym f ∙ no_line k))
      some_byte (b ∷ bs) f = omega arith

  -- its numbers are those that were read
  module _ (k : ℕ) (ns : List ℕ) (next : ℕ) (r : ReadsLine text at k ns next) where
    pub number_read : (i : ℕ) → i < k → get_or ns i 0 ≡ number_at i (line_from text at)
    number_read i l = sym (get_or-take k ns i 0 l) ∙ ap (λ xs. get_or xs i 0) r.numbers

    pub behind_read : at ≤ length text → Behind text at next
    behind_read l = line_behind k next l r.is r.ends

  -- COUNT
  pub no12 : ◌≡◌ {A = ℕ} 12 0 → ⊥
  no12 e = omega arith

  module _ (most : ℕ) where
    pub count_form : NoLine text at 1 → CountRead text at most 12 0 0
    unfolding count_no first_no
    count_form f = record { number_is = rw f; count_is = λ z. absurd (no12 z); goes = λ z. absurd (no12 z) }

    module _ (ns : List ℕ) (next : ℕ) (r : ReadsLine text at 1 ns next) where
      pub first : get_or ns 0 0 ≡ number_at 0 (line_from text at)
      first = number_read 1 ns next r 0 (omega arith)

      pub count_over : most < get_or ns 0 0 → CountRead text at most 12 0 0
      unfolding count_no first_no
      count_over l =
          record {
            number_is = rw (r.is, lt_yes most (number_at 0 (line_from text at)) (omega (arith, first)));
            count_is = λ z. absurd (no12 z);
            goes = λ z. absurd (no12 z);
          }

      pub count_read : (n : ℕ) → at ≤ length text → get_or ns 0 0 ≤ most → n ≡ get_or ns 0 0 → CountRead text at most 0 n next
      unfolding count_no first_no
      count_read n h l e =
          record {
            number_is = rw (r.is, lt_no most (number_at 0 (line_from text at)) (omega (arith, first)));
            count_is = λ z. (e ∙ first, omega arith);
            goes = λ z. behind_read 1 ns next r h;
          }

  -- SHARES
  module _ (s : Shares) where
    -- a share line's number, by the first test that it fails
    pub refused_share : (n a b c : ℕ) → (n ≡ 0 → ⊥) → n ≡ share_no s (line_from text at) → ShareRead text at s n a b c
    refused_share n a b c h e = record { number_is = e; share_is = λ z. absurd (h z); goes = λ z. absurd (h z) }

    pub not_zero : (n m : ℕ) → n ≡ suc m → n ≡ 0 → ⊥
    not_zero n m e z = omega arith

    pub share_form : (n a b c : ℕ) → NoLine text at 2 → n ≡ 12 → ShareRead text at s n a b c
    unfolding share_no first_no
    share_form n a b c f e = refused_share n a b c (not_zero n 11 e) (rw f e)

    module _ (ns : List ℕ) (next : ℕ) (r : ReadsLine text at 2 ns next) where
      pub account_read : get_or ns 0 0 ≡ number_at 0 (line_from text at)
      account_read = number_read 2 ns next r 0 (omega arith)

      pub share_read : get_or ns 1 0 ≡ number_at 1 (line_from text at)
      share_read = number_read 2 ns next r 1 (omega arith)

      pub share_falls : (n a b c : ℕ) → get_or ns 0 0 < s.from → n ≡ 12 → ShareRead text at s n a b c
      unfolding share_no first_no
      share_falls n a b c l e =
          refused_share n a b c (not_zero n 11 e) (rw (r.is, lt_yes (number_at 0 (line_from text at)) s.from (omega (arith, account_read))) e)

      module _ (rises : s.from ≤ get_or ns 0 0) where
        pub share_none : (n a b c : ℕ) → get_or ns 1 0 ≡ 0 → n ≡ 12 → ShareRead text at s n a b c
        unfolding share_no first_no
        share_none n a b c z e =
            refused_share n a b c (not_zero n 11 e)
            (rw (r.is, lt_no (number_at 0 (line_from text at)) s.from (omega (arith, account_read)), eq_yes (number_at 1 (line_from text at)) 0 (sym share_read ∙ z)) e)

        module _ (some : get_or ns 1 0 ≡ 0 → ⊥) where
          pub share_foreign : (n a b c : ℕ) → 15 < get_or ns 0 0 → n ≡ 3 → ShareRead text at s n a b c
          unfolding share_no first_no
          share_foreign n a b c l e =
              refused_share n a b c (not_zero n 2 e)
              (rw (
                r.is,
                lt_no (number_at 0 (line_from text at)) s.from (omega (arith, account_read)),
                eq_no (number_at 1 (line_from text at)) 0 (λ z. some (share_read ∙ z)),
                lt_yes 15 (number_at 0 (line_from text at)) (omega (arith, account_read)),
              )
              e)

          pub share_right : at ≤ length text → get_or ns 0 0 ≤ 15 → ShareRead text at s 0 (get_or ns 0 0) (get_or ns 1 0) next
          unfolding share_no first_no
          share_right h l =
              record {
                number_is =
                    rw (
                      r.is,
                      lt_no (number_at 0 (line_from text at)) s.from (omega (arith, account_read)),
                      eq_no (number_at 1 (line_from text at)) 0 (λ z. some (share_read ∙ z)),
                      lt_no 15 (number_at 0 (line_from text at)) (omega (arith, account_read)),
                    );
                share_is = λ z. (account_read, share_read, l);
                goes = λ z. behind_read 2 ns next r h;
              }

  -- REGION
  pub region_line : (ns : List ℕ) (next : ℕ) → at ≤ length text → ReadsLine text at 4 ns next
      → RegionRead text at (record { start = get_or ns 0 0; end = get_or ns 1 0; level = get_or ns 2 0; reference = get_or ns 3 0 }) next
  region_line ns next h r =
      record {
        is = r.is;
        region_is = let n = number_read 4 ns next r in four (n 0 (omega arith)) (n 1 (omega arith)) (n 2 (omega arith)) (n 3 (omega arith));
        goes = behind_read 4 ns next r h;
      }
    where
      four : {a b c d a' b' c' d' : ℕ} → a ≡ a' → b ≡ b' → c ≡ c' → d ≡ d'
          → ◌≡◌ {A = Region} (record { start = a; end = b; level = c; reference = d }) (record { start = a'; end = b'; level = c'; reference = d' })
      four e f g h = rw (e, f, g, h)
