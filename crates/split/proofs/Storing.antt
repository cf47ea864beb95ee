-- Three pages stored one after the other, at three places.
-- Assumes nothing.
use Prim.Native.Nat.{ℕ, ◌≤◌}
use mathlib.Core.Path.{◌≡◌, sym, ◌∙◌}
use mathlib.Core.Logic.{◌≢◌}
use mathlib.Core.List.{List}
use lib.ListN.{length}
use Rattle.store.specs.Store.{put_page}
use Rattle.store.proofs.Frames.{put_page_long, put_page_here, put_page_other, put_page_record, put_page_head}
use Rattle.split.specs.Stored.{Stored}

pub record Apart3 (w : List ℕ) (p r q : ℕ) : Type 0 where
  pub long : length w ≡ 12288
  pub p_low : 1 ≤ p
  pub p_high : p ≤ 160
  pub r_low : 1 ≤ r
  pub r_high : r ≤ 160
  pub q_low : 1 ≤ q
  pub q_high : q ≤ 160
  pub p_r : p ≢ r
  pub p_q : p ≢ q
  pub r_q : r ≢ q

pub stored : (w : List ℕ) (p r q : ℕ) (a b d : List ℕ) → Apart3 w p r q → length a ≡ 57 → length b ≡ 57 → length d ≡ 57 → Stored w (put_page (put_page (put_page w p a) r b) q d) p a r b q d
stored w p r q a b d o la lb ld =
    let w₁ = put_page w p a in
    let w₂ = put_page w₁ r b in
    let l₁ = put_page_long w p a la ∙ o.long in
    let l₂ = put_page_long w₁ r b lb ∙ l₁ in
    let h = put_page_head w p a la o.p_low in
    let h₁ = put_page_head w₁ r b lb o.r_low in
    let h₂ = put_page_head w₂ q d ld o.q_low in
    record {
      long = put_page_long w₂ q d ld ∙ put_page_long w₁ r b lb ∙ put_page_long w p a la;
      root = h₂.root ∙ h₁.root ∙ h.root;
      height = h₂.height ∙ h₁.height ∙ h.height;
      shares = h₂.shares ∙ h₁.shares ∙ h.shares;
      left_is = put_page_other w₂ q d ld p (λ e. o.p_q (sym e)) ∙ put_page_other w₁ r b lb p (λ e. o.p_r (sym e)) ∙ put_page_here w p a la o.long o.p_high;
      right_is = put_page_other w₂ q d ld r (λ e. o.r_q (sym e)) ∙ put_page_here w₁ r b lb l₁ o.r_high;
      above_is = put_page_here w₂ q d ld l₂ o.q_high;
      pages = λ x np nr nq. put_page_other w₂ q d ld x (λ e. nq (sym e)) ∙ put_page_other w₁ r b lb x (λ e. nr (sym e)) ∙ put_page_other w p a la x (λ e. np (sym e));
      records = λ x. put_page_record w₂ q d ld o.q_high x ∙ put_page_record w₁ r b lb o.r_high x ∙ put_page_record w p a la o.p_high x;
    }

-- by the equations of the three stores
pub stored_by : (w w₁ w₂ w₃ : List ℕ) (p r q : ℕ) (a b d : List ℕ) → w₁ ≡ put_page w p a → w₂ ≡ put_page w₁ r b → w₃ ≡ put_page w₂ q d
    → Apart3 w p r q → length a ≡ 57 → length b ≡ 57 → length d ≡ 57 → Stored w w₃ p a r b q d
stored_by w w₁ w₂ w₃ p r q a b d e f g o la lb ld =
    rw (g, f, e) (stored w p r q a b d o la lb ld)
