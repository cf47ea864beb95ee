-- What the small functions answer, by the case that they test.
-- Assumes nothing.
use Prim.Native.Nat.{ℕ}
use mathlib.Core.Path.{◌≡◌, refl, sym, ap}
use mathlib.Core.Logic.{◌≢◌}
use mathlib.Core.List.{List}
use Rattle.words.proofs.Tests.{eq_yes, eq_no}
use Rattle.regions.specs.declared.Region.{Region}
use Rattle.pages.specs.Layout.{record_of, record_next, region_in}
use Rattle.image.specs.Read.{record_region}
use Rattle.store.specs.Store.{set_next}
use Rattle.records.specs.Ways.{behind, linked_words, linked_head, first_or0, key_from}

pub behind_none : (w : List ℕ) (h p : ℕ) → p ≡ 0 → h ≡ behind w h p
unfolding behind
behind_none w h p e = rw (eq_yes p 0 e)

pub behind_some : (w : List ℕ) (h p x : ℕ) → p ≢ 0 → x ≡ record_next (record_of w p) → x ≡ behind w h p
unfolding behind
behind_some w h p x n e = rw (eq_no p 0 n) e

pub link_none : (w : List ℕ) (h p n : ℕ) → p ≡ 0 → (n ≡ linked_head h p n) × (w ≡ linked_words w p n)
unfolding linked_head linked_words
link_none w h p n e = rw (eq_yes p 0 e) (refl, refl)

pub link_some : (w w' : List ℕ) (h p n : ℕ) → p ≢ 0 → w' ≡ set_next w p n → (h ≡ linked_head h p n) × (w' ≡ linked_words w p n)
unfolding linked_head linked_words
link_some w w' h p n d e = rw (eq_no p 0 d) (refl, e)

pub renewed_none : (w : List ℕ) (n h : ℕ) → h ≡ 0 → record { key = n; start = 0; end = 0; head = 0 } ≡ key_from w n h
unfolding first_or0
renewed_none w n h e = rw (eq_yes h 0 e) (ap (λ z. record { key = n; start = 0; end = 0; head = z }) (sym e))

pub renewed_some : (w : List ℕ) (n h : ℕ) (r : Region) → h ≢ 0 → r ≡ region_in (record_of w h) 0 → record { key = n; start = r.start; end = r.end; head = h } ≡ key_from w n h
unfolding first_or0 record_region
renewed_some w n h r d e = rw (eq_no h 0 d) (ap (λ (z : Region). record { key = n; start = z.start; end = z.end; head = h }) e)
