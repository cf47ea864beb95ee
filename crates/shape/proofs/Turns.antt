-- The code's turns: the test of a page by cases, and a turn of each loop in the form of its invariant, that what is left to do comes to the same.
-- Assumes nothing.
use Prim.Native.Nat.{ℕ, zero, suc, ◌+◌, ◌-◌, ◌*◌, ◌<◌, ◌≤◌}
use mathlib.Core.Path.{◌≡◌, refl, sym, ap, ◌∙◌}
use mathlib.Core.Bool.{Bool, true, false, ◌&&◌, not, cond}
use mathlib.Core.List.{List, ◌∷◌, ◌++◌}
use lib.Dec.{leb}
use lib.ListN.{get_or}
use native.Mathlib.Omega.{arith}
use Rattle.words.proofs.Tests.{of_T, T_of, and_right, eq_yes, eq_no, le_yes, le_no, le_of}
use Rattle.pages.specs.Layout.{page_of, mark_of, fill_of, next_of, entry_word, key_word, child_in, page_used}
use Rattle.xrtree.specs.Tree.Item.{start, key}
use Rattle.std.specs.Prelude.{Option, Some, None, option_and_then}
use Rattle.passes.specs.Run.{step_page, step_leaf, step_code}
use Rattle.passes.specs.declared.Passed.{Passed}
use Rattle.shape.specs.Run.{Event, code, step, run, page_right, start_events, leaf_events, inner_events, events_at, used_to}
use Rattle.shape.specs.Run.Event.{page, item}
use Rattle.shape.proofs.Run.{run_append, run_one}

-- A PAGE
used_yes : (w : List ℕ) (p m : ℕ) → m ≡ mark_of (page_of w p) → (m ≡ 0 → ⊥) → page_used w p ≡ true
unfolding page_used
used_yes w p m e h = ap not (eq_no (mark_of (page_of w p)) 0 (λ z. h (e ∙ z)))

used_no : (w : List ℕ) (p m : ℕ) → m ≡ mark_of (page_of w p) → m ≡ 0 → page_used w p ≡ false
unfolding page_used
used_no w p m e h = ap not (eq_yes (mark_of (page_of w p)) 0 (sym e ∙ h))

module _ (w : List ℕ) (least p : ℕ) where
  pub page_low : p < 1 → false ≡ page_right w least p
  unfolding page_right
  page_low a = rw (le_no 1 p a)

  pub page_high : 1 ≤ p → 160 < p → false ≡ page_right w least p
  unfolding page_right
  page_high a b = rw (le_yes 1 p a, le_no p 160 b)

  pub page_free : (m : ℕ) → 1 ≤ p → p ≤ 160 → m ≡ mark_of (page_of w p) → m ≡ 0 → false ≡ page_right w least p
  unfolding page_right
  page_free m a b e z = rw (le_yes 1 p a, le_yes p 160 b, used_no w p m e z)

  pub page_few : (m n : ℕ) → 1 ≤ p → p ≤ 160 → m ≡ mark_of (page_of w p) → (m ≡ 0 → ⊥) → n ≡ fill_of (page_of w p) → n < least → leb least n ≡ page_right w least p
  unfolding page_right
  page_few m n a b e z f l = rw (le_yes 1 p a, le_yes p 160 b, used_yes w p m e z, ← f, le_no least n l)

  pub page_rest : (m n : ℕ) → 1 ≤ p → p ≤ 160 → m ≡ mark_of (page_of w p) → (m ≡ 0 → ⊥) → n ≡ fill_of (page_of w p) → least ≤ n → leb n 8 ≡ page_right w least p
  unfolding page_right
  page_rest m n a b e z f l = rw (le_yes 1 p a, le_yes p 160 b, used_yes w p m e z, ← f, le_yes least n l)

-- the pages in use below p, and one more
used_suc : (w : List ℕ) (p : ℕ) → 0 < p → used_to w p ≡ cond (page_used w p) 1 0 + used_to w (p - 1)
unfolding used_to
used_suc w zero h = absurd (omega arith)
used_suc w (suc p) h = let v : suc p - 1 ≡ p = omega arith in rw v

pub used_none : (w : List ℕ) (p n m : ℕ) → 0 < p → m ≡ mark_of (page_of w p) → m ≡ 0 → n ≡ used_to w (p - 1) → n ≡ used_to w p
used_none w p n m h e z k = let u = used_suc w p h in let o : used_to w p ≡ 0 + used_to w (p - 1) = rw (used_no w p m e z) at u in omega arith

pub used_one : (w : List ℕ) (p n m : ℕ) → 0 < p → m ≡ mark_of (page_of w p) → (m ≡ 0 → ⊥) → n ≡ used_to w (p - 1) → n + 1 ≡ used_to w p
used_one w p n m h e z k = let u = used_suc w p h in let o : used_to w p ≡ 1 + used_to w (p - 1) = rw (used_yes w p m e z) at u in omega arith

pub used_next : (w : List ℕ) (p n : ℕ) → n ≡ used_to w p → n ≡ used_to w (p + 1 - 1)
used_next w p n k = let e : p + 1 - 1 ≡ p = omega arith in rw e k

-- A LEAF
start_step : (c x : ℕ) (t : Passed) → c ≡ 2 * x + 1 → step_code c t ≡ step (item (start x)) t
unfolding step code
start_step c x t e = ap (λ (m : ℕ). step_code m t) e

key_step : (c x : ℕ) (t : Passed) → c ≡ 2 * x → step_code c t ≡ step (item (key x)) t
unfolding step code
key_step c x t e = ap (λ (m : ℕ). step_code m t) e

starts_suc : (ws : List ℕ) (i m : ℕ) → start_events ws i (suc m) ≡ item (start (get_or ws (entry_word i) 0)) ∷ start_events ws (suc i) m
unfolding start_events
starts_suc ws i m = refl

starts_next : (ws : List ℕ) (i n x c : ℕ) (t : Passed) → i < n → x ≡ get_or ws (entry_word i) 0 → c ≡ 2 * x + 1
    → run (start_events ws i (n - i)) t ≡ option_and_then (run (start_events ws (i + 1) (n - (i + 1)))) (step_code c t)
starts_next ws i n x c t h e d =
    let a : i + 1 ≡ suc i = omega arith in
    let v : n - i ≡ suc (n - suc i) = omega arith in
    let f : step_code c t ≡ step (item (start (get_or ws (entry_word i) 0))) t = start_step c _ t (d ∙ ap (λ (y : ℕ). 2 * y + 1) e) in
    rw (a, f) (ap (λ (es : List Event). run es t) (ap (start_events ws i) v ∙ starts_suc ws i (n - suc i)) ∙ run_one _ _ t)

pub starts_more : (ws : List ℕ) (i n x c : ℕ) (t u : Passed) (r : Option Passed) → i < n → x ≡ get_or ws (entry_word i) 0 → c ≡ 2 * x + 1 → Some u ≡ step_code c t
    → run (start_events ws i (n - i)) t ≡ r → run (start_events ws (i + 1) (n - (i + 1))) u ≡ r
starts_more ws i n x c t u r h e d s k =
    ap (option_and_then (run (start_events ws (i + 1) (n - (i + 1))))) s ∙ sym (starts_next ws i n x c t h e d) ∙ k

pub starts_stop : (ws : List ℕ) (i n x c : ℕ) (t : Passed) (r : Option Passed) → i < n → x ≡ get_or ws (entry_word i) 0 → c ≡ 2 * x + 1 → None ≡ step_code c t
    → run (start_events ws i (n - i)) t ≡ r → None ≡ r
starts_stop ws i n x c t r h e d s k =
    ap (option_and_then (run (start_events ws (i + 1) (n - (i + 1))))) s ∙ sym (starts_next ws i n x c t h e d) ∙ k

pub starts_done : (ws : List ℕ) (i n : ℕ) (t : Passed) (r : Option Passed) → n ≤ i → run (start_events ws i (n - i)) t ≡ r → Some t ≡ r
unfolding start_events run
starts_done ws i n t r h k =
    let v : n - i ≡ 0 = omega arith in
    rw v at k

pub leaf_run : (ws : List ℕ) (p n nx : ℕ) (s t : Passed) (r : Option Passed) → n ≡ fill_of ws → nx ≡ next_of ws → Some t ≡ step_leaf p nx s → r ≡ run (start_events ws 0 n) t
    → r ≡ run (leaf_events ws p) s
unfolding leaf_events run step
leaf_run ws p n nx s t r f g a b =
    rw f at b ∙ ap (option_and_then (run (start_events ws 0 (fill_of ws)))) (a ∙ ap (λ (y : ℕ). step_leaf p y s) g)

pub leaf_stop : (ws : List ℕ) (p nx : ℕ) (s : Passed) → nx ≡ next_of ws → None ≡ step_leaf p nx s → None ≡ run (leaf_events ws p) s
unfolding leaf_events run step
leaf_stop ws p nx s g a = ap (option_and_then (run (start_events ws 0 (fill_of ws)))) (a ∙ ap (λ (y : ℕ). step_leaf p y s) g)

-- A TREE
pub events_leaf : (w : List ℕ) (least p : ℕ) → events_at w 0 least p ≡ page (page_right w least p) ∷ leaf_events (page_of w p) p
unfolding events_at
events_leaf w least p = refl

pub events_inner : (w : List ℕ) (h least p : ℕ)
    → events_at w (suc h) least p ≡ page (page_right w least p) ∷ inner_events (events_at w h 4) (page_of w p) 0 (fill_of (page_of w p))
unfolding events_at
events_inner w h least p = refl

page_step : (g : Bool) (es : List Event) (s : Passed) (o : Option Passed) → o ≡ step_page g s → option_and_then (run es) o ≡ run (page g ∷ es) s
unfolding run step
page_step g es s o e = ap (option_and_then (run es)) e

-- a page that was passed was right
step_right : (g : Bool) (s t : Passed) → Some t ≡ step_page g s → g ≡ true
unfolding step_page
step_right true s t h = refl
step_right false s t h = absurd (cc h)

pub tree_stop : (w : List ℕ) (l least p : ℕ) (g : Bool) (s : Passed) → g ≡ page_right w least p → None ≡ step_page g s → None ≡ run (events_at w l least p) s
tree_stop w zero least p g s e a = rw (events_leaf, ← e) (page_step g _ s None a)
tree_stop w (suc l) least p g s e a = rw (events_inner, ← e) (page_step g _ s None a)

-- and holds at most 8
pub tree_fill : (w : List ℕ) (least p : ℕ) (g : Bool) (s t : Passed) → g ≡ page_right w least p → Some t ≡ step_page g s → fill_of (page_of w p) ≤ 8
unfolding page_right
tree_fill w least p g s t e a =
    let k : page_right w least p ≡ true = sym e ∙ step_right g s t a in
    let q = and_right (page_used w p) _ (and_right (leb 1 p && leb p 160) _ (T_of k)) in
    le_of _ 8 (of_T _ (and_right (leb least (fill_of (page_of w p))) _ q))

pub tree_leaf : (w : List ℕ) (l least p : ℕ) (g : Bool) (s t : Passed) (r : Option Passed) → l ≡ 0 → g ≡ page_right w least p → Some t ≡ step_page g s
    → r ≡ run (leaf_events (page_of w p) p) t → r ≡ run (events_at w l least p) s
tree_leaf w l least p g s t r z e a b = rw (z, events_leaf, ← e) (b ∙ page_step g (leaf_events (page_of w p) p) s (Some t) a)

pub tree_inner : (w : List ℕ) (h l least p n : ℕ) (g : Bool) (s t : Passed) → l ≡ suc h → g ≡ page_right w least p → Some t ≡ step_page g s
    → n ≡ fill_of (page_of w p) → run (inner_events (events_at w h 4) (page_of w p) 0 (n - 0)) t ≡ run (events_at w l least p) s
tree_inner w h l least p n g s t z e a d =
    let v : n - 0 ≡ fill_of (page_of w p) = omega arith in
    rw (v, z, events_inner, ← e) (page_step g _ s (Some t) a)

pub inner_suc : (f : ℕ → List Event) (ws : List ℕ) (i m : ℕ)
    → inner_events f ws i (suc m) ≡ f (child_in ws i) ++ (item (key (get_or ws (key_word i) 0)) ∷ inner_events f ws (suc i) m)
unfolding inner_events
inner_suc f ws i m = refl

pub inner_zero : (f : ℕ → List Event) (ws : List ℕ) (i : ℕ) → inner_events f ws i 0 ≡ f (child_in ws i)
unfolding inner_events
inner_zero f ws i = refl

module _ (f : ℕ → List Event) (ws : List ℕ) (i n : ℕ) (t : Passed) (r : Option Passed) where
  -- the child's events come first, then its key's
  inner_next : (y : ℕ) (o : Option Passed) → i < n → y ≡ child_in ws i → o ≡ run (f y) t → run (inner_events f ws i (n - i)) t ≡ r
      → option_and_then (run (item (key (get_or ws (key_word i) 0)) ∷ inner_events f ws (i + 1) (n - (i + 1)))) o ≡ r
  inner_next y o h ey eo k =
      let a : i + 1 ≡ suc i = omega arith in
      let m : n - i ≡ suc (n - suc i) = omega arith in
      let j : o ≡ run (f (child_in ws i)) t = eo ∙ ap (λ (z : ℕ). run (f z) t) ey in
      rw (a, j)
      (sym (run_append (f (child_in ws i)) _ t) ∙ sym (ap (λ (es : List Event). run es t) (ap (inner_events f ws i) m ∙ inner_suc f ws i (n - suc i))) ∙ k)

  pub inner_child_stop : (y : ℕ) → i < n → y ≡ child_in ws i → None ≡ run (f y) t → run (inner_events f ws i (n - i)) t ≡ r → None ≡ r
  inner_child_stop y h ey eo k = inner_next y None h ey eo k

  inner_code : (x y c : ℕ) (u : Passed) → i < n → y ≡ child_in ws i → x ≡ get_or ws (key_word i) 0 → c ≡ 2 * x → Some u ≡ run (f y) t
      → run (inner_events f ws i (n - i)) t ≡ r → option_and_then (run (inner_events f ws (i + 1) (n - (i + 1)))) (step_code c u) ≡ r
  inner_code x y c u h ey ex ec eu k =
      ap (option_and_then (run (inner_events f ws (i + 1) (n - (i + 1))))) (key_step c _ u (ec ∙ ap (λ (z : ℕ). 2 * z) ex)) ∙
      sym (run_one _ _ u) ∙ inner_next y (Some u) h ey eu k

  pub inner_more : (x y c : ℕ) (u v : Passed) → i < n → y ≡ child_in ws i → x ≡ get_or ws (key_word i) 0 → c ≡ 2 * x → Some u ≡ run (f y) t → Some v ≡ step_code c u
      → run (inner_events f ws i (n - i)) t ≡ r → run (inner_events f ws (i + 1) (n - (i + 1))) v ≡ r
  inner_more x y c u v h ey ex ec eu ev k =
      ap (option_and_then (run (inner_events f ws (i + 1) (n - (i + 1))))) ev ∙ inner_code x y c u h ey ex ec eu k

  pub inner_key_stop : (x y c : ℕ) (u : Passed) → i < n → y ≡ child_in ws i → x ≡ get_or ws (key_word i) 0 → c ≡ 2 * x → Some u ≡ run (f y) t → None ≡ step_code c u
      → run (inner_events f ws i (n - i)) t ≡ r → None ≡ r
  inner_key_stop x y c u h ey ex ec eu ev k =
      ap (option_and_then (run (inner_events f ws (i + 1) (n - (i + 1))))) ev ∙ inner_code x y c u h ey ex ec eu k

  pub inner_done : (y : ℕ) (v : Option Passed) → i ≡ n → y ≡ child_in ws n → v ≡ run (f y) t → run (inner_events f ws i (n - i)) t ≡ r → v ≡ r
  inner_done y v e ey ev k =
      let z : n - i ≡ 0 = omega arith in
      let j : v ≡ run (f (child_in ws i)) t = ev ∙ ap (λ (q : ℕ). run (f q) t) (ey ∙ ap (child_in ws) (sym e)) in
      j ∙ sym (ap (λ (es : List Event). run es t) (ap (inner_events f ws i) z ∙ inner_zero f ws i)) ∙ k
