-- A cursor along the leaves: the leaves that end, what a cursor has before it, and what a step does.
-- Assumes nothing.
use Prim.Native.Nat.{ℕ, zero, suc, ◌+◌, ◌≤◌, ◌<◌}
use mathlib.Core.Path.{◌≡◌, refl, sym, ap, ◌∙◌}
use mathlib.Core.List.{List, [], ◌∷◌, ◌++◌, flat_map}
use lib.Dec.{eqb, ltb}
use lib.ListN.{length, drop}
use lib.Seq.{drop-nil, drop-append-le, drop_at}
use native.Mathlib.Numerals.{add-one}
use native.Mathlib.Omega.{arith}
use Rattle.std.specs.declared.option.Option.TheVariants.{None, Some}
use Rattle.words.proofs.Tests.{by_test, eq_yes, eq_no, eq_of, ne_of, lt_yes, lt_no, lt_of, nlt_of}
use Rattle.xrtree.specs.Tree as tree
use Rattle.regions.specs.declared.Region.{Region}
use Rattle.pages.specs.Layout.{page_count, page_of, fill_of, next_of, region_in, entry_word, flag_in}
use Rattle.image.specs.Read.{entry_at, entries_from}
use Rattle.image.proofs.Listings.{entries_long}
use Rattle.leaves.specs.declared.Cursor.{Cursor}
use Rattle.leaves.specs.Cursors.{entries_in, leaves_from, leaves_at, Chain, left, Ready, Stands, cursor_at, moved_on, step_from, handed}
use Rattle.leaves.specs.Cursors.Chain.{done, link}

-- LEAVES THAT END are what is read by following the links, with as many steps as there are leaves or more
pub chain_read : {w : List ℕ} {q : ℕ} {qs : List ℕ} (n : ℕ) → Chain w q qs → length qs ≤ n → leaves_from n w q ≡ qs
unfolding leaves_from
chain_read zero done l = refl
chain_read (suc n) done l = refl
chain_read zero (link a b c k) l = absurd (omega arith)
chain_read {w = w} (suc n) (link {q = q} a b c k) l = rw (eq_no q 0 (omega arith)) (ap (q ∷◌) (chain_read {q = next_of (page_of w q)} n k (omega arith)))

leaves_few : (n : ℕ) (w : List ℕ) (q : ℕ) → length (leaves_from n w q) ≤ n
unfolding leaves_from
leaves_few zero w q = omega arith
leaves_few (suc n) w q =
    let r = leaves_few n w (next_of (page_of w q)) in
    by_test (eqb q 0) (λ h. rw h (omega arith)) (λ h. rw h (omega arith))

pub record Onward (w : List ℕ) (q : ℕ) (qs : List ℕ) : Type 0 where
  pub rest : List ℕ
  pub is : qs ≡ q ∷ rest
  pub some : 1 ≤ fill_of (page_of w q)
  pub few : fill_of (page_of w q) ≤ 8
  pub on : Chain w (next_of (page_of w q)) rest

pub chain_on : {w : List ℕ} {q : ℕ} {qs : List ℕ} → Chain w q qs → (q ≡ 0 → ⊥) → Onward w q qs
chain_on done n = absurd (n refl)
chain_on (link {qs = qs} a b c k) n = record { rest = qs; is = refl; some = b; few = c; on = k }

-- the leaves from a leaf on, with the steps that all leaves of a set want at most
pub record Leads (w : List ℕ) (q : ℕ) : Type 0 where
  pub is : leaves_at w q ≡ q ∷ leaves_at w (next_of (page_of w q))
  pub some : 1 ≤ fill_of (page_of w q)
  pub few : fill_of (page_of w q) ≤ 8
  pub on : Chain w (next_of (page_of w q)) (leaves_at w (next_of (page_of w q)))

pub leads : (w : List ℕ) (q : ℕ) → Chain w q (leaves_at w q) → (q ≡ 0 → ⊥) → Leads w q
leads w q k n =
    let o = chain_on k n in
    let l : length o.rest ≤ page_count = omega (arith, leaves_few page_count w q, ap length o.is) in
    let r : leaves_at w (next_of (page_of w q)) ≡ o.rest = chain_read page_count o.on l in
    record { is = rw r o.is; some = o.some; few = o.few; on = rw r o.on }

-- the leaves' entries
pub entries_in_long : (w : List ℕ) (p : ℕ) → length (entries_in w p) ≡ fill_of (page_of w p)
unfolding entries_in
entries_in_long w p = entries_long (page_of w p) 0 (fill_of (page_of w p))

entry_at_lem : (ws : List ℕ) (i m j : ℕ) → j < m → drop j (entries_from ws i m) ≡ entry_at ws (i + j) ∷ drop (suc j) (entries_from ws i m)
unfolding entries_from
entry_at_lem ws i zero j l = absurd (omega arith)
entry_at_lem ws i (suc m) zero l = let e : i + 0 ≡ i = omega arith in rw e
entry_at_lem ws i (suc m) (suc j) l = let e : i + suc j ≡ suc i + j = omega arith in rw e (entry_at_lem ws (suc i) m j (omega arith))

-- THE END: nothing is left there
leaves_none : (n : ℕ) (w : List ℕ) → leaves_from n w 0 ≡ []
unfolding leaves_from
leaves_none zero w = refl
leaves_none (suc n) w = refl

pub left_end : (w : List ℕ) (c : Cursor) → c.leaf ≡ 0 → left w c ≡ []
unfolding left flat_map
left_end w c e =
    ap (λ q. drop c.at (flat_map (entries_in w) (leaves_at w q))) e
    ∙ ap (λ l. drop c.at (flat_map (entries_in w) l)) (leaves_none page_count w) ∙ drop-nil c.at

-- A CURSOR AT AN ENTRY and a step, as the code makes them
pub cursor_in : (w : List ℕ) (p i n : ℕ) → n ≡ fill_of (page_of w p) → i < n → record { leaf = p; at = i } ≡ cursor_at w p i
unfolding cursor_at
cursor_in w p i n e l = rw (lt_yes i (fill_of (page_of w p)) (rw e at l))

pub cursor_next : (w : List ℕ) (p i n q : ℕ) → n ≡ fill_of (page_of w p) → n ≤ i → q ≡ next_of (page_of w p) → record { leaf = q; at = 0 } ≡ cursor_at w p i
unfolding cursor_at
cursor_next w p i n q e l f = rw (lt_no i (fill_of (page_of w p)) (rw e at l), f)

pub step_end : (w : List ℕ) (c : Cursor) → c.leaf ≡ 0 → None ≡ step_from w c
unfolding step_from
step_end w c e = rw (eq_yes c.leaf 0 e)

pub step_next : (w : List ℕ) (c on : Cursor) (f : ℕ) (r : Region) → (c.leaf ≡ 0 → ⊥) → r ≡ region_in (page_of w c.leaf) (entry_word c.at)
    → f ≡ flag_in (page_of w c.leaf) c.at → on ≡ moved_on w c → Some (record { region = r; flag = f }, on) ≡ step_from w c
unfolding step_from
step_next w c on f r n a b m = rw (eq_no c.leaf 0 n, a, b, m)

-- A STEP, of a cursor that is ready: the entry it hands comes first of what is left, and the rest is left
pub record Goes (w : List ℕ) (c : Cursor) : Type 0 where
  pub few : c.at < 8
  pub ahead : left w c ≡ entry_at (page_of w c.leaf) c.at ∷ left w (moved_on w c)
  pub ready : Ready w (moved_on w c)

module _ (w : List ℕ) (c : Cursor) (r : Ready w c) (n : c.leaf ≡ 0 → ⊥) where
  abbrev rest : List tree.Entry
  rest = flat_map (entries_in w) (leaves_at w (next_of (page_of w c.leaf)))

  here : flat_map (entries_in w) (leaves_at w c.leaf) ≡ entries_in w c.leaf ++ rest
  unfolding flat_map
  here = ap (flat_map (entries_in w)) (leads w c.leaf r.chain n).is

  left_first : left w c ≡ entry_at (page_of w c.leaf) c.at ∷ drop (suc c.at) (entries_in w c.leaf ++ rest)
  unfolding left entries_in
  left_first =
      let ws = page_of w c.leaf in
      let es = entries_from ws 0 (fill_of ws) in
      let l : length es ≡ fill_of ws = entries_long ws 0 (fill_of ws) in
      let i = r.inside n in
      let z : 0 + c.at ≡ c.at = omega arith in
      ap (drop c.at) here ∙ drop-append-le c.at es rest (omega arith) ∙ ap (◌++ rest) (entry_at_lem ws 0 (fill_of ws) c.at i)
      ∙ rw (z, drop-append-le (suc c.at) es rest (omega arith))

  goes_in : c.at + 1 < fill_of (page_of w c.leaf) → Goes w c
  unfolding left
  goes_in l =
      let L = leads w c.leaf r.chain n in
      let m = cursor_in w c.leaf (c.at + 1) (fill_of (page_of w c.leaf)) refl l in
      record {
        few = omega (arith, L.few);
        ahead = rw (← m) (left_first ∙ rw (here, add-one c.at));
        ready = rw (← m) (record { chain = r.chain; ended = λ e. absurd (n e); inside = λ e. l });
      }

  goes_out : fill_of (page_of w c.leaf) ≤ c.at + 1 → Goes w c
  unfolding left
  goes_out l =
      let L = leads w c.leaf r.chain n in
      let m = cursor_next w c.leaf (c.at + 1) (fill_of (page_of w c.leaf)) (next_of (page_of w c.leaf)) refl l refl in
      let e : length (entries_in w c.leaf) ≡ suc c.at = omega (arith, entries_in_long w c.leaf, r.inside n) in
      record {
        few = omega (arith, L.few, r.inside n);
        ahead = rw (← m) (left_first ∙ rw (drop_at (entries_in w c.leaf) rest (suc c.at) e));
        ready = rw (← m) (record { chain = L.on; ended = λ e. refl; inside = λ e. (leads w (next_of (page_of w c.leaf)) L.on e).some });
      }

  pub goes : Goes w c
  goes =
      by_test (ltb (c.at + 1) (fill_of (page_of w c.leaf))) (λ h. goes_in (lt_of (c.at + 1) (fill_of (page_of w c.leaf)) h))
      (λ h. goes_out (nlt_of (c.at + 1) (fill_of (page_of w c.leaf)) h))

-- so a ready cursor, ended or not, may be stepped
pub ready_few : (w : List ℕ) (c : Cursor) → Ready w c → c.at < 9
ready_few w c r =
    by_test (eqb c.leaf 0) (λ h. omega (arith, r.ended (eq_of c.leaf 0 h)))
    (λ h. omega (arith, (goes w c r (ne_of c.leaf 0 h)).few))

-- WHAT A STEP ANSWERS, for a cursor that stands before es: the end where es is empty, else its first entry and a cursor that stands before the rest
pub stands_end : (w : List ℕ) (c : Cursor) → Stands w c [] → step_from w c ≡ None
stands_end w c s =
    by_test (eqb c.leaf 0) (λ h. sym (step_end w c (eq_of c.leaf 0 h)))
    (λ h. absurd (nothing (left w (moved_on w c)) (sym s.ahead ∙ (goes w c s.ready (ne_of c.leaf 0 h)).ahead)))
  where
    nothing : {e : tree.Entry} (es : List tree.Entry) → [] ≡ e ∷ es → ⊥
    nothing es h = omega (arith, ap length h)

pub stands_step : (w : List ℕ) (c : Cursor) (e : tree.Entry) (es : List tree.Entry) → Stands w c (e ∷ es) → (step_from w c ≡ Some (handed e, moved_on w c)) × Stands w (moved_on w c) es
unfolding step_from
stands_step w c e es s =
    by_test (eqb c.leaf 0) (λ h. absurd (let z = ap length (sym (left_end w c (eq_of c.leaf 0 h)) ∙ s.ahead) in omega arith))
    (λ h.
    let g = goes w c s.ready (ne_of c.leaf 0 h) in
    let both = sym s.ahead ∙ g.ahead in
    let first : e ≡ entry_at (page_of w c.leaf) c.at = cc in
    let rest : left w (moved_on w c) ≡ es = cc in
    (rw (h, first), record { ready = g.ready; ahead = rest }))
