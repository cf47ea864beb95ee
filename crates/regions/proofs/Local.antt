-- Accounts do not meet: what a call about one account is told depends on that account's regions alone, and it changes no others.
-- Assumes nothing.
use Prim.Native.Nat.{ℕ, ◌<◌}
use mathlib.Core.Path.{◌≡◌, refl, sym, ap, ap₂, ◌∙◌, subst}
use mathlib.Core.Logic.{◌⊎◌, inl, inr}
use mathlib.Core.Bool.{Bool, true, false, not, cond}
use mathlib.Core.List.{List, [], ◌∷◌, ◌++◌, flat_map, append-nil}
use lib.Dec.{leb}
use lib.ListN.{length}
use native.Mathlib.Omega.{arith}
use native.Mathlib.Decide.{dec_lt}
use Rattle.words.specs.Lists.{filter, some, All, first_no}
use Rattle.words.proofs.Tests.{not_false, first_else}
use Rattle.words.proofs.Listed.{all_mono, all_every, all_let, filter_append, filter_all, filter_none, filter_comm, filter_within, filter_twice}
use Rattle.words.proofs.Says.{true_so, so_true, so_false}
use Rattle.regions.specs.declared.Region.{Region}
use Rattle.regions.specs.declared.Choice.{Choice}
use Rattle.regions.specs.declared.Kind.{Kind}
use Rattle.regions.specs.Positions.{document, account, well_bound, well_formed, crosses, contradicts, holds, inside, is_above, is_below}
use Rattle.regions.specs.Sets.{Set, of, only, held_by, share_of, is_at, held_at, crossed, contradicted, starts_before, starts_behind, saved, is_not_at, deleted}
use Rattle.regions.specs.Numbers.{REGION, ACCOUNT, HELD, CROSS, LEVEL, SHARE, ABSENT}
use Rattle.regions.specs.Sound.{Wf}
use Rattle.regions.specs.Calls.{foreign, save_no, delete_no, ancestors, parent, descendants, children, pairs_of, joined}
use Rattle.regions.proofs.Means.{Formed, formed_says, bound_says, foreign_says, crosses_says, Misleveled, contradicts_says, late_near, holds_says, inside_says, of_says, at_says, before_says, behind_says}

-- POSITIONS AND REGIONS OF ONE ACCOUNT
pub one_account : (p q : ℕ) → document p ≡ document q → account p ≡ account q
one_account p q e = omega arith

pub wf : (r : Region) → Wf r → Formed r
wf r h = true_so (formed_says r) h

-- a position that is not foreign to an account is its own
pub own : (a p : ℕ) → foreign a p ≡ false → account p ≡ a
own a p h = (true_so (foreign_says a p) (ap not h)).1

-- what crosses a well-formed region or contradicts its level, what holds a position, what starts inside well-formed bounds, what starts there
pub crosses_account : (r x : Region) → Wf r → Wf x → crosses r x ≡ true → of (account r.start) x ≡ true
crosses_account r x hr hx h =
    let f = wf r hr in
    let g = wf x hx in
    let c = true_so (crosses_says r x) h in
    so_true (of_says (account r.start) x) (one_account x.start r.start (omega arith))

pub contradicts_account : (r x : Region) → Wf r → Wf x → contradicts r x ≡ true → of (account r.start) x ≡ true
contradicts_account r x hr hx h = so_true (of_says (account r.start) x) (one_account x.start r.start (one (wf r hr) (wf x hx) (true_so (contradicts_says r x) h)))
  where
    one : Formed r → Formed x → Misleveled r x ⊎ Misleveled x r → document x.start ≡ document r.start
    one f g (inl c) = omega arith
    one f g (inr c) = omega arith

pub holds_account : (ch : Choice) (p : ℕ) (x : Region) → Wf x → holds ch p x ≡ true → of (account p) x ≡ true
holds_account ch p x hx h =
    let g = wf x hx in
    let c = true_so (holds_says ch p x) h in
    so_true (of_says (account p) x) (one_account x.start p (omega (arith, late_near ch p)))

pub inside_account : (s e : ℕ) (x : Region) → well_bound s e ≡ true → inside s e x ≡ true → of (account s) x ≡ true
inside_account s e x hb h =
    let g = true_so (bound_says s e) hb in
    let c = true_so (inside_says s e x) h in
    so_true (of_says (account s) x) (one_account x.start s (omega arith))

pub at_account : (s : ℕ) (x : Region) → is_at s x ≡ true → of (account s) x ≡ true
at_account s x h = so_true (of_says (account s) x) (ap account (true_so (at_says s x) h))

-- WHAT A CALL IS TOLD
pub held_local : (S : Set) (s : ℕ) → held_at s S ≡ held_at s (only (account s) S)
held_local S s = ap some (filter_within (is_at s) (of (account s)) S.regions (all_every (λ x. at_account s x) S.regions))

pub crossed_local : (S : Set) (r : Region) → Wf r → All Wf S.regions → crossed r S ≡ crossed r (only (account r.start) S)
crossed_local S r hr hs = ap some (filter_within (crosses r) (of (account r.start)) S.regions (all_mono (λ x hx. crosses_account r x hr hx) S.regions hs))

pub contradicted_local : (S : Set) (r : Region) → Wf r → All Wf S.regions → contradicted r S ≡ contradicted r (only (account r.start) S)
contradicted_local S r hr hs =
    ap some (filter_within (contradicts r) (of (account r.start)) S.regions (all_mono (λ x hx. contradicts_account r x hr hx) S.regions hs))

pub count_local : (S : Set) (a : ℕ) → held_by a S ≡ held_by a (only a S)
count_local S a = ap length (sym (filter_twice (of a) S.regions))

pub save_local : (S : Set) (a : ℕ) (r : Region) → All Wf S.regions → save_no S a r ≡ save_no (only a S) a r
unfolding save_no
save_local S a r hs =
    first_else (not (well_formed r)) REGION _ _ (λ n. first_else (foreign a r.start) ACCOUNT _ _ (λ f.
    let e = own a r.start f in
    let h : held_at r.start S ≡ held_at r.start (only a S) = subst (λ (b : ℕ). held_at r.start S ≡ held_at r.start (only b S)) e (held_local S r.start) in
    let c : crossed r S ≡ crossed r (only a S) = subst (λ (b : ℕ). crossed r S ≡ crossed r (only b S)) e (crossed_local S r (not_false _ n) hs) in
    let d : contradicted r S ≡ contradicted r (only a S) = subst (λ (b : ℕ). contradicted r S ≡ contradicted r (only b S)) e (contradicted_local S r (not_false _ n) hs) in
    let k = count_local S a in
    λ i. first_no ((h i, HELD) ∷ (c i, CROSS) ∷ (d i, LEVEL) ∷ (leb (share_of a S) (k i), SHARE) ∷ [])))

pub delete_local : (S : Set) (a s : ℕ) → delete_no S a s ≡ delete_no (only a S) a s
unfolding delete_no
delete_local S a s =
    first_else (foreign a s) ACCOUNT _ _ (λ f.
    let h : held_at s S ≡ held_at s (only a S) = subst (λ (b : ℕ). held_at s S ≡ held_at s (only b S)) (own a s f) (held_local S s) in
    ap (λ (z : Bool). first_no ((not z, ABSENT) ∷ [])) h)

pub ancestors_local : (S : Set) (a : ℕ) (ch : Choice) (p : ℕ) → All Wf S.regions → account p ≡ a → ancestors ch p S ≡ ancestors ch p (only a S)
ancestors_local S a ch p hs e =
    subst (λ (b : ℕ). ancestors ch p S ≡ ancestors ch p (only b S)) e
    (filter_within (holds ch p) (of (account p)) S.regions (all_mono (λ x hx. holds_account ch p x hx) S.regions hs))

pub parent_local : (S : Set) (a p l : ℕ) → All Wf S.regions → account p ≡ a → parent p l S ≡ parent p l (only a S)
parent_local S a p l hs e = ap (filter (is_above l)) (ancestors_local S a _ p hs e)

pub descendants_local : (S : Set) (a s e after : ℕ) → well_bound s e ≡ true → account s ≡ a → descendants s e after S ≡ descendants s e after (only a S)
descendants_local S a s e after hb h =
    subst (λ (b : ℕ). descendants s e after S ≡ descendants s e after (only b S)) h
    (ap (filter (starts_behind after)) (filter_within (inside s e) (of (account s)) S.regions (all_every (λ x. inside_account s e x hb) S.regions)))

pub children_local : (S : Set) (a s e l after : ℕ) → well_bound s e ≡ true → account s ≡ a → children s e l after S ≡ children s e l after (only a S)
children_local S a s e l after hb h = ap (filter (is_below l)) (descendants_local S a s e after hb h)

pub joined_local : (X Y : Set) (a : ℕ) (k : Kind) → joined X Y a k ≡ joined (only a X) (only a Y) a k
unfolding joined
joined_local X Y a k = ap₂ (λ xs ys. flat_map (pairs_of k xs) ys) (sym (filter_twice (of a) X.regions)) (sym (filter_twice (of a) Y.regions))

-- WHAT A SAVE AND A DELETE CHANGE
abbrev set_with : Set → List Region → Set
set_with S l = record { shares = S.shares; regions = l }

-- one account's part of a list with a region put in at its start
abbrev put : Bool → Region → List Region → List Region
put b r l = cond b (r ∷ l) l

put_of : (b : ℕ) (r : Region) (l : List Region) → filter (of b) (r ∷ l) ≡ put (of b r) r (filter (of b) l)
unfolding filter
put_of b r l = refl

pub saved_of : (b : ℕ) (r : Region) (l : List Region)
    → filter (of b) (filter (starts_before r.start) l ++ r ∷ filter (starts_behind r.start) l)
    ≡ filter (starts_before r.start) (filter (of b) l) ++ cond (of b r) (r ∷ filter (starts_behind r.start) (filter (of b) l)) (filter (starts_behind r.start) (filter (of b) l))
saved_of b r l =
    filter_append (of b) (filter (starts_before r.start) l) (r ∷ filter (starts_behind r.start) l)
    ∙ ap₂ ◌++◌ (filter_comm (of b) (starts_before r.start) l) (put_of b r (filter (starts_behind r.start) l) ∙ ap (put (of b r) r) (filter_comm (of b) (starts_behind r.start) l))

pub saved_only : (S : Set) (b : ℕ) (r : Region) → only b (saved r S) ≡ only b (saved r (only b S))
unfolding saved
saved_only S b r =
    ap (set_with S)
    (saved_of b r S.regions
    ∙ ap (λ l. filter (starts_before r.start) l ++ put (of b r) r (filter (starts_behind r.start) l)) (sym (filter_twice (of b) S.regions))
    ∙ sym (saved_of b r (filter (of b) S.regions)))

pub deleted_of : (S : Set) (b s : ℕ) → only b (deleted s S) ≡ deleted s (only b S)
unfolding deleted
deleted_of S b s = ap (set_with S) (filter_comm (of b) (is_not_at s) S.regions)

pub deleted_only : (S : Set) (b s : ℕ) → only b (deleted s S) ≡ only b (deleted s (only b S))
deleted_only S b s = deleted_of S b s ∙ ap (λ l. deleted s (set_with S l)) (sym (filter_twice (of b) S.regions)) ∙ sym (deleted_of (only b S) b s)

not_at : (b s : ℕ) (x : Region) → (b ≡ account s → ⊥) → of b x ≡ true → is_not_at s x ≡ true
not_at b s x n h = ap not (so_false (at_says s x) (λ e. n (sym (true_so (of_says b x) h) ∙ ap account e)))

pub deleted_other : (S : Set) (b s : ℕ) → (b ≡ account s → ⊥) → only b (deleted s S) ≡ only b S
unfolding deleted
deleted_other S b s n =
    ap (set_with S)
    (filter_comm (of b) (is_not_at s) S.regions
    ∙ filter_all (is_not_at s) (filter (of b) S.regions) (all_mono (λ x h. not_at b s x n h) (filter (of b) S.regions) (all_let (of b) S.regions)))

-- the regions of another account lie all on one side
lower : (b : ℕ) (r x : Region) → b < account r.start → of b x ≡ true → (starts_before r.start x ≡ true) × (starts_behind r.start x ≡ false)
lower b r x l h =
    let e = true_so (of_says b x) h in
    let g : x.start < r.start = omega arith in
    (so_true (before_says r.start x) g, so_false (behind_says r.start x) (λ k. omega arith))

higher : (b : ℕ) (r x : Region) → account r.start < b → of b x ≡ true → (starts_before r.start x ≡ false) × (starts_behind r.start x ≡ true)
higher b r x l h =
    let e = true_so (of_says b x) h in
    let g : r.start < x.start = omega arith in
    (so_false (before_says r.start x) (λ k. omega arith), so_true (behind_says r.start x) g)

pub saved_other : (S : Set) (b : ℕ) (r : Region) → (b ≡ account r.start → ⊥) → only b (saved r S) ≡ only b S
unfolding saved
saved_other S b r n =
    let l = filter (of b) S.regions in
    let k = all_let (of b) S.regions in
    ap (set_with S)
    (saved_of b r S.regions ∙ ap (λ z. filter (starts_before r.start) l ++ put z r (filter (starts_behind r.start) l)) (so_false (of_says b r) (λ e. n (sym e)))
    ∙ elim (dec_lt b (account r.start)) [
      | yes u ↦
          ap₂ ◌++◌ (filter_all (starts_before r.start) l (all_mono (λ x h. (lower b r x u h).0) l k)) (filter_none (starts_behind r.start) l (all_mono (λ x h. (lower b r x u h).1) l k))
          ∙ append-nil l
      | no u ↦
          let v : account r.start < b = omega arith in
          ap₂ ◌++◌ (filter_none (starts_before r.start) l (all_mono (λ x h. (higher b r x v h).0) l k)) (filter_all (starts_behind r.start) l (all_mono (λ x h. (higher b r x v h).1) l k))
    ])
