-- Each promise of a call that asks has one result: any two results that it allows are equal.
-- Assumes nothing.
use Prim.Native.Nat.{ℕ}
use mathlib.Core.Path.{◌≡◌, refl, sym, ap, ◌∙◌}
use mathlib.Core.Bool.{Bool, true≢false}
use mathlib.Core.List.{List, head-eq_of_cons-eq}
use Rattle.std.specs.Prelude.{Option, Some, None, Result, Ok}
use Rattle.words.specs.Lists.{some}
use Rattle.words.proofs.Tests.{either_way}
use Rattle.regions.specs.Refusals.{number_told}
use Rattle.regions.specs.declared.Refusal.{Refusal}
use Rattle.regions.proofs.Refused.{same_told}
use Rattle.regions.specs.declared.Region.{Region}
use Rattle.regions.specs.declared.Choice.{Choice}
use Rattle.regions.specs.declared.Kind.{Kind}
use Rattle.queries.specs.Searches.{FindsAncestors, parent_found, FindsParent, Lists}
use Rattle.queries.specs.Joins.{JoinsSets}

pub ancestors_once : (w : List ℕ) (a p : ℕ) (ch : Choice) (out : List ℕ) (m n s t i j : ℕ) (u v : List ℕ) → FindsAncestors w a p ch out m s i u → FindsAncestors w a p ch out n t j v
    → (m ≡ n) × (s ≡ t) × (i ≡ j) × (u ≡ v)
ancestors_once w a p ch out m n s t i j u v x y =
    let e : m ≡ n = x.number_is ∙ sym y.number_is in
    either_way m n e
    (λ c d. (e, (x.done c).0 ∙ sym (y.done d).0, (x.done c).1 ∙ sym (y.done d).1, (x.done c).2 ∙ sym (y.done d).2))
    (λ c d. (e, (x.refused c).0 ∙ sym (y.refused d).0, (x.refused c).1 ∙ sym (y.refused d).1, (x.refused c).2 ∙ sym (y.refused d).2))

-- the parent search's answer
same_found : (x y : Option Region) → parent_found (Ok x) ≡ parent_found (Ok y) → x ≡ y
unfolding parent_found some
same_found None None f = refl
same_found None (Some s) f = absurd (true≢false (sym (ap some f)))
same_found (Some r) None f = absurd (true≢false (ap some f))
same_found (Some r) (Some s) f = ap Some (head-eq_of_cons-eq f)

pub same_answer : (x y : Result (Option Region) Refusal) → number_told x ≡ number_told y → parent_found x ≡ parent_found y → x ≡ y
same_answer x y e f = same_told x y e (λ a b p q. same_found a b (ap parent_found (sym p) ∙ f ∙ ap parent_found q))

pub parent_once : (w : List ℕ) (a p l : ℕ) (x y : Result (Option Region) Refusal) → FindsParent w a p l x → FindsParent w a p l y → x ≡ y
parent_once w a p l x y f g =
    let e : number_told x ≡ number_told y = f.number_is ∙ sym g.number_is in
    same_answer x y e (either_way (number_told x) (number_told y) e (λ c d. f.done c ∙ sym (g.done d)) (λ c d. f.refused c ∙ sym (g.refused d)))

pub lists_once : (w : List ℕ) (a b e : ℕ) (rs : List Region) (out : List ℕ) (m n s t : ℕ) (i j : Bool) (u v : List ℕ) → Lists w a b e rs out m s i u → Lists w a b e rs out n t j v
    → (m ≡ n) × (s ≡ t) × (i ≡ j) × (u ≡ v)
lists_once w a b f rs out m n s t i j u v x y =
    let e : m ≡ n = x.number_is ∙ sym y.number_is in
    either_way m n e
    (λ c d. (e, (x.done c).0 ∙ sym (y.done d).0, (x.done c).1 ∙ sym (y.done d).1, (x.done c).2 ∙ sym (y.done d).2))
    (λ c d. (e, (x.refused c).0 ∙ sym (y.refused d).0, (x.refused c).1 ∙ sym (y.refused d).1, (x.refused c).2 ∙ sym (y.refused d).2))

pub joins_once : (outer inner : List ℕ) (a : ℕ) (k : Kind) (out : List ℕ) (m n s t : ℕ) (u v : List ℕ) → JoinsSets outer inner a k out m s u → JoinsSets outer inner a k out n t v
    → (m ≡ n) × (s ≡ t) × (u ≡ v)
joins_once outer inner a k out m n s t u v x y =
    let e : m ≡ n = x.number_is ∙ sym y.number_is in
    either_way m n e
    (λ c d. (e, (x.done c).0 ∙ sym (y.done d).0, (x.done c).1 ∙ sym (y.done d).1))
    (λ c d. (e, (x.refused c).0 ∙ sym (y.refused d).0, (x.refused c).1 ∙ sym (y.refused d).1))
