-- Flags of entries whose list is given up: the walk along the list (`in_list`), and the leaf, entry by entry (`clear_flags`).
-- Assumes nothing.
use Prim.Native.Nat.{ℕ, zero, suc, ◌+◌, ◌*◌, ◌≤◌, ◌<◌}
use mathlib.Core.Path.{◌≡◌, refl, sym, ap, ◌∙◌}
use mathlib.Core.Logic.{◌≢◌}
use mathlib.Core.Bool.{true, false}
use mathlib.Core.List.{List, [], ◌∷◌, ◌++◌, map}
use lib.Dec.{eqb}
use lib.ListN.{length, get_or, take, drop}
use native.Mathlib.Omega.{arith}
use Rattle.words.proofs.Tests.{eq_yes, eq_no}
use Rattle.regions.specs.declared.Region.{Region}
use Rattle.xrtree.specs.Tree.{Entry}
use Rattle.xrtree.specs.Moves.{any_start, clear}
use Rattle.pages.specs.Layout.{mark_of, fill_of, next_of, record_of, record_next, region_in, entry_word}
use Rattle.image.specs.Read.{entries_from, entry_at, list_places, record_region}
use Rattle.newpages.specs.Pages.{put_for, entries_of, spares_of, flagged_entry, IsLeaf}
use Rattle.newpages.proofs.Items.{up_long}
use Rattle.newpages.proofs.Read.{entries_up, entry_in}
use Rattle.records.specs.Touched.{Ends}
use Rattle.records.proofs.Chains.{step, none_at}

-- THE LIST, from place q on
abbrev pub list_at : List ℕ → ℕ → List Region
list_at w q = map (record_region w) (list_places w q)

pub record ListInv (w : List ℕ) (head start q : ℕ) : Type 0 where
  pub ends : Ends w q
  pub goal : any_start start (list_at w q) ≡ any_start start (list_at w head)

pub list_start : (w : List ℕ) (head start : ℕ) → Ends w head → ListInv w head start head
list_start w head start e = record { ends = e; goal = refl }

module _ {w : List ℕ} {head start q : ℕ} (v : ListInv w head start q) where
  pub list_end : q ≡ 0 → false ≡ any_start start (list_at w head)
  unfolding any_start
  list_end z = rw (none_at v.ends z) at v.goal

  pub list_found : (r : Region) → q ≢ 0 → r ≡ region_in (record_of w q) 0 → r.start ≡ start → true ≡ any_start start (list_at w head)
  unfolding any_start record_region
  list_found r n e t =
      let y : eqb start (get_or (record_of w q) 0 0) ≡ true = eq_yes start (get_or (record_of w q) 0 0) (sym (sym (ap (λ (x : Region). x.start) e) ∙ t)) in
      simp y at (rw (step v.ends n).is at v.goal)

  pub list_on : (r : Region) → q ≢ 0 → r ≡ region_in (record_of w q) 0 → r.start ≢ start → ListInv w head start (record_next (record_of w q))
  unfolding any_start record_region
  list_on r n e t =
      let s = step v.ends n in
      let y : eqb start (get_or (record_of w q) 0 0) ≡ false = eq_no start (get_or (record_of w q) 0 0) (λ z. t (ap (λ (x : Region). x.start) e ∙ sym z)) in
      record { ends = s.on; goal = simp y at (rw s.is at v.goal) }

-- A LIST CHANGED BY f UP TO ELEMENT i
module _ {A : Type 0} (f : A → A) where
  abbrev pub up_to : ℕ → List A → List A
  up_to i xs = map f (take i xs) ++ drop i xs

  pub up_end : (i : ℕ) (xs : List A) → length xs ≤ i → up_to i xs ≡ map f xs
  up_end zero [] h = refl
  up_end zero (x ∷ xs) h = absurd (omega arith)
  up_end (suc i) [] h = refl
  up_end (suc i) (x ∷ xs) h = ap (f x ∷◌) (up_end i xs (omega arith))

  pub up_put : (i : ℕ) (xs : List A) (d y : A) → i < length xs → y ≡ f (get_or (up_to i xs) i d) → put_for i y (up_to i xs) ≡ up_to (suc i) xs
  up_put i [] d y h e = absurd (omega arith)
  up_put zero (x ∷ xs) d y h e = ap (λ z. z ∷ xs) e
  up_put (suc i) (x ∷ xs) d y h e = ap (f x ∷◌) (up_put i xs d y (omega arith) e)

  pub up_stay : (i : ℕ) (xs : List A) (d : A) → i < length xs → get_or (up_to i xs) i d ≡ f (get_or (up_to i xs) i d) → up_to i xs ≡ up_to (suc i) xs
  up_stay i [] d h e = absurd (omega arith)
  up_stay zero (x ∷ xs) d h e = ap (λ z. z ∷ xs) e
  up_stay (suc i) (x ∷ xs) d h e = ap (f x ∷◌) (up_stay i xs d (omega arith) e)

pub entries_long : (ws : List ℕ) (i m : ℕ) → length (entries_from ws i m) ≡ m
entries_long ws i m = ap length (entries_up ws i m) ∙ up_long (entry_at ws) i m

-- THE LEAF, its first i entries cleared
pub record ClearInv (l : List Region) (leaf ws : List ℕ) (i : ℕ) : Type 0 where
  pub high : i ≤ fill_of leaf
  pub mark_is : mark_of ws ≡ mark_of leaf
  pub fill_is : fill_of ws ≡ fill_of leaf
  pub next_is : next_of ws ≡ next_of leaf
  pub spares_are : spares_of ws ≡ spares_of leaf
  pub entries_are : entries_of ws ≡ up_to (clear l) i (entries_of leaf)

pub clear_start : (l : List Region) (leaf : List ℕ) → ClearInv l leaf leaf 0
clear_start l leaf = record { high = omega arith; mark_is = refl; fill_is = refl; next_is = refl; spares_are = refl; entries_are = refl }

pub clear_yes_one : (l : List Region) (r : Region) (flag : ℕ) → any_start r.start l ≡ true → record { region = r; flag = 0 } ≡ clear l (record { region = r; flag = flag })
unfolding clear
clear_yes_one l r flag h = rw h

pub clear_no_one : (l : List Region) (r : Region) (flag : ℕ) → any_start r.start l ≡ false → record { region = r; flag = flag } ≡ clear l (record { region = r; flag = flag })
unfolding clear
clear_no_one l r flag h = rw h

module _ {l : List Region} {leaf ws : List ℕ} {i : ℕ} (v : ClearInv l leaf ws i) where
  -- the entry whose turn it is
  pub here : (d : Entry) → i < fill_of leaf → get_or (up_to (clear l) i (entries_of leaf)) i d ≡ entry_at ws i
  here d h =
      let e : 0 + i ≡ i = omega arith in
      ap (λ (z : List Entry). get_or z i d) (sym v.entries_are) ∙ entry_in ws 0 (fill_of ws) i d (omega (arith, v.fill_is)) ∙ ap (entry_at ws) e

  pub clear_yes : (ws' : List ℕ) (start : ℕ) → i < fill_of leaf → start ≡ get_or ws (3 + 6 * i) 0 → any_start start l ≡ true
      → IsLeaf ws' (mark_of ws) (fill_of ws) (next_of ws) (put_for i (flagged_entry ws i 0) (entries_of ws)) (spares_of ws) → ClearInv l leaf ws' (suc i)
  clear_yes ws' start h e y o =
      record {
        high = omega arith;
        mark_is = o.mark_is ∙ v.mark_is;
        fill_is = o.fill_is ∙ v.fill_is;
        next_is = o.next_is ∙ v.next_is;
        spares_are = o.spares_are ∙ v.spares_are;
        entries_are =
            o.entries_are ∙ ap (put_for i (flagged_entry ws i 0)) v.entries_are
            ∙ up_put (clear l) i (entries_of leaf) (entry_at ws i) (flagged_entry ws i 0) (omega (arith, entries_long leaf 0 (fill_of leaf)))
            (clear_yes_one l (region_in ws (entry_word i)) (entry_at ws i).flag (ap (λ s. any_start s l) (sym e) ∙ y) ∙ ap (clear l) (sym (here (entry_at ws i) h)));
      }

  pub clear_no : (start : ℕ) → i < fill_of leaf → start ≡ get_or ws (3 + 6 * i) 0 → any_start start l ≡ false → ClearInv l leaf ws (suc i)
  clear_no start h e y =
      record {
        high = omega arith;
        mark_is = v.mark_is;
        fill_is = v.fill_is;
        next_is = v.next_is;
        spares_are = v.spares_are;
        entries_are =
            v.entries_are
            ∙ up_stay (clear l) i (entries_of leaf) (entry_at ws i) (omega (arith, entries_long leaf 0 (fill_of leaf)))
            (here (entry_at ws i) h ∙ clear_no_one l (region_in ws (entry_word i)) (entry_at ws i).flag (ap (λ s. any_start s l) (sym e) ∙ y) ∙ ap (clear l) (sym (here (entry_at ws i) h)));
      }

  pub clear_end : fill_of leaf ≤ i → IsLeaf ws (mark_of leaf) (fill_of leaf) (next_of leaf) (map (clear l) (entries_of leaf)) (spares_of leaf)
  clear_end h =
      record {
        mark_is = v.mark_is;
        fill_is = v.fill_is;
        next_is = v.next_is;
        entries_are = v.entries_are ∙ up_end (clear l) i (entries_of leaf) (omega (arith, entries_long leaf 0 (fill_of leaf)));
        spares_are = v.spares_are;
      }
