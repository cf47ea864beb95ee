-- Flags of a leaf's first entries, one by one.
-- Assumes nothing.
use Prim.Native.Nat.{ℕ, zero, suc, ◌+◌, ◌<◌}
use mathlib.Core.Path.{◌≡◌, refl, sym, ap, ap₂, ◌∙◌}
use mathlib.Core.Bool.{true, false}
use mathlib.Core.List.{List, [], ◌∷◌, ◌++◌, map, append_assoc}
use lib.ListN.{length, get_or, take, drop}
use lib.Seq.{take-suc, drop-cons, length-take-le, get_or_at}
use native.Mathlib.Omega.{arith}
use Rattle.words.proofs.Listed.{map_append}
use Rattle.regions.specs.Positions.{stabs}
use Rattle.xrtree.specs.Tree.{Entry}
use Rattle.xrtree.specs.Moves.{marked}
use Rattle.xrtree.proofs.CutLeaf.{marked_off}
use Rattle.pages.specs.Layout.{mark_of, fill_of, next_of, region_in, entry_word}
use Rattle.image.specs.Read.{entry_at, entries_from}
use Rattle.newpages.specs.Pages.{put_for, flagged_entry, entries_of, spares_of, IsLeaf}
use Rattle.newpages.proofs.Read.{entries_up, entry_in}
use Rattle.newpages.proofs.Items.{up_long}
use Rattle.newkey.specs.Moves.{Flagged}

pub map_long : {A B : Type 0} (f : A → B) (xs : List A) → length (map f xs) ≡ length xs
map_long f [] = refl
map_long f (x ∷ xs) = ap suc (map_long f xs)

pub entries_long : (ws : List ℕ) (i m : ℕ) → length (entries_from ws i m) ≡ m
entries_long ws i m = ap length (entries_up ws i m) ∙ up_long (entry_at ws) i m

-- another element behind the first ones
pub put_at_lem : {A : Type 0} (xs : List A) (y z : A) (ys : List A) (j : ℕ) → length xs ≡ j → put_for j z (xs ++ y ∷ ys) ≡ xs ++ z ∷ ys
put_at_lem [] y z ys zero e = refl
put_at_lem [] y z ys (suc j) e = absurd (omega arith)
put_at_lem (x ∷ xs) y z ys zero e = absurd (omega arith)
put_at_lem (x ∷ xs) y z ys (suc j) e = ap (x ∷◌) (put_at_lem xs y z ys j (omega arith))

pub flag_start : (leaf : List ℕ) (k : ℕ) → Flagged leaf 0 k leaf
flag_start leaf k = record { mark_is = refl; fill_is = refl; next_is = refl; entries_are = refl; spares_are = refl }

module _ (leaf : List ℕ) (k j : ℕ) (h : j < fill_of leaf) where
  pub first : List Entry
  first = map (marked k) (take j (entries_of leaf))

  pub many : length (entries_of leaf) ≡ fill_of leaf
  many = entries_long leaf 0 (fill_of leaf)

  pub here : get_or (entries_of leaf) j (entry_at leaf j) ≡ entry_at leaf j
  here = let e : 0 + j ≡ j = omega arith in rw e at (entry_in leaf 0 (fill_of leaf) j (entry_at leaf j) h)

  pub first_long : length first ≡ j
  unfolding first
  first_long = map_long (marked k) (take j (entries_of leaf)) ∙ length-take-le j (entries_of leaf) (omega (arith, many))

  pub now_is : map (marked k) (take j (entries_of leaf)) ++ drop j (entries_of leaf) ≡ first ++ entry_at leaf j ∷ drop (suc j) (entries_of leaf)
  unfolding first
  now_is = ap (λ (l : List Entry). map (marked k) (take j (entries_of leaf)) ++ l) (drop-cons (entries_of leaf) j (entry_at leaf j) (omega (arith, many)) ∙ ap (λ e. e ∷ drop (suc j) (entries_of leaf)) here)

  pub then_is : map (marked k) (take (j + 1) (entries_of leaf)) ++ drop (j + 1) (entries_of leaf) ≡ first ++ marked k (entry_at leaf j) ∷ drop (suc j) (entries_of leaf)
  unfolding first
  then_is =
      let e : j + 1 ≡ suc j = omega arith in
      rw e
      (ap (λ (l : List Entry). map (marked k) l ++ drop (suc j) (entries_of leaf)) (take-suc (entries_of leaf) j (entry_at leaf j) (omega (arith, many)) ∙ ap (λ e. take j (entries_of leaf) ++ e ∷ []) here)
      ∙ ap (λ (l : List Entry). l ++ drop (suc j) (entries_of leaf)) (map_append (marked k) (take j (entries_of leaf)) (entry_at leaf j ∷ []))
      ∙ append_assoc (map (marked k) (take j (entries_of leaf))) (marked k (entry_at leaf j) ∷ []) (drop (suc j) (entries_of leaf)))

  pub flag_pass : (ws : List ℕ) → Flagged leaf j k ws → stabs k (region_in leaf (entry_word j)) ≡ false → Flagged leaf (j + 1) k ws
  flag_pass ws g n =
      record {
        mark_is = g.mark_is;
        fill_is = g.fill_is;
        next_is = g.next_is;
        entries_are = g.entries_are ∙ now_is ∙ ap (λ e. first ++ e ∷ drop (suc j) (entries_of leaf)) (sym (marked_off k (entry_at leaf j) n)) ∙ sym then_is;
        spares_are = g.spares_are;
      }

  pub marked_is : (ws : List ℕ) → Flagged leaf j k ws → stabs k (region_in leaf (entry_word j)) ≡ true → flagged_entry ws j 1 ≡ marked k (entry_at leaf j)
  unfolding marked
  marked_is ws g t =
      let e : 0 + j ≡ j = omega arith in
      let same : entry_at ws j ≡ entry_at leaf j =
      sym (rw e at (entry_in ws 0 (fill_of ws) j (entry_at leaf j) (omega (arith, g.fill_is)))) ∙ ap (λ l. get_or l j (entry_at leaf j)) (g.entries_are ∙ now_is)
      ∙ get_or_at first (entry_at leaf j) (drop (suc j) (entries_of leaf)) (entry_at leaf j) j first_long in
      rw t (ap (λ (x : Entry). record { region = x.region; flag = 1 }) same)

  pub flag_set : (ws s : List ℕ) → Flagged leaf j k ws → stabs k (region_in leaf (entry_word j)) ≡ true
      → IsLeaf s (mark_of ws) (fill_of ws) (next_of ws) (put_for j (flagged_entry ws j 1) (entries_of ws)) (spares_of ws) → Flagged leaf (j + 1) k s
  flag_set ws s g t i =
      record {
        mark_is = i.mark_is ∙ g.mark_is;
        fill_is = i.fill_is ∙ g.fill_is;
        next_is = i.next_is ∙ g.next_is;
        entries_are =
            i.entries_are ∙ ap₂ (put_for j) (marked_is ws g t) (g.entries_are ∙ now_is)
            ∙ put_at_lem first (entry_at leaf j) (marked k (entry_at leaf j)) (drop (suc j) (entries_of leaf)) j first_long ∙ sym then_is;
        spares_are = i.spares_are ∙ g.spares_are;
      }
