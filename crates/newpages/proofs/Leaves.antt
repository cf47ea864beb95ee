-- What a leaf holds after each change of its words.
-- Assumes nothing.
use Prim.Native.Nat.{ℕ, suc, ◌+◌, ◌*◌, ◌-◌, ◌<◌, ◌≤◌}
use mathlib.Core.Path.{◌≡◌, sym, ap, ap₂, ◌∙◌}
use mathlib.Core.List.{List, [], ◌∷◌, ◌++◌}
use lib.ListN.{length, get_or, set, take, drop, length-set}
use lib.Seq.{sets, length-sets, get_or-set_same, get_or-set_other}
use native.Mathlib.Omega.{arith}
use Rattle.regions.specs.declared.Region.{Region}
use Rattle.xrtree.specs.Tree.{Entry}
use Rattle.pages.specs.Layout.{mark_of, fill_of, next_of, entry_word}
use Rattle.image.specs.Read.{entry_at, entries_from}
use Rattle.pagewords.specs.Words.{copied_in, headed_by, entry_words}
use Rattle.newpages.specs.Pages.{put_in, taken_out, put_for, new_entry, flagged_entry, entries_of, spare_in, spares_from, spares_of, IsLeaf}
use Rattle.newpages.proofs.Runs.{Seg, seg_self, seg_below, seg_above, seg_in, copy_long, copy_below, copy_in, head_above, head_words}
use Rattle.newpages.proofs.Items.{up_from, up_same, items_in_lem, items_out, items_for, items_left, items_right, items_joined}
use Rattle.newpages.proofs.Read.{first_word, entry_reads, spare_reads, entry_step, entries_up, spares_up}

-- a page with this head is a leaf with the entries and spare words that stand in it
leaf_of : (r : List ℕ) (mark fill next : ℕ) (es : List Entry) (ss : List ℕ) → mark_of r ≡ mark → fill_of r ≡ fill → next_of r ≡ next
    → up_from (entry_at r) 0 fill ≡ es → up_from (spare_in r) 0 fill ≡ ss → IsLeaf r mark fill next es ss
leaf_of r mark fill next es ss m f n e s =
    record {
      mark_is = m;
      fill_is = f;
      next_is = n;
      entries_are = ap (entries_from r 0) f ∙ entries_up r 0 fill ∙ e;
      spares_are = ap (spares_from r 0) f ∙ spares_up r 0 fill ∙ s;
    }

headed_leaf : (u : List ℕ) (mark fill next : ℕ) (es : List Entry) (ss : List ℕ) → 3 ≤ length u
    → up_from (entry_at (headed_by u mark fill next)) 0 fill ≡ es → up_from (spare_in (headed_by u mark fill next)) 0 fill ≡ ss → IsLeaf (headed_by u mark fill next) mark fill next es ss
headed_leaf u mark fill next es ss h e s = let w = head_words u mark fill next h in leaf_of (headed_by u mark fill next) mark fill next es ss w.0 w.1 w.2 e s

-- A leaf with one entry more, as entry i: those behind it have moved up, its words stand in the gap, the fill is raised.
abbrev pub leaf_with : List ℕ → ℕ → Region → ℕ → List ℕ
leaf_with ws i x flag = set (sets (copied_in ws (entry_word i + 6) ws (entry_word i) (6 * (fill_of ws - i))) (entry_word i) (entry_words x flag)) 1 (suc (fill_of ws))

pub leaf_with_long : (ws : List ℕ) (i : ℕ) (x : Region) (flag : ℕ) → length (leaf_with ws i x flag) ≡ length ws
leaf_with_long ws i x flag =
    length-set (sets (copied_in ws (entry_word i + 6) ws (entry_word i) (6 * (fill_of ws - i))) (entry_word i) (entry_words x flag)) 1 (suc (fill_of ws))
    ∙ length-sets (copied_in ws (entry_word i + 6) ws (entry_word i) (6 * (fill_of ws - i))) (entry_word i) (entry_words x flag)
    ∙ copy_long ws (entry_word i + 6) ws (entry_word i) (6 * (fill_of ws - i))

module _ (ws : List ℕ) (long : length ws ≡ 57) where
  pub leaf_with_is : (i : ℕ) (x : Region) (flag : ℕ) → fill_of ws ≤ 8 → i ≤ fill_of ws
      → IsLeaf (leaf_with ws i x flag) (mark_of ws) (suc (fill_of ws)) (next_of ws) (put_in i (new_entry x flag) (entries_of ws)) (put_in i 0 (spares_of ws))
  leaf_with_is i x flag f h =
      leaf_of r (mark_of ws) (suc (fill_of ws)) (next_of ws) _ _ (head 0 (omega arith) (omega arith)) (get_or-set_same put 1 (suc (fill_of ws)) 0 (omega (arith, put_long))) (head 2 (omega arith) (omega arith))
      (items_in_lem 6 entry_word entry_step entry_at entry_reads r ws i (fill_of ws) (new_entry x flag) h before entry behind ∙ ap (put_in i (new_entry x flag)) (sym (entries_up ws 0 (fill_of ws))))
      (items_in_lem 6 entry_word entry_step spare_in spare_reads r ws i (fill_of ws) 0 h before (here.same 5 (omega arith)) behind ∙ ap (put_in i 0) (sym (spares_up ws 0 (fill_of ws))))
    where
      m : ℕ
      m = 6 * (fill_of ws - i)

      moved : List ℕ
      moved = copied_in ws (entry_word i + 6) ws (entry_word i) m

      put : List ℕ
      put = sets moved (entry_word i) (entry_words x flag)

      r : List ℕ
      r = set put 1 (suc (fill_of ws))

      moved_long : length moved ≡ length ws
      moved_long = copy_long ws (entry_word i + 6) ws (entry_word i) m

      put_long : length put ≡ length ws
      put_long = length-sets moved (entry_word i) (entry_words x flag) ∙ moved_long

      -- what stands before the entry, and what is not the fill
      under : (s l : ℕ) → s + l ≤ entry_word i → Seg put s ws s l
      under s l g = seg_below (entry_word i) (entry_words x flag) g (copy_below ws (entry_word i + 6) ws (entry_word i) m (omega arith) (seg_self ws s l))

      raised : {v : List ℕ} {s t l : ℕ} → 3 ≤ s → Seg put s v t l → Seg r s v t l
      raised g q = seg_above 1 (suc (fill_of ws) ∷ []) (omega arith) q

      head : (j : ℕ) → j < 3 → (j ≡ 1 → ⊥) → get_or r j 0 ≡ get_or ws j 0
      head j l n = get_or-set_other put 1 j (suc (fill_of ws)) 0 n ∙ first_word (under j 1 (omega arith)) (omega arith)

      before : Seg r 3 ws 3 (6 * i)
      before = raised (omega arith) (under 3 (6 * i) (omega arith))

      here : Seg r (entry_word i) (entry_words x flag) 0 6
      here = raised (omega arith) (seg_in moved (entry_word i) (entry_words x flag) (omega (arith, moved_long)))

      behind : Seg r (entry_word (suc i)) ws (entry_word i) m
      behind =
          raised (omega arith)
          (seg_above (entry_word i) (entry_words x flag) (omega arith)
          (copy_in ws (entry_word i + 6) ws (entry_word i) m (entry_word (suc i)) (entry_word i) m (omega arith) (omega arith) (omega arith) (omega arith) (omega arith)))

      entry : entry_at r i ≡ new_entry x flag
      entry =
          λ y. record {
            region = record { start = first_word here (omega arith) y; end = here.same 1 (omega arith) y; level = here.same 2 (omega arith) y; reference = here.same 3 (omega arith) y };
            flag = here.same 4 (omega arith) y;
          }

  pub leaf_without_is : (i n m : ℕ) → n ≡ fill_of ws → fill_of ws ≤ 9 → i < fill_of ws → m ≡ fill_of ws - 1
      → IsLeaf (headed_by (copied_in ws (3 + 6 * i) ws (3 + 6 * i + 6) (6 * (n - (i + 1)))) (mark_of ws) m (next_of ws))
      (mark_of ws) (fill_of ws - 1) (next_of ws) (taken_out i (entries_of ws)) (taken_out i (spares_of ws))
  leaf_without_is i n m e f h g =
      rw g
      (headed_leaf u (mark_of ws) (fill_of ws - 1) (next_of ws) _ _ (omega (arith, copy_long ws (3 + 6 * i) ws (3 + 6 * i + 6) (6 * (n - (i + 1)))))
      (items_out 6 entry_word entry_step entry_at entry_reads r ws i (fill_of ws) h before behind ∙ ap (taken_out i) (sym (entries_up ws 0 (fill_of ws))))
      (items_out 6 entry_word entry_step spare_in spare_reads r ws i (fill_of ws) h before behind ∙ ap (taken_out i) (sym (spares_up ws 0 (fill_of ws)))))
    where
      u : List ℕ
      u = copied_in ws (3 + 6 * i) ws (3 + 6 * i + 6) (6 * (n - (i + 1)))

      r : List ℕ
      r = headed_by u (mark_of ws) (fill_of ws - 1) (next_of ws)

      before : Seg r 3 ws 3 (6 * i)
      before =
          head_above u (mark_of ws) (fill_of ws - 1) (next_of ws) (omega arith)
          (copy_below ws (3 + 6 * i) ws (3 + 6 * i + 6) (6 * (n - (i + 1))) (omega arith) (seg_self ws 3 (6 * i)))

      behind : Seg r (entry_word i) ws (entry_word (suc i)) (6 * (fill_of ws - suc i))
      behind =
          head_above u (mark_of ws) (fill_of ws - 1) (next_of ws) (omega arith)
          (copy_in ws (3 + 6 * i) ws (3 + 6 * i + 6) (6 * (n - (i + 1))) (entry_word i) (entry_word (suc i)) (6 * (fill_of ws - suc i)) (omega arith) (omega arith)
          (omega arith) (omega arith) (omega arith))

  pub leaf_left_is : (c next : ℕ) → c ≤ fill_of ws → IsLeaf (headed_by ws (mark_of ws) c next) (mark_of ws) c next (take c (entries_of ws)) (take c (spares_of ws))
  leaf_left_is c next h =
      headed_leaf ws (mark_of ws) c next _ _ (omega arith)
      (items_left 6 entry_word entry_step entry_at entry_reads r ws c (fill_of ws) h kept ∙ ap (take c) (sym (entries_up ws 0 (fill_of ws))))
      (items_left 6 entry_word entry_step spare_in spare_reads r ws c (fill_of ws) h kept ∙ ap (take c) (sym (spares_up ws 0 (fill_of ws))))
    where
      r : List ℕ
      r = headed_by ws (mark_of ws) c next

      kept : Seg r 3 ws 3 (6 * c)
      kept = head_above ws (mark_of ws) c next (omega arith) (seg_self ws 3 (6 * c))

  pub leaf_right_is : (c m : ℕ) → m ≡ fill_of ws - c → fill_of ws ≤ 9 → c ≤ fill_of ws
      → IsLeaf (headed_by (copied_in ws 3 ws (3 + 6 * c) (6 * m)) 1 m (next_of ws)) 1 (fill_of ws - c) (next_of ws) (drop c (entries_of ws)) (drop c (spares_of ws))
  leaf_right_is c m e f h =
      rw e
      (headed_leaf u 1 (fill_of ws - c) (next_of ws) _ _ (omega (arith, copy_long ws 3 ws (3 + 6 * c) (6 * (fill_of ws - c))))
      (items_right 6 entry_word entry_step entry_at entry_reads r ws c (fill_of ws) h moved ∙ ap (drop c) (sym (entries_up ws 0 (fill_of ws))))
      (items_right 6 entry_word entry_step spare_in spare_reads r ws c (fill_of ws) h moved ∙ ap (drop c) (sym (spares_up ws 0 (fill_of ws)))))
    where
      u : List ℕ
      u = copied_in ws 3 ws (3 + 6 * c) (6 * (fill_of ws - c))

      r : List ℕ
      r = headed_by u 1 (fill_of ws - c) (next_of ws)

      moved : Seg r 3 ws (entry_word c) (6 * (fill_of ws - c))
      moved =
          head_above u 1 (fill_of ws - c) (next_of ws) (omega arith)
          (copy_in ws 3 ws (3 + 6 * c) (6 * (fill_of ws - c)) 3 (entry_word c) (6 * (fill_of ws - c)) (omega arith) (omega arith) (omega arith) (omega arith) (omega arith))

  pub set_flag_is : (i flag : ℕ) → fill_of ws ≤ 9 → i < fill_of ws
      → IsLeaf (set ws (3 + 6 * i + 4) flag) (mark_of ws) (fill_of ws) (next_of ws) (put_for i (flagged_entry ws i flag) (entries_of ws)) (spares_of ws)
  set_flag_is i flag f h =
      leaf_of r (mark_of ws) (fill_of ws) (next_of ws) _ _ (other 0 (omega arith)) (other 1 (omega arith)) (other 2 (omega arith))
      (items_for 6 entry_word entry_step entry_at entry_reads r ws i (fill_of ws) (flagged_entry ws i flag) h before entry behind
      ∙ ap (put_for i (flagged_entry ws i flag)) (sym (entries_up ws 0 (fill_of ws))))
      (up_same (spare_in r) (spare_in ws) 0 (fill_of ws) (λ j. other (entry_word j + 5) (omega arith)) ∙ sym (spares_up ws 0 (fill_of ws)))
    where
      r : List ℕ
      r = set ws (3 + 6 * i + 4) flag

      other : (j : ℕ) → (j ≡ 3 + 6 * i + 4 → ⊥) → get_or r j 0 ≡ get_or ws j 0
      other j n = get_or-set_other ws (3 + 6 * i + 4) j flag 0 n

      before : Seg r 3 ws 3 (6 * i)
      before = record { same = λ x l. other (3 + x) (omega arith) }

      behind : Seg r (entry_word (suc i)) ws (entry_word (suc i)) (6 * (fill_of ws - suc i))
      behind = record { same = λ x l. other (entry_word (suc i) + x) (omega arith) }

      entry : entry_at r i ≡ flagged_entry ws i flag
      entry =
          λ y. record {
            region =
                record {
                  start = other (entry_word i) (omega arith) y;
                  end = other (entry_word i + 1) (omega arith) y;
                  level = other (entry_word i + 2) (omega arith) y;
                  reference = other (entry_word i + 3) (omega arith) y;
                };
            flag = get_or-set_same ws (3 + 6 * i + 4) flag 0 (omega arith) y;
          }

pub leaf_joined_is : (a b : List ℕ) → length a ≡ 57 → length b ≡ 57 → (m n : ℕ) → m ≡ fill_of a → n ≡ fill_of b → fill_of a + fill_of b ≤ 9
    → IsLeaf (headed_by (copied_in a (3 + 6 * m) b 3 (6 * n)) (mark_of a) (fill_of a + fill_of b) (next_of b))
    (mark_of a) (fill_of a + fill_of b) (next_of b) (entries_of a ++ entries_of b) (spares_of a ++ spares_of b)
leaf_joined_is a b la lb m n e f h =
    headed_leaf u (mark_of a) (fill_of a + fill_of b) (next_of b) _ _ (omega (arith, copy_long a (3 + 6 * m) b 3 (6 * n)))
    (items_joined 6 entry_word entry_step entry_at entry_reads r a b (fill_of a) (fill_of b) left right
    ∙ ap₂ ◌++◌ (sym (entries_up a 0 (fill_of a))) (sym (entries_up b 0 (fill_of b))))
    (items_joined 6 entry_word entry_step spare_in spare_reads r a b (fill_of a) (fill_of b) left right
    ∙ ap₂ ◌++◌ (sym (spares_up a 0 (fill_of a))) (sym (spares_up b 0 (fill_of b))))
  where
    u : List ℕ
    u = copied_in a (3 + 6 * m) b 3 (6 * n)

    r : List ℕ
    r = headed_by u (mark_of a) (fill_of a + fill_of b) (next_of b)

    left : Seg r 3 a 3 (6 * fill_of a)
    left =
        head_above u (mark_of a) (fill_of a + fill_of b) (next_of b) (omega arith)
        (copy_below a (3 + 6 * m) b 3 (6 * n) (omega arith) (seg_self a 3 (6 * fill_of a)))

    right : Seg r (entry_word (fill_of a)) b 3 (6 * fill_of b)
    right =
        head_above u (mark_of a) (fill_of a + fill_of b) (next_of b) (omega arith)
        (copy_in a (3 + 6 * m) b 3 (6 * n) (entry_word (fill_of a)) 3 (6 * fill_of b) (omega arith) (omega arith) (omega arith) (omega arith) (omega arith))
