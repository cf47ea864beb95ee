-- What an inner page holds after each change of its words.
-- Assumes nothing.
use Prim.Native.Nat.{ℕ, suc, ◌+◌, ◌*◌, ◌-◌, ◌<◌, ◌≤◌}
use mathlib.Core.Path.{◌≡◌, sym, ap, ap₂, ◌∙◌}
use mathlib.Core.List.{List, [], ◌∷◌, ◌++◌}
use lib.ListN.{length, get_or, set, take, drop}
use lib.Seq.{sets, length-sets}
use native.Mathlib.Omega.{arith}
use Rattle.words.proofs.Written.{sets_below}
use Rattle.pages.specs.Layout.{mark_of, fill_of, next_of, key_word, child_word, child_in}
use Rattle.pages.specs.declared.KeyWords.{KeyWords}
use Rattle.image.specs.Decode.{key_words_at, keys_from, children_from}
use Rattle.pagewords.specs.Words.{copied_in, headed_by, key_list}
use Rattle.newpages.specs.Pages.{put_in, taken_out, put_for, keys_of, children_of, IsInner}
use Rattle.newpages.proofs.Runs.{Seg, seg_self, seg_below, seg_above, seg_in, copy_long, copy_below, copy_above, copy_in, head_above, head_words}
use Rattle.newpages.proofs.Items.{up_from, items_same, items_in_lem, items_out, items_for, items_left, items_right, items_joined, items_between}
use Rattle.newpages.proofs.Read.{first_word, key_reads, child_reads, key_step, child_step, keys_up, children_up}

-- a page under its new head is an inner page with the keys and children that stand there
headed_inner : (u : List ℕ) (mark fill next : ℕ) (ks : List KeyWords) (cs : List ℕ) → 3 ≤ length u
    → up_from (key_words_at (headed_by u mark fill next)) 0 fill ≡ ks → up_from (child_in (headed_by u mark fill next)) 0 (suc fill) ≡ cs
    → IsInner (headed_by u mark fill next) mark fill next ks cs
headed_inner u mark fill next ks cs h e s =
    let r = headed_by u mark fill next in
    let w = head_words u mark fill next h in
    record {
      mark_is = w.0;
      fill_is = w.1;
      next_is = w.2;
      keys_are = ap (keys_from r 0) w.1 ∙ keys_up r 0 fill ∙ e;
      children_are = ap (λ n. children_from r 0 (suc n)) w.1 ∙ children_up r 0 (suc fill) ∙ s;
    }

-- a key whose four words were written
key_is : {r : List ℕ} (i : ℕ) (k : KeyWords) → Seg r (key_word i) (key_list k) 0 4 → key_words_at r i ≡ k
key_is i k g = λ y. record { key = first_word g (omega arith) y; start = g.same 1 (omega arith) y; end = g.same 2 (omega arith) y; head = g.same 3 (omega arith) y }

-- two numbers that are one
same_up : {X : Type 0} (f : ℕ → X) (m n : ℕ) → m ≡ n → up_from f 0 m ≡ up_from f 0 n
same_up f m n e = ap (up_from f 0) e

module _ (ws : List ℕ) (long : length ws ≡ 57) where
  pub inner_with_is : (i n m : ℕ) (k : KeyWords) (child : ℕ) → n ≡ fill_of ws → fill_of ws ≤ 8 → i ≤ fill_of ws → m ≡ suc (fill_of ws)
      → IsInner
      (headed_by
      (copied_in (set (copied_in (sets ws (3 + 4 * i) (key_list k)) (3 + 4 * i + 4) ws (3 + 4 * i) (4 * (n - i))) (child_word (i + 1)) child) (child_word (i + 1) + 1) ws (child_word (i + 1)) (n - i))
      (mark_of ws) m (next_of ws))
      (mark_of ws) (suc (fill_of ws)) (next_of ws) (put_in i k (keys_of ws)) (put_in (suc i) child (children_of ws))
  inner_with_is i n m k child e f h g =
      rw g
      (headed_inner u (mark_of ws) (suc (fill_of ws)) (next_of ws) _ _ (omega (arith, copy_long both (child_word (i + 1) + 1) ws (child_word (i + 1)) (n - i), both_long))
      (items_in_lem 4 key_word key_step key_words_at key_reads r ws i (fill_of ws) k h keys_before (key_is i k key_here) keys_behind_lem ∙ ap (put_in i k) (sym (keys_up ws 0 (fill_of ws))))
      (items_in_lem 1 child_word child_step child_in child_reads r ws (suc i) (suc (fill_of ws)) child (omega arith) children_before (first_word child_here_lem (omega arith)) children_behind
      ∙ ap (put_in (suc i) child) (sym (children_up ws 0 (suc (fill_of ws))))))
    where
      put : List ℕ
      put = sets ws (3 + 4 * i) (key_list k)

      keyed : List ℕ
      keyed = copied_in put (3 + 4 * i + 4) ws (3 + 4 * i) (4 * (n - i))

      both : List ℕ
      both = sets keyed (child_word (i + 1)) (child ∷ [])

      u : List ℕ
      u = copied_in both (child_word (i + 1) + 1) ws (child_word (i + 1)) (n - i)

      r : List ℕ
      r = headed_by u (mark_of ws) (suc (fill_of ws)) (next_of ws)

      put_long : length put ≡ length ws
      put_long = length-sets ws (3 + 4 * i) (key_list k)

      keyed_long : length keyed ≡ length ws
      keyed_long = copy_long put (3 + 4 * i + 4) ws (3 + 4 * i) (4 * (n - i)) ∙ put_long

      both_long : length both ≡ length ws
      both_long = length-sets keyed (child_word (i + 1)) (child ∷ []) ∙ keyed_long

      -- words before the copied children; before the new child; those of the page that neither keys nor the new child touch
      from_both : {v : List ℕ} {s t l : ℕ} → 3 ≤ s → s + l ≤ child_word (i + 1) + 1 → Seg both s v t l → Seg r s v t l
      from_both a b q = head_above u (mark_of ws) (suc (fill_of ws)) (next_of ws) a (copy_below both (child_word (i + 1) + 1) ws (child_word (i + 1)) (n - i) b q)

      from_keyed : {v : List ℕ} {s t l : ℕ} → 3 ≤ s → s + l ≤ child_word (i + 1) → Seg keyed s v t l → Seg r s v t l
      from_keyed a b q = from_both a (omega arith) (seg_below (child_word (i + 1)) (child ∷ []) b q)

      keys_before : Seg r 3 ws 3 (4 * i)
      keys_before =
          from_keyed (omega arith) (omega arith)
          (copy_below put (3 + 4 * i + 4) ws (3 + 4 * i) (4 * (n - i)) (omega arith) (seg_below (3 + 4 * i) (key_list k) (omega arith) (seg_self ws 3 (4 * i))))

      key_here : Seg r (key_word i) (key_list k) 0 4
      key_here =
          from_keyed (omega arith) (omega arith)
          (copy_below put (3 + 4 * i + 4) ws (3 + 4 * i) (4 * (n - i)) (omega arith) (seg_in ws (3 + 4 * i) (key_list k) (omega arith)))

      keys_behind_lem : Seg r (key_word (suc i)) ws (key_word i) (4 * (fill_of ws - i))
      keys_behind_lem =
          from_keyed (omega arith) (omega arith)
          (copy_in put (3 + 4 * i + 4) ws (3 + 4 * i) (4 * (n - i)) (key_word (suc i)) (key_word i) (4 * (fill_of ws - i)) (omega arith) (omega (arith, put_long)) (omega arith)
          (omega arith) (omega arith))

      children_before : Seg r 39 ws 39 (1 * suc i)
      children_before =
          from_keyed (omega arith) (omega arith)
          (copy_above put (3 + 4 * i + 4) ws (3 + 4 * i) (4 * (n - i)) (omega arith) (omega arith) (seg_above (3 + 4 * i) (key_list k) (omega arith) (seg_self ws 39 (1 * suc i))))

      child_here_lem : Seg r (child_word (suc i)) (child ∷ []) 0 1
      child_here_lem = let z : child_word (suc i) ≡ child_word (i + 1) = omega arith in rw z (from_both (omega arith) (omega arith) (seg_in keyed (child_word (i + 1)) (child ∷ []) (omega (arith, keyed_long))))

      children_behind : Seg r (child_word (suc (suc i))) ws (child_word (suc i)) (1 * (suc (fill_of ws) - suc i))
      children_behind =
          head_above u (mark_of ws) (suc (fill_of ws)) (next_of ws) (omega arith)
          (copy_in both (child_word (i + 1) + 1) ws (child_word (i + 1)) (n - i) (child_word (suc (suc i))) (child_word (suc i)) (1 * (suc (fill_of ws) - suc i)) (omega arith) (omega (arith, both_long)) (omega arith)
          (omega arith) (omega arith))

  pub inner_without_is : (i m l : ℕ) → m ≡ fill_of ws - suc i → fill_of ws ≤ 9 → i < fill_of ws → l ≡ fill_of ws - 1
      → IsInner (headed_by (copied_in (copied_in ws (3 + 4 * i) ws (3 + 4 * i + 4) (4 * m)) (child_word (i + 1)) ws (child_word (i + 1) + 1) m) (mark_of ws) l (next_of ws))
      (mark_of ws) (fill_of ws - 1) (next_of ws) (taken_out i (keys_of ws)) (taken_out (suc i) (children_of ws))
  inner_without_is i m l e f h g =
      rw g
      (headed_inner u (mark_of ws) (fill_of ws - 1) (next_of ws) _ _ (omega (arith, copy_long keyed (child_word (i + 1)) ws (child_word (i + 1) + 1) m, keyed_long))
      (items_out 4 key_word key_step key_words_at key_reads r ws i (fill_of ws) h keys_before keys_behind_lem ∙ ap (taken_out i) (sym (keys_up ws 0 (fill_of ws))))
      (same_up (child_in r) (suc (fill_of ws - 1)) (suc (fill_of ws) - 1) (omega arith)
      ∙ items_out 1 child_word child_step child_in child_reads r ws (suc i) (suc (fill_of ws)) (omega arith) children_before children_behind
      ∙ ap (taken_out (suc i)) (sym (children_up ws 0 (suc (fill_of ws))))))
    where
      keyed : List ℕ
      keyed = copied_in ws (3 + 4 * i) ws (3 + 4 * i + 4) (4 * m)

      u : List ℕ
      u = copied_in keyed (child_word (i + 1)) ws (child_word (i + 1) + 1) m

      r : List ℕ
      r = headed_by u (mark_of ws) (fill_of ws - 1) (next_of ws)

      keyed_long : length keyed ≡ length ws
      keyed_long = copy_long ws (3 + 4 * i) ws (3 + 4 * i + 4) (4 * m)

      from_keyed : {v : List ℕ} {s t l : ℕ} → 3 ≤ s → s + l ≤ child_word (i + 1) → Seg keyed s v t l → Seg r s v t l
      from_keyed a b q = head_above u (mark_of ws) (fill_of ws - 1) (next_of ws) a (copy_below keyed (child_word (i + 1)) ws (child_word (i + 1) + 1) m b q)

      keys_before : Seg r 3 ws 3 (4 * i)
      keys_before = from_keyed (omega arith) (omega arith) (copy_below ws (3 + 4 * i) ws (3 + 4 * i + 4) (4 * m) (omega arith) (seg_self ws 3 (4 * i)))

      keys_behind_lem : Seg r (key_word i) ws (key_word (suc i)) (4 * (fill_of ws - suc i))
      keys_behind_lem =
          from_keyed (omega arith) (omega arith)
          (copy_in ws (3 + 4 * i) ws (3 + 4 * i + 4) (4 * m) (key_word i) (key_word (suc i)) (4 * (fill_of ws - suc i)) (omega arith) (omega arith) (omega arith) (omega arith) (omega arith))

      children_before : Seg r 39 ws 39 (1 * suc i)
      children_before =
          from_keyed (omega arith) (omega arith) (copy_above ws (3 + 4 * i) ws (3 + 4 * i + 4) (4 * m) (omega arith) (omega arith) (seg_self ws 39 (1 * suc i)))

      children_behind : Seg r (child_word (suc i)) ws (child_word (suc (suc i))) (1 * (suc (fill_of ws) - suc (suc i)))
      children_behind =
          head_above u (mark_of ws) (fill_of ws - 1) (next_of ws) (omega arith)
          (copy_in keyed (child_word (i + 1)) ws (child_word (i + 1) + 1) m (child_word (suc i)) (child_word (suc (suc i))) (1 * (suc (fill_of ws) - suc (suc i))) (omega arith) (omega (arith, keyed_long)) (omega arith)
          (omega arith) (omega arith))

  pub inner_left_is : (c : ℕ) → c ≤ fill_of ws
      → IsInner (headed_by ws (mark_of ws) c (next_of ws)) (mark_of ws) c (next_of ws) (take c (keys_of ws)) (take (suc c) (children_of ws))
  inner_left_is c h =
      headed_inner ws (mark_of ws) c (next_of ws) _ _ (omega arith)
      (items_left 4 key_word key_step key_words_at key_reads r ws c (fill_of ws) h (head_above ws (mark_of ws) c (next_of ws) (omega arith) (seg_self ws 3 (4 * c)))
      ∙ ap (take c) (sym (keys_up ws 0 (fill_of ws))))
      (items_left 1 child_word child_step child_in child_reads r ws (suc c) (suc (fill_of ws)) (omega arith)
      (head_above ws (mark_of ws) c (next_of ws) (omega arith) (seg_self ws 39 (1 * suc c))) ∙ ap (take (suc c)) (sym (children_up ws 0 (suc (fill_of ws)))))
    where
      r : List ℕ
      r = headed_by ws (mark_of ws) c (next_of ws)

  pub inner_right_is : (c m : ℕ) → m ≡ fill_of ws - suc c → fill_of ws ≤ 9 → c < fill_of ws
      → IsInner (headed_by (copied_in (copied_in ws 3 ws (3 + 4 * (c + 1)) (4 * m)) 39 ws (child_word (c + 1)) (m + 1)) 1 m (next_of ws))
      1 (fill_of ws - suc c) (next_of ws) (drop (suc c) (keys_of ws)) (drop (suc c) (children_of ws))
  inner_right_is c m e f h =
      rw e
      (headed_inner u 1 (fill_of ws - suc c) (next_of ws) _ _ (omega (arith, copy_long keyed 39 ws (child_word (c + 1)) (fill_of ws - suc c + 1), keyed_long))
      (items_right 4 key_word key_step key_words_at key_reads r ws (suc c) (fill_of ws) (omega arith) keys_moved ∙ ap (drop (suc c)) (sym (keys_up ws 0 (fill_of ws))))
      (same_up (child_in r) (suc (fill_of ws - suc c)) (suc (fill_of ws) - suc c) (omega arith)
      ∙ items_right 1 child_word child_step child_in child_reads r ws (suc c) (suc (fill_of ws)) (omega arith) children_moved
      ∙ ap (drop (suc c)) (sym (children_up ws 0 (suc (fill_of ws))))))
    where
      keyed : List ℕ
      keyed = copied_in ws 3 ws (3 + 4 * (c + 1)) (4 * (fill_of ws - suc c))

      u : List ℕ
      u = copied_in keyed 39 ws (child_word (c + 1)) (fill_of ws - suc c + 1)

      r : List ℕ
      r = headed_by u 1 (fill_of ws - suc c) (next_of ws)

      keyed_long : length keyed ≡ length ws
      keyed_long = copy_long ws 3 ws (3 + 4 * (c + 1)) (4 * (fill_of ws - suc c))

      keys_moved : Seg r 3 ws (key_word (suc c)) (4 * (fill_of ws - suc c))
      keys_moved =
          head_above u 1 (fill_of ws - suc c) (next_of ws) (omega arith)
          (copy_below keyed 39 ws (child_word (c + 1)) (fill_of ws - suc c + 1) (omega arith)
          (copy_in ws 3 ws (3 + 4 * (c + 1)) (4 * (fill_of ws - suc c)) 3 (key_word (suc c)) (4 * (fill_of ws - suc c)) (omega arith) (omega arith) (omega arith) (omega arith) (omega arith)))

      children_moved : Seg r 39 ws (child_word (suc c)) (1 * (suc (fill_of ws) - suc c))
      children_moved =
          head_above u 1 (fill_of ws - suc c) (next_of ws) (omega arith)
          (copy_in keyed 39 ws (child_word (c + 1)) (fill_of ws - suc c + 1) 39 (child_word (suc c)) (1 * (suc (fill_of ws) - suc c)) (omega arith) (omega (arith, keyed_long)) (omega arith) (omega arith)
          (omega arith))

  pub set_key_is : (i : ℕ) (k : KeyWords) → fill_of ws ≤ 9 → i < fill_of ws
      → IsInner (sets ws (3 + 4 * i) (key_list k)) (mark_of ws) (fill_of ws) (next_of ws) (put_for i k (keys_of ws)) (children_of ws)
  set_key_is i k f h =
      record {
        mark_is = head 0 (omega arith);
        fill_is = head 1 (omega arith);
        next_is = head 2 (omega arith);
        keys_are =
            ap (keys_from r 0) (head 1 (omega arith)) ∙ keys_up r 0 (fill_of ws)
            ∙ items_for 4 key_word key_step key_words_at key_reads r ws i (fill_of ws) k h (seg_below (3 + 4 * i) (key_list k) (omega arith) (seg_self ws 3 (4 * i)))
            (key_is i k (seg_in ws (3 + 4 * i) (key_list k) (omega arith)))
            (seg_above (3 + 4 * i) (key_list k) (omega arith) (seg_self ws (key_word (suc i)) (4 * (fill_of ws - suc i))))
            ∙ ap (put_for i k) (sym (keys_up ws 0 (fill_of ws)));
        children_are =
            ap (λ n. children_from r 0 (suc n)) (head 1 (omega arith)) ∙ children_up r 0 (suc (fill_of ws))
            ∙ items_same 1 child_word child_step child_in child_reads r ws (suc (fill_of ws)) 0 0 (seg_above (3 + 4 * i) (key_list k) (omega arith) (seg_self ws 39 (1 * suc (fill_of ws))))
            ∙ sym (children_up ws 0 (suc (fill_of ws)));
      }
    where
      r : List ℕ
      r = sets ws (3 + 4 * i) (key_list k)

      head : (j : ℕ) → j < 3 → get_or r j 0 ≡ get_or ws j 0
      head j l = sets_below (key_list k) ws (3 + 4 * i) j 0 (omega arith)

module _ (a b : List ℕ) (la : length a ≡ 57) (lb : length b ≡ 57) where
  pub inner_joined_is : (m n l : ℕ) (k : KeyWords) → m ≡ fill_of a → n ≡ fill_of b → fill_of a + fill_of b ≤ 8 → l ≡ suc (fill_of a + fill_of b)
      → IsInner
      (headed_by (copied_in (copied_in (sets a (3 + 4 * m) (key_list k)) (3 + 4 * m + 4) b 3 (4 * n)) (child_word (m + 1)) b 39 (n + 1)) (mark_of a) l (next_of a))
      (mark_of a) (suc (fill_of a + fill_of b)) (next_of a) (keys_of a ++ k ∷ keys_of b) (children_of a ++ children_of b)
  inner_joined_is m n l k e f h g =
      rw g
      (headed_inner u (mark_of a) (suc (fill_of a + fill_of b)) (next_of a) _ _ (omega (arith, copy_long keyed (child_word (m + 1)) b 39 (n + 1), keyed_long))
      (same_up (key_words_at r) (suc (fill_of a + fill_of b)) (fill_of a + suc (fill_of b)) (omega arith)
      ∙ items_between 4 key_word key_step key_words_at key_reads r a b (fill_of a) (fill_of b) k keys_left_lem (key_is (fill_of a) k key_here) keys_right
      ∙ ap₂ (λ p q. p ++ k ∷ q) (sym (keys_up a 0 (fill_of a))) (sym (keys_up b 0 (fill_of b))))
      (same_up (child_in r) (suc (suc (fill_of a + fill_of b))) (suc (fill_of a) + suc (fill_of b)) (omega arith)
      ∙ items_joined 1 child_word child_step child_in child_reads r a b (suc (fill_of a)) (suc (fill_of b)) children_left children_right
      ∙ ap₂ ◌++◌ (sym (children_up a 0 (suc (fill_of a)))) (sym (children_up b 0 (suc (fill_of b))))))
    where
      put : List ℕ
      put = sets a (3 + 4 * m) (key_list k)

      keyed : List ℕ
      keyed = copied_in put (3 + 4 * m + 4) b 3 (4 * n)

      u : List ℕ
      u = copied_in keyed (child_word (m + 1)) b 39 (n + 1)

      r : List ℕ
      r = headed_by u (mark_of a) (suc (fill_of a + fill_of b)) (next_of a)

      put_long : length put ≡ length a
      put_long = length-sets a (3 + 4 * m) (key_list k)

      keyed_long : length keyed ≡ length a
      keyed_long = copy_long put (3 + 4 * m + 4) b 3 (4 * n) ∙ put_long

      from_keyed : {v : List ℕ} {s t l : ℕ} → 3 ≤ s → s + l ≤ child_word (m + 1) → Seg keyed s v t l → Seg r s v t l
      from_keyed x y q = head_above u (mark_of a) (suc (fill_of a + fill_of b)) (next_of a) x (copy_below keyed (child_word (m + 1)) b 39 (n + 1) y q)

      from_put : {v : List ℕ} {s t l : ℕ} → 3 ≤ s → s + l ≤ 3 + 4 * m + 4 → Seg put s v t l → Seg r s v t l
      from_put x y q = from_keyed x (omega arith) (copy_below put (3 + 4 * m + 4) b 3 (4 * n) y q)

      keys_left_lem : Seg r 3 a 3 (4 * fill_of a)
      keys_left_lem = from_put (omega arith) (omega arith) (seg_below (3 + 4 * m) (key_list k) (omega arith) (seg_self a 3 (4 * fill_of a)))

      key_here : Seg r (key_word (fill_of a)) (key_list k) 0 4
      key_here =
          let z : key_word (fill_of a) ≡ 3 + 4 * m = omega arith in
          rw z (from_put (omega arith) (omega arith) (seg_in a (3 + 4 * m) (key_list k) (omega arith)))

      keys_right : Seg r (key_word (suc (fill_of a))) b 3 (4 * fill_of b)
      keys_right =
          from_keyed (omega arith) (omega arith)
          (copy_in put (3 + 4 * m + 4) b 3 (4 * n) (key_word (suc (fill_of a))) 3 (4 * fill_of b) (omega arith) (omega (arith, put_long)) (omega arith) (omega arith) (omega arith))

      children_left : Seg r 39 a 39 (1 * suc (fill_of a))
      children_left =
          from_keyed (omega arith) (omega arith)
          (copy_above put (3 + 4 * m + 4) b 3 (4 * n) (omega arith) (omega arith) (seg_above (3 + 4 * m) (key_list k) (omega arith) (seg_self a 39 (1 * suc (fill_of a)))))

      children_right : Seg r (child_word (suc (fill_of a))) b 39 (1 * suc (fill_of b))
      children_right =
          head_above u (mark_of a) (suc (fill_of a + fill_of b)) (next_of a) (omega arith)
          (copy_in keyed (child_word (m + 1)) b 39 (n + 1) (child_word (suc (fill_of a))) 39 (1 * suc (fill_of b)) (omega arith) (omega (arith, keyed_long)) (omega arith) (omega arith) (omega arith))
