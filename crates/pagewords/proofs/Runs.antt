-- Runs of words: a part of a list that is overwritten is a run of words written.
-- Assumes nothing.
use Prim.Native.Nat.{ℕ, ◌+◌, ◌≤◌}
use mathlib.Core.Path.{◌≡◌, refl, sym, ap, ◌∙◌}
use mathlib.Core.List.{List, ◌++◌, append_assoc}
use lib.ListN.{length, take, drop, length-take, length-drop}
use lib.Seq.{sets, sets-eq, paste}
use native.Mathlib.Omega.{arith}
use borrow.Rule.Slice.PartMut.{put_mid}
use Rattle.std.proofs.lemmas.List.Edits.{paste_all}
use Rattle.std.proofs.lemmas.Slice.{put_mid-paste}
use Rattle.pagewords.specs.Words.{copied_in}

-- after a write to `s[a..e]`: k is e - a, xs is what s held, ys is what the part holds now
pub put_mid_sets : (a k : ℕ) (xs ys zs : List ℕ) → ys ≡ zs → k ≡ length zs → a + length zs ≤ length xs → put_mid a k xs ys ≡ sets xs a zs
put_mid_sets a k xs ys zs e n f =
    put_mid-paste a k xs ys zs (length zs) e (sym n) refl ∙ paste_all xs a zs (length zs) refl ∙ sym (append_assoc (take a xs) zs (drop (a + length zs) xs))
    ∙ sym (sets-eq zs xs a f)

pub put_mid_copied : (u v ys : List ℕ) (a b k n : ℕ) → ys ≡ take n (drop b v) → k ≡ n → a + n ≤ length u → b + n ≤ length v → put_mid a k u ys ≡ copied_in u a v b n
unfolding copied_in
put_mid_copied u v ys a b k n e f h l =
    let m : length (take n (drop b v)) ≡ n = omega (arith, length-take n (drop b v), length-drop b v) in
    put_mid_sets a k u ys (take n (drop b v)) e (f ∙ sym m) (omega arith)

-- after `copy_within`: k is the length of what was read
pub paste_copied : (u v : List ℕ) (a b k n : ℕ) → k ≡ n → a + n ≤ length u → b + n ≤ length v → paste u a (drop b v) k ≡ copied_in u a v b n
unfolding copied_in
paste_copied u v a b k n f h l =
    let m : length (take n (drop b v)) ≡ n = omega (arith, length-take n (drop b v), length-drop b v) in
    rw f (ap (λ j. take a u ++ take n (drop b v) ++ drop (a + j) u) (sym m) ∙ sym (sets-eq (take n (drop b v)) u a (omega arith)))
