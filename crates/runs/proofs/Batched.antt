-- A batch is a run of single calls: the same answers, and the same words at the end. So whatever is shown of runs of single calls holds of every run, and a run may be cut at any of its calls,
-- within a batch too.
-- Assumes nothing.
use Prim.Native.Nat.{ℕ, suc, ◌≤◌}
use mathlib.Core.Path.{◌≡◌, refl, sym, ap, ◌∙◌, subst}
use mathlib.Core.Bool.{false}
use mathlib.Core.List.{List, [], ◌∷◌, ◌++◌}
use lib.ListN.{length, set}
use lib.Seq.{sets}
use native.Mathlib.Omega.{arith}
use Rattle.regions.specs.Items.{Item, items_in, items_of}
use Rattle.regions.specs.Items.Item.{save_item, delete_item, unknown_item}
use Rattle.regions.proofs.Numbers.{own_right}
use Rattle.regions.proofs.Done.{batch_done}
use Rattle.regions.proofs.Items.{items_many}
use Rattle.image.specs.Valid.{valid}
use Rattle.index.specs.Batches.{Single, Singly, Batches}
use Rattle.index.specs.Batches.Singly.{none as no_more, then as and_then}
use Rattle.index.proofs.Batched.{singly_many}
use Rattle.plainruns.specs.Calls.{Which, Done}
use Rattle.plainruns.specs.Calls.Which.{outer, inner}
use Rattle.runs.specs.Calls.{Lent, image_of, with_image, tells, Does, item_call, items_done, Runs, Singles}
use Rattle.runs.specs.Calls.Does.{saves, deletes, refuses_item}
use Rattle.runs.specs.Calls.Runs.{stop, go, batch}
use Rattle.runs.specs.Calls.Singles.{none, then}

-- what is written behind the first place of a list
pub sets_cons : (x : ℕ) (l : List ℕ) (i : ℕ) (vs : List ℕ) → sets (x ∷ l) (suc i) vs ≡ x ∷ sets l i vs
sets_cons x l i [] = refl
sets_cons x l i (v ∷ vs) = sets_cons x (set l i v) (suc i) vs

-- ONE ITEM is a call, by its own record
item_does : (w : Which) (l : Lent) (v u : List ℕ) (i : Item) (n : ℕ) → Single v i n u → Does (with_image w v l) (item_call w i) (tells n 0 false [] [] 0) (with_image w u l)
item_does outer l v u (save_item a r) n s = saves outer s
item_does inner l v u (save_item a r) n s = saves inner s
item_does outer l v u (delete_item a p) n s = deletes outer s
item_does inner l v u (delete_item a p) n s = deletes inner s
item_does outer l v u (unknown_item a k) n s = refuses_item outer s
item_does inner l v u (unknown_item a k) n s = refuses_item inner s

items_do : (w : Which) (l : Lent) {v u : List ℕ} {is : List Item} {ns : List ℕ} → Singly v is ns u → Singles (with_image w v l) (items_done w is ns) (with_image w u l)
items_do w l no_more = none
items_do w l (and_then {w = v} {v = u} {i = i} {n = n} s m) = then (item_does w l v u i n s) (items_do w l m)

-- the numbers in their places: further places are not read
in_places : (w : Which) (is : List Item) (ns places : List ℕ) → length ns ≡ length is → length ns ≤ length places → items_done w is (sets places 0 ns) ≡ items_done w is ns
in_places w [] ns places e h = refl
in_places w (i ∷ is) [] places e h = absurd (omega arith)
in_places w (i ∷ is) (n ∷ ns) [] e h = absurd (omega arith)
in_places w (i ∷ is) (n ∷ ns) (p ∷ places) e h =
    ap (items_done w (i ∷ is)) (sets_cons n places 0 ns) ∙ ap (record { call = item_call w i; told = tells n 0 false [] [] 0 } ∷◌) (in_places w is ns places (omega arith) (omega arith))

-- THE WHOLE BATCH
pub with_own : (w : Which) (l : Lent) → with_image w (image_of w l) l ≡ l
with_own outer l = refl
with_own inner l = refl

pub batch_singly : (w : Which) {l : Lent} {words places w' places' : List ℕ} → Batches (image_of w l) words places 0 w' places'
    → Singles l (items_done w (items_of words) places') (with_image w w' l)
batch_singly w {l} {words} {places} {w'} b =
    let (ns, m, e) = b.done refl in
    let k = (batch_done (length words) (length places) (own_right (valid (image_of w l)) _ b.number_is)).room in
    let q = in_places w (items_of words) ns places (singly_many m) (omega (arith, singly_many m, items_many (items_in words) words)) in
    subst (λ ds. Singles l ds (with_image w w' l)) (sym (ap (items_done w (items_of words)) e ∙ q))
    (subst (λ l'. Singles l' (items_done w (items_of words) ns) (with_image w w' l)) (with_own w l) (items_do w l m))

-- EVERY RUN is one of single calls, and back
singles_on : {l m n : Lent} {ds es : List Done} → Singles l ds m → Singles m es n → Singles l (ds ++ es) n
singles_on none more = more
singles_on (then st run) more = then st (singles_on run more)

pub one_by_one : {l m : Lent} {ds : List Done} → Runs l ds m → Singles l ds m
one_by_one stop = none
one_by_one (go st run) = then st (one_by_one run)
one_by_one (batch w b run) = singles_on (batch_singly w b) (one_by_one run)

singles_run : {l m : Lent} {ds : List Done} → Singles l ds m → Runs l ds m
singles_run none = stop
singles_run (then st run) = go st (singles_run run)

pub runs_on : {l m n : Lent} {ds es : List Done} → Runs l ds m → Runs m es n → Runs l (ds ++ es) n
runs_on run more = singles_run (singles_on (one_by_one run) (one_by_one more))

-- CUT at a call, which may be an item in the middle of a batch: what is lent there, the run up to it, the call by its own record, the run behind it
pub record CutAt (l : Lent) (ds : List Done) (d : Done) (es : List Done) (m : Lent) : Type 0 where
  pub before : Lent
  pub behind : Lent
  pub up_to : Runs l ds before
  pub does : Does before d.call d.told behind
  pub from : Runs behind es m

singles_cut : {l m : Lent} (ds : List Done) {d : Done} {es : List Done} → Singles l (ds ++ d ∷ es) m → CutAt l ds d es m
singles_cut [] (then st run) = record { before = _; behind = _; up_to = stop; does = st; from = singles_run run }
singles_cut (x ∷ ds) (then st run) = let c = singles_cut ds run in record { before = c.before; behind = c.behind; up_to = go st c.up_to; does = c.does; from = c.from }

pub cut_at : {l m : Lent} (ds : List Done) {d : Done} {es : List Done} → Runs l (ds ++ d ∷ es) m → CutAt l ds d es m
cut_at ds run = singles_cut ds (one_by_one run)
