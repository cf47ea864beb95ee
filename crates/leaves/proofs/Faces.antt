-- A cursor and the regions before it: what a step hands of them, the start that it faces, and where there are none.
-- Assumes nothing.
use Prim.Native.Nat.{ℕ, ◌<◌}
use mathlib.Core.Path.{◌≡◌, refl, sym, ap, ◌∙◌, subst}
use mathlib.Core.List.{List, [], ◌∷◌, map}
use lib.ListN.{length, get_or, length-map}
use native.Mathlib.Omega.{arith}
use Rattle.std.specs.declared.option.Option.{Option}
use Rattle.std.specs.declared.option.Option.TheVariants.{None, Some}
use Rattle.words.proofs.Tests.{eq_no}
use Rattle.regions.specs.declared.Region.{Region}
use Rattle.xrtree.specs.Tree as tree
use Rattle.pages.specs.Layout.{page_of, entry_word}
use Rattle.leaves.specs.declared.Entry.{Entry}
use Rattle.leaves.specs.declared.Cursor.{Cursor}
use Rattle.leaves.specs.Cursors.{Stands, left, moved_on, step_from, handed, start_faced}
use Rattle.leaves.proofs.Walks.{step_end, ready_few, stands_end, stands_step}
use Rattle.leaves.specs.Faces.{Faces}

-- a step hands an entry, or it is the end
pub never : (s : Option (Entry × Cursor)) (e : Entry) (on : Cursor) → s ≡ None → s ≡ Some (e, on) → ⊥
never s e on a b = let z : ◌≡◌ {A = ℕ} 0 1 = cc in omega arith

module _ (w : List ℕ) {c : Cursor} {rs : List Region} (f : Faces w c rs) where
  -- it may be stepped
  pub faces_few : c.at < 9
  faces_few = ready_few w c f.stands.ready

  pub faces_long : length (left w c) ≡ length rs
  faces_long = ap length f.stands.ahead ∙ sym (length-map f.entries tree.region_of) ∙ ap length f.regions

-- A STEP hands the first of the regions, and the cursor that it hands has the others before it
pub record Onward (w : List ℕ) (rs : List Region) (e : Entry) (on : Cursor) : Type 0 where
  pub rest : List Region
  pub is : rs ≡ e.region ∷ rest
  pub faces : Faces w on rest

pub faces_on : (w : List ℕ) (c : Cursor) (rs : List Region) (e : Entry) (on : Cursor) → Faces w c rs → step_from w c ≡ Some (e, on) → Onward w rs e on
faces_on w c rs e on f s = go f.entries f.stands f.regions
  where
    go : (es : List tree.Entry) → Stands w c es → map tree.region_of es ≡ rs → Onward w rs e on
    go [] st m = absurd (never (step_from w c) e on (stands_end w c st) s)
    go (x ∷ es) st m =
        let k = stands_step w c x es st in
        let h = k.0 in
        let p : ◌≡◌ {A = Entry × Cursor} (handed x, moved_on w c) (e, on) = cc in
        let a : handed x ≡ e = ap (λ q. q.0) p in
        let b : moved_on w c ≡ on = ap (λ q. q.1) p in
        record {
          rest = map tree.region_of es;
          is = sym m ∙ ap (λ (y : Entry). y.region ∷ map tree.region_of es) a;
          faces = record { entries = es; stands = subst (λ (d : Cursor). Stands w d es) b k.1; regions = refl };
        }

-- none where it hands none
pub faces_end : (w : List ℕ) (c : Cursor) (rs : List Region) → Faces w c rs → step_from w c ≡ None → rs ≡ []
faces_end w c rs f s = go f.entries f.stands f.regions
  where
    go : (es : List tree.Entry) → Stands w c es → map tree.region_of es ≡ rs → rs ≡ []
    go [] st m = sym m
    go (x ∷ es) st m = absurd (never (step_from w c) (handed x) (moved_on w c) s (stands_step w c x es st).0)

-- so fewer are left
pub faces_less : (w : List ℕ) (c : Cursor) (rs : List Region) (e : Entry) (on : Cursor) → Faces w c rs → step_from w c ≡ Some (e, on) → length (left w on) < length (left w c)
faces_less w c rs e on f s =
    let o = faces_on w c rs e on f s in
    omega (arith, faces_long w f, faces_long w o.faces, ap length o.is)

-- THE START THAT IT FACES, as the code tells it
pub faced_end : (w : List ℕ) (c : Cursor) → c.leaf ≡ 0 → 4294967295 ≡ start_faced (step_from w c)
unfolding start_faced
faced_end w c e = rw (← step_end w c e)

pub faced_next : (w : List ℕ) (c : Cursor) (s : ℕ) → (c.leaf ≡ 0 → ⊥) → s ≡ get_or (page_of w c.leaf) (entry_word c.at) 0 → s ≡ start_faced (step_from w c)
unfolding start_faced step_from
faced_next w c s n f = rw (eq_no c.leaf 0 n) f

-- as a step hands it
pub faced_is : (s : Option (Entry × Cursor)) (e : Entry) (on : Cursor) → s ≡ Some (e, on) → start_faced s ≡ e.region.start
unfolding start_faced
faced_is s e on p = rw p
