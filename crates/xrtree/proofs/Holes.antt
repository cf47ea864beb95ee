-- A good tree in one local form, and a tree with a hole: what a step on one page keeps, the whole tree keeps.
-- Assumes nothing.
use Prim.Native.Nat.{ℕ, zero, suc, ◌+◌}
use mathlib.Core.Path.{◌≡◌, refl, sym, ap, ap₂, ◌∙◌, subst}
use mathlib.Core.Bool.{true}
use mathlib.Core.Logic.{◌↔◌}
use lib.ListN.{length, length-append}
use native.Mathlib.Omega.{arith}
use mathlib.Core.List.{List, [], ◌∷◌, ◌++◌, append-nil, append_assoc}
use Rattle.words.specs.Lists.{all}
use Rattle.words.proofs.Tests.{and_true}
use Rattle.regions.specs.declared.Region.{Region}
use Rattle.xrtree.specs.Tree.{Entry, Key, Tree, Listing, weave, listed, regions, keys_of}
use Rattle.xrtree.specs.Rules.{none_stabs}
use Rattle.xrtree.specs.Claims.{regions_in, Page, Claim, Between, InKids, In, Kids, PairsIn, Firsts, Good}
use Rattle.xrtree.specs.Local.{NoLeaf, Here, FirstIs, Part, Sound}
use Rattle.xrtree.proofs.Local.{gap_root, lists_local, flags_local}
use Rattle.xrtree.proofs.Here.{here_child, here_next}
use Rattle.xrtree.proofs.Search.{fits_in, good_local, good_flags}
use Rattle.xrtree.specs.Holes.{lo_after, Ctx, Post, fill_kids, fill_last, hi_at, hi_post, lo_at, plug, up}
use Rattle.xrtree.specs.Holes.Post.{at_end, at_key}

first_kids : (h : ℕ) → ((lo hi : ℕ) (c : Tree h) → Firsts h c ↔ Claim FirstIs NoLeaf h lo hi c) → (lo hi : ℕ) (cs : List (Tree h × Key)) (last : Tree h)
    → (PairsIn cs × Kids (Firsts h) cs last) ↔ Page FirstIs (Claim FirstIs NoLeaf h) lo hi cs last
first_kids h ih lo hi [] last = ((λ a. (ih lo hi last).0 a.1), (λ a. (tt, (ih lo hi last).1 a)))
first_kids h ih lo hi (c ∷ cs) last =
    let w = ih lo c.1.key c.0 in
    let v = first_kids h ih (suc c.1.key) hi cs last in
    ((λ a. (a.0.0, w.0 a.1.0, v.0 (a.0.1, a.1.1))), (λ a. ((a.0, (v.1 a.2).0), (w.1 a.1, (v.1 a.2).1))))

pub firsts_claim : (h : ℕ) (lo hi : ℕ) (t : Tree h) → Firsts h t ↔ Claim FirstIs NoLeaf h lo hi t
firsts_claim zero lo hi t = ((λ a. a), (λ a. a))
firsts_claim (suc h) lo hi t = first_kids h (λ lo hi c. firsts_claim h lo hi c) lo hi t.kids t.last

pub good_sound : (top h : ℕ) (t : Tree h) → Good top h t → Sound top (regions h t) h t
good_sound top h t g =
    record {
      part = record { order = g.order; lists = good_local top h t g; flags = good_flags top h t g; firsts = (firsts_claim h 0 top t).0 g.firsts };
      held = refl;
      set = g.set;
    }

sound_good_at : (top h : ℕ) (t : Tree h) → Sound top (regions h t) h t → Good top h t
unfolding none_stabs all
sound_good_at top h t s =
    record {
      order = s.part.order;
      set = s.set;
      lists = (lists_local top (regions h t) s.set.well h [] 0 top t s.part.order (gap_root top (none_stabs []) (λ r. refl))).1 s.part.lists;
      firsts = (firsts_claim h 0 top t).1 s.part.firsts;
      flags = (flags_local top (keys_of h t) h 0 top t (λ r. true) s.part.order (fits_in top h t s.set.well) (gap_root top (λ r. true) (λ r. refl))
          (λ r. and_true (none_stabs (keys_of h t) r))).1 s.part.flags;
    }

pub sound_good : (top : ℕ) (rs : List Region) (h : ℕ) (t : Tree h) → Sound top rs h t → Good top h t
sound_good top rs h t s = sound_good_at top h t (subst (λ z. Sound top z h t) (sym s.held) s)

pub hole_page : {A : Type 0} (Q : ℕ → ℕ → Key → Type 0) (P : ℕ → ℕ → A → Type 0) (lo hi : ℕ) (pre : List (A × Key)) (post : Post A) (t : A)
    → Page Q P lo hi (fill_kids pre post t) (fill_last post t)
    → P (lo_after lo pre) (hi_post hi post) t × ((t' : A) → P (lo_after lo pre) (hi_post hi post) t' → Page Q P lo hi (fill_kids pre post t') (fill_last post t'))
unfolding lo_after
hole_page Q P lo hi [] (at_key k cs last) t g = (g.1, (λ t' w. (g.0, w, g.2)))
hole_page Q P lo hi [] at_end t g = (g, (λ t' w. w))
hole_page Q P lo hi (c ∷ pre) (at_key k cs last) t g =
    let r = hole_page Q P (suc c.1.key) hi pre (at_key k cs last) t g.2 in
    (r.0, (λ t' w. (g.0, g.1, r.1 t' w)))
hole_page Q P lo hi (c ∷ pre) at_end t g =
    let r = hole_page Q P (suc c.1.key) hi pre at_end t g.2 in
    (r.0, (λ t' w. (g.0, g.1, r.1 t' w)))

-- any claim: what it says at the hole, and that whatever keeps it there keeps it of the whole
pub hole : (Q : ℕ → ℕ → Key → Type 0) (L : ℕ → ℕ → List Entry → Type 0) (d m lo hi : ℕ) (c : Ctx d m) (t : Tree m) → Claim Q L (up d m) lo hi (plug d m c t)
    → Claim Q L m (lo_at d m lo c) (hi_at d m hi c) t
    × ((t' : Tree m) → Claim Q L m (lo_at d m lo c) (hi_at d m hi c) t' → Claim Q L (up d m) lo hi (plug d m c t'))
hole Q L zero m lo hi c t g = (g, (λ t' w. w))
hole Q L (suc d) m lo hi c t g =
    let a = hole_page Q (Claim Q L (up d m)) lo hi c.1 c.2 (plug d m c.3 t) g in
    let b = hole Q L d m (lo_after lo c.1) (hi_post hi c.2) c.3 t a.0 in
    (b.0, (λ t' w. a.1 (plug d m c.3 t') (b.1 t' w)))

-- ANY LISTING of a tree around a hole: what comes before it, what is listed there, what comes after it
module _ {B : Type 0} (L : Listing B) where
  abbrev pub before_kids : (h : ℕ) → List (Tree h × Key) → List B
  before_kids h [] = []
  before_kids h (c ∷ cs) = listed L h c.0 ++ (L.on_key c.1 ++ before_kids h cs)

  abbrev pub after_kids : (h : ℕ) → Post (Tree h) → List B
  after_kids h (at_key k cs last) = L.on_key k ++ weave (listed L h) L.on_key cs last
  after_kids h at_end = []

  abbrev pub keys_left : {A : Type 0} → Post A → ℕ
  keys_left (at_key k cs last) = suc (length cs)
  keys_left at_end = 0

  abbrev pub before : (d m : ℕ) → Ctx d m → List B
  before zero m c = []
  before (suc d) m c = L.on_page c.0 (length c.1 + keys_left c.2) ++ (before_kids (up d m) c.1 ++ before d m c.3)

  abbrev pub after : (d m : ℕ) → Ctx d m → List B
  after zero m c = []
  after (suc d) m c = after d m c.3 ++ after_kids (up d m) c.2

  weave_parts : (h : ℕ) (pre : List (Tree h × Key)) (post : Post (Tree h)) (t : Tree h)
      → weave (listed L h) L.on_key (fill_kids pre post t) (fill_last post t) ≡ before_kids h pre ++ (listed L h t ++ after_kids h post)
  unfolding weave
  weave_parts h [] (at_key k cs last) t = refl
  weave_parts h [] at_end t = sym (append-nil (listed L h t))
  weave_parts h (c ∷ pre) (at_key k cs last) t =
      ap (λ (z : List B). listed L h c.0 ++ (L.on_key c.1 ++ z)) (weave_parts h pre (at_key k cs last) t) ∙ simp append_assoc
  weave_parts h (c ∷ pre) at_end t = ap (λ (z : List B). listed L h c.0 ++ (L.on_key c.1 ++ z)) (weave_parts h pre at_end t) ∙ simp append_assoc

  keys_parts : {A : Type 0} (pre : List (A × Key)) (post : Post A) (t : A) → length (fill_kids pre post t) ≡ length pre + keys_left post
  keys_parts pre (at_key k cs last) t = length-append pre ((t, k) ∷ cs)
  keys_parts pre at_end t = omega arith

  pub listed_parts : (d m : ℕ) (c : Ctx d m) (t : Tree m) → listed L (up d m) (plug d m c t) ≡ before d m c ++ (listed L m t ++ after d m c)
  unfolding listed
  listed_parts zero m c t = sym (append-nil (listed L m t))
  listed_parts (suc d) m c t =
      ap₂ ◌++◌ (ap (L.on_page c.0) (keys_parts c.1 c.2 (plug d m c.3 t)))
      (weave_parts (up d m) c.1 c.2 (plug d m c.3 t)
      ∙ ap (λ (z : List B). before_kids (up d m) c.1 ++ (z ++ after_kids (up d m) c.2)) (listed_parts d m c.3 t))
      ∙ simp append_assoc

  pub listed_plug : (d m : ℕ) (c : Ctx d m) (t t' : Tree m) → listed L m t ≡ listed L m t' → listed L (up d m) (plug d m c t) ≡ listed L (up d m) (plug d m c t')
  listed_plug d m c t t' e =
      listed_parts d m c t ∙ ap (λ (z : List B). before d m c ++ (z ++ after d m c)) e ∙ sym (listed_parts d m c t')

-- where a box may be read: at the hole too
here_fill : {rs : List Region} (h lo hi : ℕ) (pre : List (Tree h × Key)) (post : Post (Tree h)) (t : Tree h)
    → Here rs lo hi (regions_in h (fill_kids pre post t) (fill_last post t)) → InKids (In h) lo hi (fill_kids pre post t) (fill_last post t)
    → Here rs (lo_after lo pre) (hi_post hi post) (regions h t)
unfolding weave lo_after
here_fill h lo hi [] (at_key k cs last) t n i = here_child h lo hi (t, k) cs last n i
here_fill h lo hi [] at_end t n i = n
here_fill h lo hi (c ∷ pre) (at_key k cs last) t n i = here_fill h (suc c.1.key) hi pre (at_key k cs last) t (here_next h lo hi c (pre ++ (t, k) ∷ cs) last n i) i.2
here_fill h lo hi (c ∷ pre) at_end t n i = here_fill h (suc c.1.key) hi pre at_end t (here_next h lo hi c pre t n i) i.2

pub here_plug : {rs : List Region} (d m lo hi : ℕ) (c : Ctx d m) (t : Tree m) → Here rs lo hi (regions (up d m) (plug d m c t)) → In (up d m) lo hi (plug d m c t)
    → Here rs (lo_at d m lo c) (hi_at d m hi c) (regions m t)
unfolding listed
here_plug zero m lo hi c t n i = n
here_plug (suc d) m lo hi c t n i =
    here_plug d m (lo_after lo c.1) (hi_post hi c.2) c.3 t
    (here_fill (up d m) lo hi c.1 c.2 (plug d m c.3 t) n i)
    (hole_page Between (In (up d m)) lo hi c.1 c.2 (plug d m c.3 t) i).0

-- A STEP AT A HOLE: what holds there, and that a part in its place which is as good and has the same regions makes the whole tree sound again
pub record Spot (top : ℕ) (rs : List Region) (d m : ℕ) (c : Ctx d m) (t : Tree m) : Type 0 where
  pub part : Part rs m (lo_at d m 0 c) (hi_at d m top c) t
  pub near : Here rs (lo_at d m 0 c) (hi_at d m top c) (regions m t)
  pub refill : (t' : Tree m) → Part rs m (lo_at d m 0 c) (hi_at d m top c) t' → regions m t' ≡ regions m t → Sound top rs (up d m) (plug d m c t')
