-- Rule 6 of a set, as the laws on sets know it: so a save that its share allows, and a delete, keep it; and a valid image holds at most 500 regions.
-- Assumes nothing.
use Prim.Native.Nat.{ℕ, zero, suc, ◌≤◌, ◌<◌}
use mathlib.Core.Path.{◌≡◌, ap}
use mathlib.Core.Bool.{false}
use mathlib.Core.List.{List, ◌∷◌}
use lib.Dec.{T, leb, leb→le, le→leb}
use lib.ListN.{length, length-append, length-take, length-drop}
use native.Mathlib.Omega.{arith}
use native.Mathlib.Decide.{dec_lt, ℕ_discrete}
use Rattle.words.specs.Lists.{All, all, all_pairs, filter, sum}
use Rattle.words.proofs.Tests.{of_T, T_of, and_left, and_right, and_both}
use Rattle.words.proofs.Listed.{all_mono, filter_none}
use Rattle.words.proofs.Says.{Says, all_says, pairs_say, lt_says, so_false}
use Rattle.regions.specs.declared.Region.{Region}
use Rattle.regions.specs.Positions.{account, well_formed, nested, leveled}
use Rattle.regions.specs.Sets.{Set, of, held_by, share_of, starts_before, starts_behind, saved, deleted}
use Rattle.regions.specs.Calls.{save_no, delete_no}
use Rattle.regions.proofs.Means.{of_says}
use Rattle.regions.specs.Sound.{Wf, Rising, Sound}
use Rattle.regions.proofs.Done.{save_done}
use Rattle.regions.proofs.Rising.{nesting_says, leveling_says, saved_sound, deleted_sound, few, saved_all, deleted_all, saved_rises, deleted_rises, free_sides}
use Rattle.xrtree.specs.Tree.{regions}
use Rattle.xrtree.specs.Rules.{starts_first, shares_kept, rule6}
use Rattle.pages.specs.Layout.{root_of, shares_of}
use Rattle.image.specs.Read.{depth_of, set_of}
use Rattle.image.specs.Valid.{valid}
use Rattle.image.proofs.Small.{Small, small_starts}
use Rattle.image.proofs.Facts.{valid_facts}

-- every region's account is one of the sixteen
abbrev pub Accounted : List Region → Type 0
Accounted rs = All (λ (r : Region). account r.start ≤ 15) rs

kept_share : (n : ℕ) (S : Set) → T (shares_kept n S) → (a : ℕ) → a < n → held_by a S ≤ share_of a S
unfolding shares_kept
kept_share zero S t a l = absurd (omega arith)
kept_share (suc n) S t a l =
    elim (ℕ_discrete a n) [
      | yes e ↦ rw e (leb→le (held_by n S) (share_of n S) (and_left (leb (held_by n S) (share_of n S)) _ t))
      | no e ↦ kept_share n S (and_right (leb (held_by n S) (share_of n S)) _ t) a (omega arith)
    ]

share_kept : (n : ℕ) (S : Set) → ((a : ℕ) → held_by a S ≤ share_of a S) → T (shares_kept n S)
unfolding shares_kept
share_kept zero S f = tt
share_kept (suc n) S f = and_both (leb (held_by n S) (share_of n S)) _ (le→leb (held_by n S) (share_of n S) (f n)) (share_kept n S f)

none_of_it : (a : ℕ) (S : Set) → 15 < a → Accounted S.regions → held_by a S ≡ 0
none_of_it a S l h = ap length (filter_none (of a) S.regions (all_mono {Q = λ r. of a r ≡ false} (λ r m. so_false (of_says a r) (λ e. omega arith)) S.regions h))

formed_says : (rs : List Region) → Says (all well_formed rs) (All Wf rs)
formed_says rs = all_says (λ r. record { yes_so = of_T (well_formed r); so_yes = λ e. T_of e }) rs

-- RULE 6, and what the laws on sets ask for
pub six_sound : (S : Set) → T (rule6 S) → Rising S.regions → Accounted S.regions → Sound S
unfolding rule6
six_sound S t u h =
    let a = and_right (all well_formed S.regions) _ t in
    let b = and_right (all_pairs nested S.regions) _ a in
    let c = and_right (all_pairs leveled S.regions) _ b in
    record {
      formed = (formed_says S.regions).yes_so (and_left (all well_formed S.regions) _ t);
      rising = u;
      nesting = (nesting_says S.regions).yes_so (and_left (all_pairs nested S.regions) _ a);
      leveling = (leveling_says S.regions).yes_so (and_left (all_pairs leveled S.regions) _ b);
      within = λ n. elim (dec_lt n 16) [ yes l ↦ kept_share 16 S (and_left (shares_kept 16 S) _ c) n l | no l ↦ omega (arith, none_of_it n S (omega arith) h) ];
      shared = leb→le (sum S.shares) 500 (and_right (shares_kept 16 S) _ c);
    }

pub sound_six : (S : Set) → Sound S → T (rule6 S)
unfolding rule6
sound_six S g =
    and_both (all well_formed S.regions) _ ((formed_says S.regions).so_yes g.formed)
    (and_both (all_pairs nested S.regions) _ ((nesting_says S.regions).so_yes g.nesting)
    (and_both (all_pairs leveled S.regions) _ ((leveling_says S.regions).so_yes g.leveling) (and_both (shares_kept 16 S) _ (share_kept 16 S g.within) (le→leb (sum S.shares) 500 g.shared))))

-- SAVE and DELETE keep it
pub saved_six : (S : Set) (a : ℕ) (r : Region) → T (rule6 S) → Rising S.regions → Accounted S.regions → save_no S a r ≡ 0 → T (rule6 (saved r S))
saved_six S a r t u h e = sound_six (saved r S) (saved_sound S a r e (six_sound S t u h))

pub deleted_six : (S : Set) (a s : ℕ) → T (rule6 S) → Rising S.regions → Accounted S.regions → delete_no S a s ≡ 0 → T (rule6 (deleted s S))
deleted_six S a s t u h e = sound_six (deleted s S) (deleted_sound S a s e (six_sound S t u h))

pub saved_accounted : (S : Set) (a : ℕ) (r : Region) → Accounted S.regions → save_no S a r ≡ 0 → Accounted (saved r S).regions
saved_accounted S a r h e =
    let m = save_done S a r e in
    saved_all (λ (x : Region). account x.start ≤ 15) S r (omega (arith, m.own.same, m.own.range)) h

pub deleted_accounted : (S : Set) (s : ℕ) → Accounted S.regions → Accounted (deleted s S).regions
deleted_accounted S s h = deleted_all (λ (x : Region). account x.start ≤ 15) S s h

-- so it holds at most 500, and still does after a save
pub six_few : (S : Set) → T (rule6 S) → Rising S.regions → Accounted S.regions → length S.shares ≡ 16 → length S.regions ≤ 500
six_few S t u h n = few S (six_sound S t u h) n h

-- A VALID IMAGE'S SET
pub record SetFacts (S : Set) : Type 0 where
  pub six : T (rule6 S)
  pub rising : Rising S.regions
  pub accounted : Accounted S.regions
  pub sixteen : length S.shares ≡ 16

pub saved_facts : (S : Set) (a : ℕ) (r : Region) → SetFacts S → save_no S a r ≡ 0 → SetFacts (saved r S)
unfolding saved
saved_facts S a r f e =
    record {
      six = saved_six S a r f.six f.rising f.accounted e;
      rising = saved_rises S r f.rising;
      accounted = saved_accounted S a r f.accounted e;
      sixteen = f.sixteen;
    }

pub deleted_facts : (S : Set) (a s : ℕ) → SetFacts S → delete_no S a s ≡ 0 → SetFacts (deleted s S)
unfolding deleted
deleted_facts S a s f e =
    record {
      six = deleted_six S a s f.six f.rising f.accounted e;
      rising = deleted_rises S s f.rising;
      accounted = deleted_accounted S s f.accounted;
      sixteen = f.sixteen;
    }

pub facts_few : (S : Set) → SetFacts S → length S.regions ≤ 500
facts_few S f = six_few S f.six f.rising f.accounted f.sixteen

-- a save's set is one longer, so one region less than 500 is held before it
pub saved_longer : (S : Set) (a : ℕ) (r : Region) → Rising S.regions → save_no S a r ≡ 0 → length (saved r S).regions ≡ suc (length S.regions)
unfolding saved
saved_longer S a r u e =
    let b = filter (starts_before r.start) S.regions in
    let d = filter (starts_behind r.start) S.regions in
    omega (arith, length-append b (r ∷ d), length-append b d, ap length (free_sides r.start S u (save_done S a r e).free))

pub save_room : (S : Set) (a : ℕ) (r : Region) → SetFacts S → save_no S a r ≡ 0 → length S.regions < 500
save_room S a r f e = omega (arith, saved_longer S a r f.rising e, facts_few (saved r S) (saved_facts S a r f e))

rising_says : (rs : List Region) → Says (all_pairs starts_first rs) (Rising rs)
unfolding starts_first
rising_says rs = pairs_say (λ x y. lt_says x.start y.start) rs

shares_sixteen : (w : List ℕ) → length w ≡ 12288 → length (shares_of w) ≡ 16
unfolding shares_of
shares_sixteen w e = simp (length-take, length-drop) (omega arith)

pub valid_set : (w : List ℕ) → Small w → T (valid w) → SetFacts (set_of w)
unfolding set_of rule6
valid_set w small v =
    let f = valid_facts w v in
    record {
      six = and_both (all well_formed (set_of w).regions) _ f.formed
          (and_both (all_pairs nested (set_of w).regions) _ f.nest
          (and_both (all_pairs leveled (set_of w).regions) _ f.level (and_both (shares_kept 16 (set_of w)) _ f.kept f.sums)));
      rising = (rising_says (set_of w).regions).yes_so f.ascend;
      accounted = all_mono {Q = λ r. account r.start ≤ 15} (λ r l. low r.start l) (set_of w).regions (small_starts w small (depth_of w) (root_of w));
      sixteen = shares_sixteen w f.long;
    }
  where
    low : (s : ℕ) → s < 4294967296 → account s ≤ 15
    low s l = omega arith
