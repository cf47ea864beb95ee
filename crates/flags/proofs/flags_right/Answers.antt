-- `flags::flags_right` meets its contract: the numbers below the fill, tested in turn, are the entries.
use Rattle.std.proofs.Common.{◌≡◌, ℕ, zero, suc, ◌&&◌, List, refl, ap, ◌∙◌, arith, rules, tests, add-one}
use Rattle.std.specs.List.{list_all, range_with_len}
use Rattle.std.proofs.lemmas.Iterator.{YieldsList-from_range}
use Rattle.std.proofs.lemmas.Iterator.Search.{all_from_yields_List}
use Rattle.words.specs.Lists.{all}
use Rattle.pages.specs.Layout.{page_of, fill_of}
use Rattle.image.specs.Read.{entry_at, entries_from}
use Rattle.flags.specs.Pass.{flag_here}
use Rattle.flags.proofs.flags_right.Goals as goal

by_number : (lo hi : ℕ) (ws : List ℕ) (i n : ℕ) → list_all (λ k. flag_here lo hi (entry_at ws k)) (range_with_len i n) ≡ all (flag_here lo hi) (entries_from ws i n)
unfolding all entries_from
by_number lo hi ws i zero = refl
by_number lo hi ws i (suc n) = rw (add-one i) (ap (λ b. flag_here lo hi (entry_at ws i) && b) (by_number lo hi ws (suc i) n))

pub returns : goal.returns
returns c =
    let ws = page_of c.args.img.now c.args.p in
    all_from_yields_List (λ k. flag_here c.args.low c.args.high (entry_at ws k)) _ _ c.all.result c.all.ensures.ran
    (YieldsList-from_range 0 (fill_of ws) (fill_of ws) (ap (λ n. record { start = 0; end = n }) c.fill-n.ensures) (omega arith)) (λ x b q k. search (rules, tests))
    ∙ by_number c.args.low c.args.high ws 0 (fill_of ws)
