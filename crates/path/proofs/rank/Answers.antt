use Rattle.std.proofs.Common.{rules, tests}
use Rattle.std.specs.Prelude.{◌<◌, ◌≤◌}
use mathlib.Core.Path.{◌∙◌}
use lib.ListN.{get_or}
use Rattle.std.proofs.lemmas.Iterator.{first_from_Range}
use Rattle.pages.specs.Layout.{page_of, key_word}
use Rattle.path.proofs.Ranks.{rank_first}
use Rattle.path.proofs.rank.Goals as goal

pub returns : goal.returns
returns c =
    let ws = page_of c.args.img.now c.args.page in
    c.unwrap_or.ensures ∙ rank_first ws c.args.x _ _ c.fill-n.ensures
    (first_from_Range _ _ _ _ (λ i. c.args.x < get_or ws (key_word i) 0) (λ i. get_or ws (key_word i) 0 ≤ c.args.x) c.find.ensures.ran (λ x q k. search (rules, tests)) (λ x q k. (search rules, search (rules, tests))))
