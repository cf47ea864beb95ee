-- `stablists::pair_right` meets its contract: a list is empty exactly where its head is 0, and else its first region is the head's.
use Rattle.pages.specs.Layout.{page_of}
use Rattle.stablists.proofs.Ways.{pair_not, pair_is_lem, pair_code_none, pair_code_first}
use Rattle.stablists.proofs.pair_right.Goals as goal

pub returns-then-k-eq0-2 : goal.returns-then-k-eq0-2
returns-then-k-eq0-2 c =
    let k = c.key_words-k.ensures in
    pair_code_none _ (page_of c.args.img.now c.args.p) c.args.i c.key_words-k.result _ k.1 k.2 k.3 c.if-k-eq0.true (pair_is_lem c.key_words-k.result _ _ c.if-k-eq0-2.true)

pub returns-else-k-eq0-2 : goal.returns-else-k-eq0-2
returns-else-k-eq0-2 c =
    let k = c.key_words-k.ensures in
    pair_code_none _ (page_of c.args.img.now c.args.p) c.args.i c.key_words-k.result _ k.1 k.2 k.3 c.if-k-eq0.true (pair_not c.key_words-k.result _ _ c.if-k-eq0-2.false)

pub returns-then-k-first : goal.returns-then-k-first
returns-then-k-first c =
    let k = c.key_words-k.ensures in
    pair_code_first _ (page_of c.args.img.now c.args.p) c.args.i c.key_words-k.result _ _ k.1 k.2 k.3 c.if-k-eq0.false c.record_region-first.ensures (pair_is_lem c.key_words-k.result _ _ c.if-k-first.true)

pub returns-else-k-first : goal.returns-else-k-first
returns-else-k-first c =
    let k = c.key_words-k.ensures in
    pair_code_first _ (page_of c.args.img.now c.args.p) c.args.i c.key_words-k.result _ _ k.1 k.2 k.3 c.if-k-eq0.false c.record_region-first.ensures (pair_not c.key_words-k.result _ _ c.if-k-first.false)
