use Rattle.std.proofs.Common.{rules, ◌+◌, ◌-◌, ap, ◌∙◌}
use Rattle.std.proofs.lemmas.List.Edits.{sets}
use Rattle.pagewords.proofs.Runs.{put_mid_sets}
use Rattle.store.specs.Store.{put_page}
use Rattle.store.proofs.store_page.Goals as goal

pub returns : goal.returns
unfolding put_page
returns c =
    let b = c.page_at-b.result in
    put_mid_sets b (b + 57 - b) c.args.img.now _ c.args.ws c.copy_from_slice.ensures.after (search rules) (search rules) ∙ ap (λ j. sets c.args.img.now j c.args.ws) c.page_at-b.ensures
