use Rattle.std.proofs.Common.{arith, ◌+◌, ◌-◌, ◌≡◌, take, drop, ap₂, ◌∙◌}
use Rattle.pages.specs.Layout.{page_of}
use Rattle.store.proofs.load_page.Goals as goal

pub returns : goal.returns
unfolding page_of
returns c =
    let b = c.page_at-b.result in
    let n : b + 57 - b ≡ 57 = omega arith in
    c.copy_from_slice.ensures.after ∙ ap₂ (λ k j. take k (drop j c.args.img.now)) n c.page_at-b.ensures
