use Rattle.std.proofs.Common.{rules, arith, ◌+◌, ◌-◌, ◌≡◌, ◌∙◌}
use Rattle.pagewords.proofs.Runs.{paste_copied}
use Rattle.store.proofs.move_up.Goals as goal

pub returns : goal.returns
returns c =
    let s = c.args in
    let n : s.b + s.n - s.b ≡ s.n = omega arith in
    c.copy_within.ensures.after ∙ paste_copied s.img.now s.img.now (s.b + s.k) s.b _ s.n n (search rules) (search rules)
