use Rattle.std.proofs.Common.{rules, arith, ◌+◌, ◌-◌, ◌≡◌, take, drop, ap, ◌∙◌}
use Rattle.pagewords.proofs.Runs.{put_mid_copied}
use Rattle.pagewords.proofs.copied.Goals as goal

pub returns : goal.returns
returns c =
    let s = c.args in
    let k : s.a + s.n - s.a ≡ s.n = omega arith in
    let m : s.b + s.n - s.b ≡ s.n = omega arith in
    put_mid_copied s.to s.from _ s.a s.b _ s.n (c.copy_from_slice.ensures.after ∙ ap (λ j. take j (drop s.b s.from)) m) k (search rules) (search rules)
