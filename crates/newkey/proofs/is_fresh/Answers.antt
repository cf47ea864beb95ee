-- `newkey::is_fresh` meets its contract: the flag's test, then the key's.
use mathlib.Core.Path.{sym, ◌∙◌}
use Rattle.words.proofs.Tests.{eq_no}
use Rattle.image.specs.Read.{entry_at}
use Rattle.newkey.proofs.Gathering.{fresh_flag}
use Rattle.newkey.specs.Moves.{fresh_at}
use Rattle.newkey.proofs.is_fresh.Goals as goal

pub returns-then-flag_in-eq0 : goal.returns-then-flag_in-eq0
returns-then-flag_in-eq0 c =
    let a = c.args in
    fresh_flag a.k (entry_at a.ws a.j) _ _ (sym c.flag_in.ensures ∙ c.if-flag_in-eq0.true) c.entry_in.ensures c.stabs.ensures

pub returns-else-flag_in-eq0 : goal.returns-else-flag_in-eq0
unfolding fresh_at
returns-else-flag_in-eq0 c = rw (eq_no _ 0 c.if-flag_in-eq0.false, eq_no _ 0 (λ z. c.if-flag_in-eq0.false (c.flag_in.ensures ∙ z)))
