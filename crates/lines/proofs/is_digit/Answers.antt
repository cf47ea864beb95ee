-- `lines::is_digit` meets its contract: it is std's test.
use Rattle.lines.specs.Text.{is_digit}
use Rattle.lines.proofs.is_digit.Goals as goal

pub returns : goal.returns
unfolding is_digit
returns c = c.is_ascii_digit.ensures.value
