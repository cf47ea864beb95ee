-- The byte behind a number of a line, by how many numbers follow it.
-- Assumes nothing.
use Rattle.std.specs.Prelude.{ℕ, zero, suc}
use Rattle.lines.specs.Text.{space, newline}

unfoldable pub break_behind : ℕ → ℕ
break_behind zero = newline
break_behind (suc left) = space
