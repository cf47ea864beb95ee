-- `split::key_between` meets its contract: the test is the definition's.
-- the definition's two cases
use borrow.Author.Rules.{rules}
use Prim.Native.Nat.{ℕ, ◌-◌, ◌<◌, ◌≤◌}
use mathlib.Core.Path.{◌≡◌}
use Rattle.words.proofs.Tests.{lt_yes, lt_no}
use Rattle.xrtree.specs.Rules.{key_between}
use Rattle.split.proofs.key_between.Goals as goal

right-before : (last first : ℕ) → last < first - 1 → first - 1 ≡ key_between last first
unfolding key_between
right-before last first h = rw (lt_yes last (first - 1) h)

the-first : (last first : ℕ) → first - 1 ≤ last → first ≡ key_between last first
unfolding key_between
the-first last first h = rw (lt_no last (first - 1) h)

pub returns-then-last-first : goal.returns-then-last-first
returns-then-last-first c = search (rules, right-before)

pub returns : goal.returns
returns c = search (rules, the-first)
