-- `shape::page_right` meets its contract: each early answer is one of the page's tests, the last answer the last test.
use native.Mathlib.Omega.{arith}
use Rattle.shape.proofs.Turns.{page_low, page_high, page_free, page_few, page_rest}
use Rattle.shape.proofs.page_right.Goals as goal
use Rattle.shape.proofs.page_right.Goals.{then-place-lt1-via-then-place-lt1, then-place-lt1-via-else-place-lt1+then-place-gt-PAGE_COUNT, then-place-lt1-via-else-place-lt1+else-place-gt-PAGE_COUNT+then-mark-eq0}

pub returns-then-place-lt1 : goal.returns-then-place-lt1
returns-then-place-lt1 c =
    elim c.then-place-lt1.branch [
      | then-place-lt1-via-then-place-lt1 w ↦ page_low _ _ _ w.if-place-lt1.true
      | then-place-lt1-via-else-place-lt1+then-place-gt-PAGE_COUNT w ↦ page_high _ _ _ w.if-place-lt1.false w.if-place-gt-PAGE_COUNT.true
      | then-place-lt1-via-else-place-lt1+else-place-gt-PAGE_COUNT+then-mark-eq0 w ↦ page_free _ _ _ _ (omega (arith, w.if-place-lt1.false)) (omega (arith, w.if-place-gt-PAGE_COUNT.false)) w.mark.ensures w.if-mark-eq0.true
    ]

pub returns-then-least-n : goal.returns-then-least-n
returns-then-least-n c =
    page_rest _ _ _ _ _ (omega arith) (omega arith) c.mark.ensures c.if-mark-eq0.false c.fill-n.ensures c.if-least-n.true

pub returns-else-least-n : goal.returns-else-least-n
returns-else-least-n c =
    page_few _ _ _ _ _ (omega arith) (omega arith) c.mark.ensures c.if-mark-eq0.false c.fill-n.ensures (omega (arith, c.if-least-n.false))
