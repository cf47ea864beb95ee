-- What a merge asks of its page: two neighbours whose entries or keys fit in one.
-- Assumes nothing.
use Rattle.std.specs.Prelude.{ℕ, suc, ◌+◌, ◌≤◌, List}
use Rattle.steps.specs.Steps.{size, PairAt}

-- WHAT A MERGE ASKS FOR: two neighbours that fit into one page
pub record LeavesFit (w : List ℕ) (q j : ℕ) : Type 0 where
  pub pair : PairAt w 0 q j
  pub fit : size 0 pair.left + size 0 pair.right ≤ 9

pub record InnersFit (w : List ℕ) (q j : ℕ) : Type 0 where
  pub h : ℕ
  pub pair : PairAt w (suc h) q j
  pub fit : size (suc h) pair.left + size (suc h) pair.right + 1 ≤ 9
