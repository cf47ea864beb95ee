-- The stack of the outer regions that hold a place, beside an image: where its cursor stands, and how it comes from one place to the next.
-- Assumes nothing.
use Rattle.std.specs.Prelude.{ℕ, suc, ◌≤◌, ◌≡◌, List, length}
use Rattle.words.specs.Lists.{filter}
use Rattle.regions.specs.Sets.{starts_before, starts_from}
use Rattle.image.specs.Read.{set_of}
use Rattle.leaves.specs.Faces.{Faces}
use Rattle.stack.specs.Stacks.{held_words, holds_up_to, stacked}
use Rattle.follow.specs.declared.Stack.{Stack}

-- THE STACK AT A PLACE: all that hold it, and the cursor at the first region that starts no sooner than they must
pub record Placed (w : List ℕ) (s p : ℕ) (held : List ℕ) (t : Stack) : Type 0 where
  pub long : length held ≡ held_words
  pub stack : stacked held t.n ≡ filter (holds_up_to s p) (set_of w).regions
  pub faces : Faces w t.cur (filter (starts_from s) (set_of w).regions)

-- at a place that is not behind p
pub record Behind (w : List ℕ) (s p : ℕ) (held : List ℕ) (t : Stack) : Type 0 where
  pub bound : ℕ
  pub place : ℕ
  pub near : bound ≤ suc place
  pub bound_far : bound ≤ s
  pub place_far : place ≤ p
  pub placed : Placed w bound place held t

-- on the way to p: of those before the cursor all that hold p
pub record Coming (w : List ℕ) (s p : ℕ) (held : List ℕ) (t : Stack) : Type 0 where
  pub long : length held ≡ held_words
  pub at : ℕ
  pub far : at ≤ s
  pub stack : stacked held t.n ≡ filter (holds_up_to s p) (filter (starts_before at) (set_of w).regions)
  pub faces : Faces w t.cur (filter (starts_from at) (set_of w).regions)
