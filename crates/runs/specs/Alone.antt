-- One set alone: an image is opened, then saved to and deleted from, call after call or many in one batch. Nothing else is lent. (In its history it stands as the outer set.)
-- Assumes nothing.
use Rattle.std.specs.Prelude.{ℕ, ◌≡◌, false, List, [], ◌∷◌, ◌++◌, length}
use Rattle.regions.specs.Limits.{account_count}
use Rattle.regions.specs.declared.Region.{Region}
use Rattle.regions.specs.Numbers.{DONE}
use Rattle.regions.specs.Items.{items_of}
use Rattle.index.specs.Opening.{OpensSet}
use Rattle.index.specs.Changes.{Saves, Deletes}
use Rattle.index.specs.Batches.{Batches}
use Rattle.plainruns.specs.Calls.{Done}
use Rattle.plainruns.specs.Calls.Which.{outer}
use Rattle.plainruns.specs.Calls.Call.{save, delete}
use Rattle.runs.specs.Calls.{tells, items_done}

-- how it begins: any words, opened with sixteen shares, answered 0
pub record OpenedAlone (shares w : List ℕ) : Type 0 where
  pub lent : List ℕ
  pub sixteen : length shares ≡ account_count
  pub opens : OpensSet lent shares DONE w

-- call after call, each by its own record
pub data Alone : List ℕ → List Done → List ℕ → Type 0 where
  rests : {w : List ℕ} → Alone w [] w
  saving : {w v u : List ℕ} {a number : ℕ} {r : Region} {ds : List Done} → Saves w a r number v → Alone v ds u
      → Alone w (record { call = save outer a r; told = tells number 0 false [] [] 0 } ∷ ds) u
  deleting : {w v u : List ℕ} {a p number : ℕ} {ds : List Done} → Deletes w a p number v → Alone v ds u
      → Alone w (record { call = delete outer a p; told = tells number 0 false [] [] 0 } ∷ ds) u
  batching : {w v u words places places' : List ℕ} {ds : List Done} → Batches w words places DONE v places' → Alone v ds u → Alone w (items_done outer (items_of words) places' ++ ds) u
