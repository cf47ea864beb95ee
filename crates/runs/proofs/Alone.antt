-- Demand 2 of one set alone: whatever is saved to it and deleted from it, its image is valid, holds exactly what its history says, and keeps the shares given.
-- Assumes nothing.
use Prim.Native.Nat.{ℕ}
use mathlib.Core.Path.{◌≡◌, refl}
use mathlib.Core.Logic.{◌↔◌}
use mathlib.Core.Bool.{true}
use mathlib.Core.List.{List, []}
use lib.ListN.{replicate, length-replicate}
use Rattle.words.specs.Lists.{filter, first_no, In}
use Rattle.regions.specs.declared.Region.{Region}
use Rattle.regions.specs.Sets.{is_at}
use Rattle.regions.specs.Desk.{closed, open_desk_no}
use Rattle.regions.specs.Sound.{Sound}
use Rattle.image.specs.Read.{set_of}
use Rattle.image.specs.Valid.{valid}
use Rattle.desk.specs.Promises.{OpensDesk}
use Rattle.plainruns.specs.Calls.{Done}
use Rattle.plainruns.specs.Calls.Which.{outer}
use Rattle.plainruns.specs.Held.{held_from, Stands}
use Rattle.runs.specs.Calls.{Lent, Runs, Ready}
use Rattle.runs.specs.Calls.Does.{saves, deletes}
use Rattle.runs.specs.Calls.Runs.{stop, go, batch}
use Rattle.runs.specs.Alone.{OpenedAlone, Alone}
use Rattle.runs.specs.Alone.Alone.{rests, saving, deleting, batching}
use Rattle.runs.proofs.Demand.{demand_valid, demand_held, demand_at, demand_shares, demand_sound}

-- it is a run over two sets of which the other is left alone, beside a desk of closed seats
abbrev pub beside : List ℕ → List ℕ → Lent
beside w other = record { outer_image = w; inner_image = other; desk = replicate 8 closed; buffer = replicate 1024 0 }

pub desk_opens : OpensDesk (replicate 8 closed) 0 (replicate 8 closed)
unfolding open_desk_no first_no
desk_opens = record { number_is = refl; desk_is = refl }

pub ready : (shares w : List ℕ) → OpenedAlone shares w → Ready shares shares (beside w w)
ready shares w o =
    record {
      outer_lent = o.lent;
      inner_lent = o.lent;
      desk_lent = replicate 8 closed;
      outer_shares = o.sixteen;
      inner_shares = o.sixteen;
      opens_outer = o.opens;
      opens_inner = o.opens;
      opens_desk = desk_opens;
      buffer_is = length-replicate {A = ℕ} 1024 0;
    }

pub alone_runs : {w v : List ℕ} (other : List ℕ) {ds : List Done} → Alone w ds v → Runs (beside w other) ds (beside v other)
alone_runs other rests = stop
alone_runs other (saving s t) = go (saves outer s) (alone_runs other t)
alone_runs other (deleting s t) = go (deletes outer s) (alone_runs other t)
alone_runs other (batching b t) = batch outer b (alone_runs other t)

module _ (shares : List ℕ) {w v : List ℕ} {ds : List Done} (o : OpenedAlone shares w) (t : Alone w ds v) where
  pub alone_valid : valid v ≡ true
  alone_valid = demand_valid shares shares (ready shares w o) (alone_runs w t) outer

  pub alone_held : (r : Region) → In r (set_of v).regions ↔ Stands outer r ds
  alone_held r = demand_held shares shares (ready shares w o) (alone_runs w t) outer r

  pub alone_at : (p : ℕ) → filter (is_at p) (set_of v).regions ≡ held_from outer p [] ds
  alone_at p = demand_at shares shares (ready shares w o) (alone_runs w t) outer p

  pub alone_shares : (set_of v).shares ≡ shares
  alone_shares = demand_shares shares shares (ready shares w o) (alone_runs w t) outer

  pub alone_sound : Sound (set_of v)
  alone_sound = demand_sound shares shares (ready shares w o) (alone_runs w t) outer
