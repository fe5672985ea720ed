-- What counters, accruals and sequences have in common: their lists, and the acts that all of them have.
use Rattle.std.specs.Prelude.{ℕ, Bool, true, false, List, [], ◌∷◌, ◌++◌}
use Rattle.plan_tables.specs.declared.devices.Act.{Act}
use Rattle.plan_tables.specs.declared.devices.Act.TheVariants as acts
use Rattle.machine_settings.specs.declared.settings.BlockSettings.{BlockSettings}
use Rattle.device_objects.specs.Outcomes.{silent, only_if}

-- the lists of a block; `block_lists` of plan_parts says what each of them does
abbrev pub update : ℕ
update = 0

abbrev pub hit : ℕ
hit = 1

abbrev pub complete : ℕ
complete = 2

-- what a hit or a step runs if it completes the block, and if it does not
abbrev pub completing : List ℕ
completing = update ∷ hit ∷ complete ∷ []

abbrev pub going_on : List ℕ
going_on = update ∷ hit ∷ []

-- What the acts that all blocks have do to a slot, by how a slot is enabled or disabled, and how it is reset. A restart
-- resets the slot and enables it. Of these acts only a reset and a restart run a list: the first.
abbrev pub block_step : {S : Type 0} → (Bool → S → S) → (S → S) → Act → S → S × List ℕ
block_step enable reset acts.Enable slot = (enable true slot, [])
block_step enable reset acts.Disable slot = (enable false slot, [])
block_step enable reset acts.Reset slot = (reset slot, update ∷ [])
block_step enable reset acts.Restart slot = (enable true (reset slot), update ∷ [])
block_step enable reset _ slot = (slot, [])

-- a reset or a restart runs the first list; a persistent block does nothing without a current player
abbrev pub resetting : BlockSettings → List (List ℕ)
resetting b = only_if b.persist silent ++ (update ∷ []) ∷ []

-- what the acts that all blocks have can answer
abbrev pub of_block : BlockSettings → Act → List (List ℕ)
of_block b acts.Reset = resetting b
of_block b acts.Restart = resetting b
of_block b _ = silent
