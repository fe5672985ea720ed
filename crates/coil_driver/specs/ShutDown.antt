-- What is sent to a board at the end.
use Rattle.std.specs.Prelude.{◌≡◌, ◌⊎◌, ◌==◌, ℕ, suc, Bool, false, Option, None, Some, List, [], ◌∷◌}
use Rattle.plan_tables.specs.declared.entries.CoilId.{CoilId}
use Rattle.coil_guard.specs.declared.command.Command.TheVariants.{Disable}
use Rattle.coil_driver.specs.Board.{BoardView, HasTaken, HasNotTaken}

-- whether it is the coil whose command the board has not taken
abbrev pub is_faulted : Option CoilId → CoilId → Bool
is_faulted None coil = false
is_faulted (Some faulted) coil = coil.0 == faulted.0

-- Each of these coils is sent a disable, in order, also after a fault. Those whose disable the board has taken are
-- turned off, and the others are counted.
abbrev pub ArePutOff : List CoilId → BoardView → List CoilId → ℕ → BoardView → Type 0
ArePutOff [] old off faults new = (off ≡ []) × (faults ≡ 0) × (new ≡ old)
ArePutOff (coil ∷ more) old off faults new =
    (mid : BoardView)
    × ((HasTaken (Disable coil) old mid × ((rest : List CoilId) × (off ≡ coil ∷ rest)
    × ArePutOff more mid rest faults new))
    ⊎ (HasNotTaken old mid × ((others : ℕ) × (faults ≡ suc others) × ArePutOff more mid off others new)))
