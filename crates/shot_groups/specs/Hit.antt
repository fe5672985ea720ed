-- What a hit of a shot does: contracts of private functions cite it.
use Rattle.std.specs.Prelude.{ℕ, List, ◌++◌, if◌then◌else◌}
use Rattle.plan_tables.specs.declared.devices.BankSettings.{BankSettings}
use Rattle.device_objects.specs.Bank.{complete_lists, gone_on, hit_lists}

-- the states of the shots after a hit of this one in this state: it goes on if hits move shots
abbrev pub states_after_hit : BankSettings → (shot state : ℕ) → (states : List ℕ) → List ℕ
states_after_hit b shot state states = if b.advance_on_hit then gone_on b shot state states else states

-- what the hit runs: the lists of the hit, and if it has moved the shot, those of a group that is complete
abbrev pub lists_of_hit : BankSettings → (shot state : ℕ) → (states : List ℕ) → List ℕ
lists_of_hit b shot state states =
    if b.advance_on_hit then hit_lists b shot state
    ++ complete_lists b state (gone_on b shot state states) else hit_lists b shot state
