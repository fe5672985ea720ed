-- Which level of a switch is accepted, by its past raw changes alone.
use Rattle.std.specs.Prelude.{ℕ, ◌+◌, Bool, false, if◌then◌else◌, Option, None, Some, List, [], ◌∷◌, nat_le, filter}
use Rattle.std.specs.List.{list_all, last_or}
use Rattle.machine_settings.specs.declared.words.Contact.{Contact}
use Rattle.plan_tables.specs.declared.entries.SwitchKind.{SwitchKind}
use Rattle.switch_core.specs.SwitchStep.{is_active}

-- a change of a switch to another raw level, and its moment in milliseconds
pub record RawChange : Type 0 where
  pub at : ℕ
  pub level : Bool

-- how long a raw change has to stand: 5 ms, and not at all if the switch is quick
abbrev pub delay_of : SwitchKind → ℕ
delay_of kind = if kind.quick then 0 else 5

-- Of raw changes in their order those that stand: no later one comes before the delay is over.
abbrev pub standing : ℕ → List RawChange → List RawChange
standing delay [] = []
standing delay (c ∷ later) = if list_all (λ l. nat_le (c.at + delay) l.at) later then c
    ∷ standing delay later else standing delay later

-- whether the delay of a raw change is over at the moment
abbrev pub is_delay_over : ℕ → ℕ → RawChange → Bool
is_delay_over delay moment c = nat_le (c.at + delay) moment

-- whether a switch is active after the raw change, if there is one
abbrev pub active_after : Contact → Option RawChange → Bool
active_after contact None = false
active_after contact (Some c) = is_active contact c.level

-- Whether a switch is active at a moment: by the last of its raw changes that stand and whose delay is over, and
-- without one not.
abbrev pub accepted_level : SwitchKind → ℕ → List RawChange → Bool
accepted_level kind moment changes = active_after kind.contact
    (last_or None (filter (is_delay_over (delay_of kind) moment) (standing (delay_of kind) changes)))
