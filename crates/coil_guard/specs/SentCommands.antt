-- What sent commands say of a coil: whether it is on, held, or resting. No state of the guard is looked at.
use Rattle.std.specs.Prelude.{◌≡◌, ℕ, ◌+◌, ◌*◌, ◌<◌, ◌≤◌, ◌==◌, Bool, true, false, not, ◌&&◌, ◌||◌, Option, List, []}
use Rattle.std.specs.{Prelude.{◌∷◌, nat_le, nat_lt}, List.{list_all, list_any}}
use Rattle.plan_tables.specs.declared.entries.{Owner.Owner, CoilId.CoilId}
use Rattle.coil_guard.specs.{declared.command.Command.{Command, TheVariants.{Pulse, Enable, Disable}}, Owners.is_holder}

-- a sent command, the moment at which it was sent, and for whom, if it is an enable
pub record Sending : Type 0 where
  pub at : ℕ
  pub command : Command
  pub owner : Option Owner

-- ---- one command

abbrev pub coil_of : Command → CoilId
coil_of (Pulse coil ms power) = coil
coil_of (Enable coil power) = coil
coil_of (Disable coil) = coil

abbrev pub is_to : CoilId → Command → Bool
is_to coil command = (coil_of command).0 == coil.0

abbrev pub is_enable : Command → Bool
is_enable (Pulse coil ms power) = false
is_enable (Enable coil power) = true
is_enable (Disable coil) = false

abbrev pub is_disable : Command → Bool
is_disable (Pulse coil ms power) = false
is_disable (Enable coil power) = false
is_disable (Disable coil) = true

-- whether a command that was sent at one moment puts its coil on at another: a pulse until its end, an enable for good
abbrev pub puts_on : ℕ → ℕ → Command → Bool
puts_on moment at (Pulse coil ms power) = nat_le at moment && nat_lt moment (at + ms)
puts_on moment at (Enable coil power) = nat_le at moment
puts_on moment at (Disable coil) = false

-- whether it is a disable that was sent at or before the moment
abbrev pub puts_off : ℕ → ℕ → Command → Bool
puts_off moment at (Pulse coil ms power) = false
puts_off moment at (Enable coil power) = false
puts_off moment at (Disable coil) = nat_le at moment

-- whether it is a pulse, and twice its length is not over at the moment
abbrev pub makes_rest : ℕ → ℕ → Command → Bool
makes_rest moment at (Pulse coil ms power) = nat_lt moment (at + 2 * ms)
makes_rest moment at (Enable coil power) = false
makes_rest moment at (Disable coil) = false

-- ---- one sending

abbrev pub begins_on : CoilId → ℕ → Sending → Bool
begins_on coil moment s = is_to coil s.command && puts_on moment s.at s.command

abbrev pub ends_on : CoilId → ℕ → Sending → Bool
ends_on coil moment s = is_to coil s.command && puts_off moment s.at s.command

abbrev pub begins_hold : CoilId → Sending → Bool
begins_hold coil s = is_to coil s.command && is_enable s.command

abbrev pub begins_hold_for : Owner → CoilId → Sending → Bool
begins_hold_for owner coil s = is_to coil s.command && (is_enable s.command && is_holder owner s.owner)

abbrev pub ends_hold : CoilId → Sending → Bool
ends_hold coil s = is_to coil s.command && is_disable s.command

-- ---- all sendings, in the order in which they were sent

-- whether there is one that begins something, and after it none that ends it
abbrev pub lasts : (Sending → Bool) → (Sending → Bool) → List Sending → Bool
lasts begins ends [] = false
lasts begins ends (s ∷ later) = (begins s && list_all (λ l. not (ends l)) later) || lasts begins ends later

-- The coil is on at a moment: by a pulse that goes on then, or by an enable that was sent at or before it, and after
-- that pulse or enable no disable of the coil was sent at or before the moment.
abbrev pub is_on : List Sending → CoilId → ℕ → Bool
is_on sent_commands coil moment = lasts (begins_on coil moment) (ends_on coil moment) sent_commands

-- An enable of the coil was sent, and no disable of it after that.
abbrev pub is_held : List Sending → CoilId → Bool
is_held sent_commands coil = lasts (begins_hold coil) (ends_hold coil) sent_commands

-- An enable of the coil was sent for this owner, and no disable of it after that.
abbrev pub is_held_for : List Sending → Owner → CoilId → Bool
is_held_for sent_commands owner coil = lasts (begins_hold_for owner coil) (ends_hold coil) sent_commands

-- At the moment twice the length of some pulse that was sent to the coil is not over.
abbrev pub is_resting : List Sending → CoilId → ℕ → Bool
is_resting sent_commands coil moment = list_any (λ s. is_to coil s.command && makes_rest moment s.at s.command)
    sent_commands

-- At each of so many moments, from the first on, the coil is on.
abbrev pub IsOnThroughout : List Sending → CoilId → ℕ → ℕ → Type 0
IsOnThroughout sent_commands coil first count =
    (moment : ℕ) → first ≤ moment → moment < first + count → is_on sent_commands coil moment ≡ true
