-- A switch, and what is done with it.
use Rattle.std.specs.Prelude.{ℕ, ◌+◌, Bool, true, false, not, ◌&&◌, if◌then◌else◌, Option, None, Some}
use Rattle.machine_settings.specs.declared.words.Contact.{Contact, TheVariants.{NormallyOpen, NormallyClosed}}
use Rattle.plan_tables.specs.declared.entries.SwitchKind.{SwitchKind}

-- a switch: its raw level, whether it is active by the level that was accepted last, and the moment at which the raw
-- level is to be accepted
pub record SwitchState : Type 0 where
  pub raw : Bool
  pub active : Bool
  pub due : Option ℕ

-- whether two levels are the same
abbrev pub same_level : Bool → Bool → Bool
same_level true level = level
same_level false level = not level

-- whether a raw level is active
abbrev pub is_active : Contact → Bool → Bool
is_active NormallyOpen level = level
is_active NormallyClosed level = not level

-- the raw level of a switch that is not active
abbrev pub raw_at_rest : Contact → Bool
raw_at_rest NormallyOpen = false
raw_at_rest NormallyClosed = true

-- at the beginning a switch is inactive
abbrev pub idle : SwitchKind → SwitchState
idle kind = record { raw = raw_at_rest kind.contact; active = false; due = None }

-- the raw level is accepted
abbrev pub accept_level : SwitchKind → Bool → SwitchState
accept_level kind level = record { raw = level; active = is_active kind.contact level; due = None }

-- A raw level that says what was accepted already leaves nothing due; another one is due 5 ms later.
abbrev pub await_level : SwitchKind → ℕ → Bool → SwitchState → SwitchState
await_level kind now level s =
    record {
      raw = level;
      active = s.active;
      due = if same_level (is_active kind.contact level) s.active then None else Some (now + 5);
    }

-- Only another raw level than before changes anything: a quick switch accepts it at once, a normal one awaits it.
abbrev pub change_level : SwitchKind → ℕ → Bool → SwitchState → SwitchState
change_level kind now level s =
    if same_level level s.raw then s else (if kind.quick then accept_level kind level else await_level kind now level s)

-- whether a change is accepted at once
abbrev pub is_taken : SwitchKind → Bool → SwitchState → Bool
is_taken kind level s = kind.quick && not (same_level level s.raw)

-- the raw level that was due is accepted
abbrev pub fire_change : SwitchKind → SwitchState → SwitchState
fire_change kind s = accept_level kind s.raw
