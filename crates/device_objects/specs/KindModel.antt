-- What a kind of device is, at given settings.
use Rattle.std.specs.Prelude.{ℕ, zero, suc, Option, None, Some, IsSomeAnd, List, []}
use Rattle.plan_tables.specs.declared.devices.Act.{Act}
use Rattle.device_objects.specs.declared.{device.Call.Call, state.{DeviceState.DeviceState, World.World}}
use Rattle.device_objects.specs.declared.device.Call.TheVariants as calls
use Rattle.device_objects.specs.Outcomes.{silent}

-- What a kind of device does, at given settings. `S` is the state of its devices.
pub record Kind (S : Type 0) : Type 1 where
  -- what it remembers at first
  pub first : S
  -- the shape of what it remembers
  pub IsShaped : S → Type 0
  -- what it remembers after a call, and the numbers of the effect lists that are to run, in order
  pub step : Call → ℕ → World → S → S × List ℕ
  -- each sequence of lists that it answers to the call in some state of its shape
  pub outcomes : Call → List (List ℕ)
  -- What a part does when its moment has come, by the part's number. A part is what is due by itself: each ball switch
  -- of a ball device, and its attempt; a timer and a ball save are one part.
  pub fire_part : ℕ → ℕ → S → S × List ℕ

-- ---- when a device is due

-- The moment at which a device is due, if there is one, and at which each part of it is, by the part's number.
pub record Moments : Type 0 where
  pub due : Option ℕ
  pub part : ℕ → Option ℕ

-- nothing is ever due
abbrev pub never : Moments
never = record { due = None; part = λ k. None }

-- the first part alone
abbrev pub only_part : Option ℕ → ℕ → Option ℕ
only_part due zero = due
only_part due (suc k) = None

-- a device with just one part
abbrev pub of_one_part : Option ℕ → Moments
of_one_part due = record { due = due; part = only_part due }

-- ---- a kind of which nothing is ever due

-- such a device answers lists to its acts alone
pub record CalmModel (S : Type 0) : Type 1 where
  pub first : S
  pub IsShaped : S → Type 0
  -- what it remembers when its mode has started, and when it has stopped
  pub start : S → S
  pub stop : S → S
  -- what an act at this moment, in this world, does
  pub act : Act → ℕ → World → S → S × List ℕ
  -- each sequence of lists that it answers to an act
  pub answers : Act → List (List ℕ)

abbrev pub calm_step : {S : Type 0} → CalmModel S → Call → ℕ → World → S → S × List ℕ
calm_step m calls.ModeStart now world s = (m.start s, [])
calm_step m calls.ModeStop now world s = (m.stop s, [])
calm_step m calls.Fire now world s = (s, [])
calm_step m (calls.Act act) now world s = m.act act now world s

-- it is silent when its mode starts and stops, and it never fires
abbrev pub by_act : (Act → List (List ℕ)) → Call → List (List ℕ)
by_act answers calls.ModeStart = silent
by_act answers calls.ModeStop = silent
by_act answers calls.Fire = []
by_act answers (calls.Act act) = answers act

abbrev pub never_due : {S : Type 0} → CalmModel S → Kind S
never_due m = record {
  first = m.first;
  IsShaped = m.IsShaped;
  step = calm_step m;
  outcomes = by_act m.answers;
  fire_part = λ k now s. (s, []);
}

-- A device of the machine: no mode starts or stops it, and its state stays if it is taken out of the machine. Any state
-- will do. An act does the same at each moment, and in each world.
abbrev pub of_machine : {S : Type 0} → S → (Act → S → S × List ℕ) → (Act → List (List ℕ)) → CalmModel S
of_machine first act_step answers = record {
  first = first;
  IsShaped = λ s. Unit {0};
  start = λ s. s;
  stop = λ s. s;
  act = λ act now world. act_step act;
  answers = answers;
}

-- ---- a kind by the states of its devices

-- the state, with what was held in it
abbrev pub put_back : {S : Type 0} → (S → DeviceState) → S × List ℕ → DeviceState × List ℕ
put_back state_of answer = (state_of answer.0, answer.1)

-- a step of what the state holds, if it is of the kind; a state of another kind stays
abbrev pub in_state : {S : Type 0} → (S → DeviceState) → (S → S × List ℕ) → DeviceState → Option S
    → DeviceState × List ℕ
in_state state_of step state None = (state, [])
in_state state_of step state (Some s) = put_back state_of (step s)

-- the same kind over the states of all kinds: a state is made of an `S`, and gives it back if it is of the kind; a
-- state of another kind stays
abbrev pub in_states : {S : Type 0} → (S → DeviceState) → (DeviceState → Option S) → Kind S → Kind DeviceState
in_states state_of content_of kind = record {
  first = state_of kind.first;
  IsShaped = λ state. IsSomeAnd (content_of state) kind.IsShaped;
  step = λ call now world state. in_state state_of (kind.step call now world) state (content_of state);
  outcomes = kind.outcomes;
  fire_part = λ k now state. in_state state_of (kind.fire_part k now) state (content_of state);
}
