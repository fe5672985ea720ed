-- What effect lists do, and the names of the events of a mode.
use Rattle.std.specs.Prelude.{ℕ, ℤ, Bool, List, ◌++◌, codes}
use Rattle.machine_settings.specs.declared.words.VariableAction.{VariableAction}
use Rattle.plan_tables.specs.declared.entries.ModeEvent.{ModeEvent}
use Rattle.plan_tables.specs.declared.entries.ModeEvent.TheVariants.{WillStart, Starting, Started, Stopping, Stopped}

-- What is done with a coil: it is pulsed, for so many milliseconds and with this power in thousandths; or enabled with
-- this power; or disabled.
pub data Deed : Type 0 where
  pulse : (ms : ℕ) (power : ℕ) → Deed
  enable : (power : ℕ) → Deed
  disable : Deed

-- One thing that an effect list does: it posts the event of this name, does this with the coil of this name, or does
-- this with the variable of this name, with a number. Or it is what happens with the balls of its row, a ball device: a
-- ball enters it, which posts the event of this name and may have drained if `drain` holds; the ball that it ejects
-- leaves it; a ball is lost from it; or a ball that was on its way from it is on the playfield. Or the first trough is
-- asked for so many balls more; or so many balls are to be in play at least, and it is asked for those that are
-- missing.
pub data Effect : Type 0 where
  posts : (event : List ℕ) → Effect
  works : (coil : List ℕ) → Deed → Effect
  changes : (variable : List ℕ) → VariableAction → (number : ℤ) → Effect
  enters : (event : List ℕ) → (drain : Bool) → Effect
  leaves : Effect
  loses : Effect
  arrives : Effect
  requests : (balls : ℕ) → Effect
  adds_balls : (balls : ℕ) → Effect

-- ---- the events of a mode

-- how the name of an event of a mode ends
abbrev pub event_ending : ModeEvent → List ℕ
event_ending WillStart = codes "_will_start"
event_ending Starting = codes "_starting"
event_ending Started = codes "_started"
event_ending Stopping = codes "_stopping"
event_ending Stopped = codes "_stopped"

-- the name of this event of the mode of this name
abbrev pub mode_event_name : ModeEvent → List ℕ → List ℕ
mode_event_name which name = codes "mode_" ++ name ++ event_ending which
