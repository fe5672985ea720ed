-- The commands that were sent, as the lines of a trace have them.
use Rattle.std.specs.{Prelude.{◌≡◌, ◌⊎◌, ℕ, false, true, Option, None, Some, List, [], ◌∷◌, ◌++◌}, List.flat_map}
use Rattle.plan_tables.specs.declared.entries.Owner.{Owner}
use Rattle.coil_guard.specs.declared.command.Command.{Command, TheVariants.{Pulse, Enable, Disable}}
use Rattle.coil_guard.specs.SentCommands.{Sending, is_on, is_held, is_resting}
use Rattle.written_machine.specs.declared.line.{Line.Line, Happening.Happening}
use Rattle.written_machine.specs.declared.line.Happening.TheVariants as lines

-- for whom a command holds a coil, if it does
abbrev pub holder_of : Owner → Command → Option Owner
holder_of owner (Pulse coil ms power) = None
holder_of owner (Enable coil power) = Some owner
holder_of owner (Disable coil) = None

-- the command that an owner sent at a moment, if that is what happened
abbrev pub sent_at : ℕ → Owner → Happening → List Sending
sent_at moment owner (lines.Coil command) =
    record { at = moment; command = command; owner = holder_of owner command } ∷ []
sent_at moment owner _ = []

abbrev pub sent_in : Line → List Sending
sent_in l = sent_at l.moment l.owner l.happening

-- all commands that were sent, in the order in which they were sent
abbrev pub sendings : List Line → List Sending
sendings trace = flat_map sent_in trace

-- A command is idle at a moment, if these were sent before: a pulse of a coil that is held or rests, an enable of one
-- that is held, a disable of one that is off.
abbrev pub IsIdle : List Sending → ℕ → Command → Type 0
IsIdle earlier moment (Pulse coil ms power) = (is_held earlier coil ≡ true) ⊎ (is_resting earlier coil moment ≡ true)
IsIdle earlier moment (Enable coil power) = is_held earlier coil ≡ true
IsIdle earlier moment (Disable coil) = is_on earlier coil moment ≡ false

-- Wherever a command was skipped in a trace, it was idle by the commands that were sent before: none was skipped for a
-- limit, or for want of permission.
abbrev pub AreSkippedIdle : List Line → Type 0
AreSkippedIdle trace =
    (before : List Line) (line : Line) (after : List Line) (command : Command)
    → trace ≡ before ++ line ∷ after → line.happening ≡ lines.Skip command
    → IsIdle (sendings before) line.moment command
