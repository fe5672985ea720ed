-- What the lines of a trace say, as bytes.
use Rattle.std.specs.Prelude.{ℕ, ℤ, Bool, if◌then◌else◌, List, [], ◌∷◌, ◌++◌, codes}
use Rattle.std.specs.{List.flat_map, Fmt.{decimal, signed_decimal}}
use Rattle.plan_tables.specs.PlanView.{PlanView, mode_at, name_of_event, name_of_variable, switch_at, coil_at}
use Rattle.plan_tables.specs.declared.entries.{CoilId.CoilId, Owner.Owner}
use Rattle.plan_tables.specs.declared.entries.Owner.TheVariants as owners
use Rattle.coil_guard.specs.declared.command.Command.{Command, TheVariants.{Pulse, Enable, Disable}}
use Rattle.coil_guard.specs.SentCommands.{coil_of}
use Rattle.written_machine.specs.declared.line.{BallCounts.BallCounts, Line.Line, Happening.Happening}
use Rattle.written_machine.specs.declared.line.Happening.TheVariants as happenings

-- the name of a mode, or `machine`
abbrev pub owner_text : PlanView → Owner → List ℕ
owner_text plan owners.Machine = codes "machine"
owner_text plan (owners.Mode m) = (mode_at plan m).name

abbrev pub level_text : Bool → List ℕ
level_text active = if active then codes "active" else codes "inactive"

-- The word that says what happened, and a blank. Names and numbers follow, up to LF.
abbrev pub word_text : Happening → List ℕ
word_text (happenings.Switch n active) = codes "switch "
word_text (happenings.Event e) = codes "event "
word_text (happenings.Coil command) = codes "coil "
word_text (happenings.Skip command) = codes "skip "
word_text (happenings.Player player v value) = codes "player "
word_text (happenings.Balls booking counts) = codes "balls "
word_text (happenings.Final player score) = codes "final "

-- `NAME active`, or `inactive`, and LF
abbrev pub switch_text : List ℕ → Bool → List ℕ
switch_text name active = name ++ codes " " ++ level_text active ++ 10 ∷ []

-- `NAME`, and LF
abbrev pub event_text : List ℕ → List ℕ
event_text name = name ++ 10 ∷ []

-- `NAME pulse MS POWER`, `NAME enable POWER`, or `NAME disable`, and LF
abbrev pub sent_text : List ℕ → Command → List ℕ
sent_text name (Pulse coil ms power) = name ++ codes " pulse " ++ decimal ms ++ codes " " ++ decimal power ++ 10 ∷ []
sent_text name (Enable coil power) = name ++ codes " enable " ++ decimal power ++ 10 ∷ []
sent_text name (Disable coil) = name ++ codes " disable" ++ 10 ∷ []

abbrev pub action_name : Command → List ℕ
action_name (Pulse coil ms power) = codes "pulse"
action_name (Enable coil power) = codes "enable"
action_name (Disable coil) = codes "disable"

-- `NAME pulse`, `enable`, or `disable`, and LF
abbrev pub skip_text : List ℕ → Command → List ℕ
skip_text name command = name ++ codes " " ++ action_name command ++ 10 ∷ []

-- `NUMBER NAME VALUE`, and LF
abbrev pub player_text : ℕ → List ℕ → ℤ → List ℕ
player_text player name value = decimal player ++ codes " " ++ name ++ codes " " ++ signed_decimal value ++ 10 ∷ []

-- `KNOWN COUNTED TRANSIT PLAYFIELD`, and LF: how many balls are known, lie in devices, are on their way, and are on the
-- playfield
abbrev pub balls_text : BallCounts → List ℕ
balls_text counts =
    decimal counts.known ++ codes " " ++ decimal counts.counted ++ codes " " ++ decimal counts.transit ++ codes " "
    ++ decimal counts.playfield ++ 10 ∷ []

-- `NUMBER SCORE`, and LF
abbrev pub final_text : ℕ → ℤ → List ℕ
final_text player score = decimal player ++ codes " " ++ signed_decimal score ++ 10 ∷ []

-- what follows the word
abbrev pub rest_text : PlanView → Happening → List ℕ
rest_text plan (happenings.Switch n active) = switch_text (switch_at plan n).name active
rest_text plan (happenings.Event e) = event_text (name_of_event plan e)
rest_text plan (happenings.Coil command) = sent_text (coil_at plan (coil_of command)).name command
rest_text plan (happenings.Skip command) = skip_text (coil_at plan (coil_of command)).name command
rest_text plan (happenings.Player player v value) = player_text player (name_of_variable plan v) value
rest_text plan (happenings.Balls booking counts) = balls_text counts
rest_text plan (happenings.Final player score) = final_text player score

-- `MOMENT OWNER WORD `
abbrev pub start_text : PlanView → Line → List ℕ
start_text plan line = decimal line.moment ++ codes " " ++ owner_text plan line.owner ++ codes " "
    ++ word_text line.happening

-- the moment, the owner, and what happened, such as `5 machine switch s_left active`
abbrev pub line_text : PlanView → Line → List ℕ
line_text plan line = start_text plan line ++ rest_text plan line.happening

-- `MOMENT machine off NAME`, and LF: at the moment the coil was turned off
abbrev pub off_text : PlanView → ℕ → CoilId → List ℕ
off_text plan moment coil = decimal moment ++ codes " machine off " ++ (coil_at plan coil).name ++ 10 ∷ []

-- these coils were turned off, in order
abbrev pub off_texts : PlanView → ℕ → List CoilId → List ℕ
off_texts plan moment coils = flat_map (off_text plan moment) coils
