-- What the words of `pinball_live` ask for, as `clap` reads them.
use Rattle.std.specs.Prelude.{◌≡◌, Bool, if◌then◌else◌, codes, true, false, List, [], ◌∷◌, Option, Some, None, Result}
use Rattle.std.specs.{Prelude.{Ok, Err, option_map, string_bytes}, Option.option_map_or, Str.bytes_eq}
use Rattle.clap.specs.{Simple.on_top, declared.builder.action.ArgAction.TheVariants.SetTrue}
use Rattle.clap.specs.Words.{App, Kinds, Row, Rule, Text, fault_of, new_app, new_rule, with_rule, first_of, matches_of}
use Rattle.command_line.specs.{declared.ask.AskFault.{AskFault, TheVariants.NoMemory}, CommandLine.path_rule}
use Rattle.command_line.specs.declared.live.LiveAsk.{LiveAsk, TheVariants.{Run, Work}}

-- ---- the command line

-- no word is the program's name, and the program has a version
abbrev pub live_program_app : App
live_program_app = on_top (λ s. record s { no_binary_name = true; has_version = true }) (new_app (codes "pinball_live"))

-- a flag of this name
abbrev pub flag_rule : Text → Rule
flag_rule name = record (new_rule name) { long = Some name; action = Some SetTrue }

-- the path of a folder, and two flags
unfoldable pub live_app : App
live_app = with_rule (with_rule (with_rule live_program_app path_rule) (flag_rule (codes "work")))
    (flag_rule (codes "any-work"))

-- ---- what is asked for

-- to run the machine of a folder, whatever its work bound or not; or to print that bound
pub data LiveAskView : Type 0 where
  run : (folder : Text) (any_work : Bool) → LiveAskView
  work : (folder : Text) → LiveAskView

abbrev pub view_of : LiveAsk → LiveAskView
view_of (Run folder any_work) = run (string_bytes folder) any_work
view_of (Work folder) = work (string_bytes folder)

abbrev pub folder_of_view : LiveAskView → Text
folder_of_view (run folder any_work) = folder
folder_of_view (work folder) = folder

-- the value of a flag says that the flag was given
abbrev pub is_true : Option Text → Bool
is_true value = option_map_or (λ text. bytes_eq text (codes "true")) value false

-- what a folder, if there is one, and the two flags ask for
abbrev pub asked_of : Option Text → Bool → Bool → Option LiveAskView
asked_of folder works any_work = option_map (λ path. if works then work path else run path any_work) folder

-- what was found for the arguments asks for
abbrev pub asked_in : List Row → Option LiveAskView
asked_in rows = asked_of (first_of (codes "path") rows) (is_true (first_of (codes "work") rows))
    (is_true (first_of (codes "any-work") rows))

-- this, if nothing is wrong with the words
abbrev pub asked_if : Kinds → Option LiveAskView → Option LiveAskView
asked_if [] wish = wish
asked_if (kind ∷ more) wish = None

-- what the words ask for: nothing if `clap` finds a fault in them, such as a word too many
unfoldable pub live_asked_at : List Text → Option LiveAskView
live_asked_at words = asked_if (fault_of live_app words) (asked_in (matches_of live_app words))

-- this is what is asked for
abbrev pub IsLiveAsked : Option LiveAskView → LiveAsk → Type 0
IsLiveAsked wish ask = wish ≡ Some (view_of ask)

-- the answer is this, unless memory ran out
abbrev pub AsksLive : LiveAskView → Result LiveAsk AskFault → Type 0
AsksLive what (Ok ask) = view_of ask ≡ what
AsksLive what (Err fault) = fault ≡ NoMemory
