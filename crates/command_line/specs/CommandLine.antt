-- What the words of the command line ask for, as `clap` reads them.
use Rattle.std.specs.Prelude.{◌≡◌, ◌==◌, ℕ, Bool, true, false, List, [], ◌∷◌, Option, Some, None, Result, Ok, Err, map}
use Rattle.std.specs.Prelude.{option_map, option_and_then, if◌then◌else◌, codes, String, string_bytes}
use Rattle.std.specs.{Str.bytes_eq, Borrow.Bor, Global.Global}
use Rattle.clap.specs.{Simple.on_top, Words.{with_rule, with_subcommand}}
use Rattle.clap.specs.declared.builder.action.ArgAction.TheVariants.{Set}
use Rattle.clap.specs.Words.{App, Kinds, Row, Rule, Text, fault_of, first_of, new_app, new_rule, subcommand_of}
use Rattle.command_line.specs.declared.ask.Ask.{Ask, TheVariants.{Check, Verify, Play}}
use Rattle.command_line.specs.declared.ask.AskFault.{AskFault, TheVariants.NoMemory}

-- ---- the command line

-- the path of a file
abbrev pub path_rule : Rule
path_rule = record (new_rule (codes "path")) { required = true; action = Some Set; value_names = 1 }

-- the folder of a configuration, which may be left out
abbrev pub folder_rule : Rule
folder_rule = record (new_rule (codes "folder")) { action = Some Set; value_names = 1 }

abbrev pub check_app : App
check_app = with_rule (new_app (codes "check")) folder_rule

-- a path, and then a folder
abbrev pub path_app : App → App
path_app app = with_rule (with_rule app path_rule) folder_rule

abbrev pub verify_app : App
verify_app = path_app (new_app (codes "verify"))

abbrev pub play_app : App
play_app = path_app (new_app (codes "play"))

-- no word is the program's name, what is to be done has to be named, and the program has a version
abbrev pub program_app : App
program_app = on_top (λ s. record s { no_binary_name = true; subcommand_required = true; has_version = true })
    (new_app (codes "pinball"))

-- `check`, `verify` and the path of a certificate, or `play` and the path of a log; and then a folder, if there is one
unfoldable pub pinball_app : App
pinball_app = with_subcommand (with_subcommand (with_subcommand program_app check_app.top) verify_app.top) play_app.top

-- ---- what is asked for

-- to check a configuration, to verify the certificate of a path on it, or to play the log of a path on it; the
-- configuration is in a folder, or on standard input
pub data AskView : Type 0 where
  check : (folder : Option Text) → AskView
  verify : (certificate : Text) (folder : Option Text) → AskView
  play : (log : Text) (folder : Option Text) → AskView

abbrev pub ask_view : Ask → AskView
ask_view (Check folder) = check (option_map string_bytes folder)
ask_view (Verify certificate folder) = verify (string_bytes certificate) (option_map string_bytes folder)
ask_view (Play log folder) = play (string_bytes log) (option_map string_bytes folder)

-- what a subcommand's name, and the values of its path and its folder, ask for
abbrev pub asked_by : Text → Option Text → Option Text → Option AskView
asked_by name path folder =
    if bytes_eq name (codes "check") then Some (check folder)
    else (if bytes_eq name (codes "verify") then option_map (λ p. verify p folder) path
    else (if bytes_eq name (codes "play") then option_map (λ p. play p folder) path else None))

-- what a subcommand and what was found for its arguments ask for
abbrev pub asked_of : Option (Text × List Row) → Option AskView
asked_of matches = option_and_then (λ p. asked_by p.0 (first_of (codes "path") p.1) (first_of (codes "folder") p.1))
    matches

-- this, if nothing is wrong with the words
abbrev pub where_no_fault : Kinds → Option AskView → Option AskView
where_no_fault [] wish = wish
where_no_fault (kind ∷ more) wish = None

-- what the words ask for: nothing if `clap` finds a fault in them, such as a word too many
unfoldable pub asked_at : List Text → Option AskView
asked_at words = where_no_fault (fault_of pinball_app words) (asked_of (subcommand_of pinball_app words))

-- the text begins with a hyphen, as flags do
abbrev pub begins_with_hyphen : List ℕ → Bool
begins_with_hyphen [] = false
begins_with_hyphen (x ∷ xs) = x == 45

-- a word that is no flag: it does not begin with a hyphen
abbrev pub IsNoFlag : List ℕ → Type 0
IsNoFlag word = begins_with_hyphen word ≡ false

-- the words that are given, as text
abbrev pub given_words : List (String Global) → List Text
given_words words = map string_bytes words

-- the text that is given for an argument, if one is
abbrev pub given_text : Option (Bor (List ℕ)) → Option Text
given_text text = option_map (λ s. s.now) text

-- this is what is asked for
abbrev pub IsAsked : Option AskView → Ask → Type 0
IsAsked wish ask = wish ≡ Some (ask_view ask)

-- the answer is this, unless memory ran out
abbrev pub Asks : AskView → Result Ask AskFault → Type 0
Asks what (Ok ask) = ask_view ask ≡ what
Asks what (Err fault) = fault ≡ NoMemory
