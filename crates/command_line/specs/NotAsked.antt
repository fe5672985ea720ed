-- What a program says to words that ask for nothing that can be done, and its exit status then.
use Rattle.std.specs.Prelude.{ℕ, List, [], ◌∷◌, ◌++◌, codes, string_bytes}
use Rattle.command_line.specs.declared.ask.AskFault.{AskFault, TheVariants.{NoMemory, Usage}}

abbrev pub status_of : AskFault → ℕ
status_of (Usage text) = 2
status_of NoMemory = 3

-- the text to show, or the fault and LF
abbrev pub text_of : AskFault → List ℕ
text_of (Usage text) = string_bytes text
text_of NoMemory = codes "fault: NoMemory" ++ 10 ∷ []
