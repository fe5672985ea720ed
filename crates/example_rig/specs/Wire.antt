-- What a board with a wire sends, and which commands it reports as taken.
use Rattle.std.specs.{Prelude.{ℕ, Option, option_map, List, [], ◌∷◌, ◌++◌, codes}, Fmt.decimal}
use Rattle.arrayvec.specs.ArrayVec.{ArrayVec}
use Rattle.coil_guard.specs.declared.command.Command.{Command, TheVariants.{Pulse, Enable, Disable}}

-- a blank and a number
abbrev pub word : ℕ → List ℕ
word n = codes " " ++ decimal n

-- The frame of a command: `!`, a letter, the numbers of the command, and LF.
abbrev pub frame_of : Command → List ℕ
frame_of (Pulse coil ms power) = codes "!P" ++ word coil.0 ++ word ms ++ word power ++ 10 ∷ []
frame_of (Enable coil power) = codes "!E" ++ word coil.0 ++ word power ++ 10 ∷ []
frame_of (Disable coil) = codes "!D" ++ word coil.0 ++ 10 ∷ []

-- the list that a board tells: the commands that it has kept, if these are all
abbrev pub told_of : Option (ArrayVec Command) → Option (List Command)
told_of list = option_map (λ commands. commands.items) list
