-- A link over a reader and a writer.
use Rattle.std.specs.Prelude.{ℕ, Option, None, Some, IsSome, List, ◌++◌, slice_range}
use Rattle.yaml_bytes.specs.Lines.{cut_line}
use Rattle.live_machine.specs.{declared.read_buffer.ReadBuffer.ReadBuffer, Talk.LinkView}

-- the bytes that a buffer has
abbrev pub read_ahead : ReadBuffer → List ℕ
read_ahead buffer = slice_range buffer.room.items buffer.start buffer.end

-- the text has the end of a line
abbrev pub HasLine : List ℕ → Type 0
HasLine text = IsSome (cut_line text).1

-- What the link reports, where it is known what was written and what the reader has. All that was written was told.
-- What is left is what was read and not heard, and then what the reader has.
abbrev pub link_report : (output remaining : Option (List ℕ)) → (unheard : List ℕ) → Option LinkView
link_report None remaining unheard = None
link_report (Some output) None unheard = None
link_report (Some output) (Some remaining) unheard = Some (record { talk = output; remainder = unheard ++ remaining })
