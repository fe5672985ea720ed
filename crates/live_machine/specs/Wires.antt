-- What is known of a link, and of the bytes that are on their way to it.
use Rattle.std.specs.Prelude.{ℕ, Option, None, Some, option_map, List, ◌∷◌, ◌++◌, length}
use Rattle.std.specs.{Global.Global, declared.io.buffered.BufWriter.BufWriter}
use Rattle.std.specs.Io.Buffered.{writer_buffer, writer_inner, writer_contents}
use Rattle.live_machine.specs.{declared.wire.LinkWriter.LinkWriter, Talk.LinkView}

-- A view as one list: the number of the bytes that are left, these bytes, and the talk. What is told comes at its end,
-- and the list says what is left, and what was talked.
abbrev pub pack : LinkView → List ℕ
pack v = length v.remainder ∷ (v.remainder ++ v.talk)

abbrev pub packed_report : Option LinkView → Option (List ℕ)
packed_report report = option_map pack report

-- a view, once these bytes have been told too
abbrev pub with_told : List ℕ → LinkView → LinkView
with_told text v = record { talk = v.talk ++ text; remainder = v.remainder }

-- What a wire reports: what its link does, and then what is on its way to it.
abbrev pub wire_report : {L : Type 0} → (L → Option LinkView) → BufWriter (LinkWriter L) Global → Option LinkView
wire_report report wire = option_map (with_told (writer_buffer wire)) (report (writer_inner wire).link)

-- the same as one list
abbrev pub wire_contents : {L : Type 0} → (L → Option LinkView) → BufWriter (LinkWriter L) Global → Option (List ℕ)
wire_contents report wire = writer_contents (λ w. packed_report (report w.link)) wire
