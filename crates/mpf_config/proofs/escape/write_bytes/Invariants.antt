use Rattle.std.{proofs.Common.take, specs.{List.flat_map, Io.KnownBytes.Appends}}
use Rattle.mpf_config.specs.Escaped.{escaped_byte}
use Rattle.mpf_config.proofs.escape.write_bytes.Given as goal

-- the bytes so far are written
abbrev pub invariant-loop-byte : goal.invariant-loop-byte
invariant-loop-byte g l = Appends (g.W.Write.contents l.fn.writer) (g.W.Write.contents l.writer)
    (flat_map escaped_byte (take l.byte-index l.text))
