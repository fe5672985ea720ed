use Rattle.std.{proofs.Common.{◌≤◌, ◌-◌, vec_len}, specs.Io.KnownBytes.Consumes}
use Rattle.pinball_shell.proofs.text.read_all.Given as goal

-- what was read so far is what the reader gave, and is within the limit
abbrev pub invariant-loop-count : goal.invariant-loop-count
invariant-loop-count g l =
    Consumes (g.R.Read.remaining l.initial.reader) (g.R.Read.remaining l.reader) l.all.items × (vec_len l.all ≤ l.limit)

-- each turn takes at least a byte
abbrev pub decreases-loop-count : goal.decreases-loop-count
decreases-loop-count g l = l.limit - vec_len l.all
