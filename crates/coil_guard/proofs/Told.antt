-- A board in memory reports a list that has grown by the command, or reports none any more.
use Rattle.std.proofs.Common.{rules, ◌≡◌, ℕ, ◌+◌, Ok, List, [], ◌∷◌, ◌++◌, min}
use Rattle.std.proofs.{lemmas.{Bool.{le-leb, cases_lt}, List.length-append}, Math.Nat.{min-eq_left, min-eq_right}}
use Rattle.circular_buffer.specs.Buffer.{keep_last}
use Rattle.coil_guard.specs.{declared.command.Command.Command, GuardState.IsMemory}
use Rattle.coil_guard.specs.Boards.{IsToldAfter, MemoryView, told_by_memory}

-- the same by the facts of the call
pub told-after : (command : Command) (kept : List Command) (room count : ℕ) (old : MemoryView) (items : List Command)
    (counted : ℕ) → record { ring = kept; count = count } ≡ old → IsMemory kept room count
    → items ≡ keep_last room (kept ++ command ∷ []) → counted ≡ min (count + 1) 1025
    → IsToldAfter command (Ok tt) (told_by_memory old) (told_by_memory (record { ring = items; count = counted }))
told-after command kept room count old items counted view memory items_are counted_is =
    search (rules, cases_lt, min-eq_right, le-leb, length-append, min-eq_left)
