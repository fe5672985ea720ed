-- What a board says of itself, and what the boards of this crate do.
use Rattle.std.specs.Prelude.{◌≡◌, ◌⊎◌, ◌<◌, ℕ, zero, suc, ◌+◌, ◌-◌, ◌^◌, ◌==◌, Bool, true, false, not, ◌&&◌, ◌||◌}
use Rattle.std.specs.Prelude.{if◌then◌else◌, Option, None, Some, IfSome, Result, Ok, Err, List, [], ◌∷◌, ◌++◌, length}
use Rattle.std.specs.Prelude.{drop, nat_le, min}
use Rattle.circular_buffer.specs.Buffer.{keep_last}
use Rattle.coil_guard.specs.declared.{command.Command.Command, board.BoardFault.BoardFault}

-- ---- any board

-- There was a fault: the count of faults has risen, or it stood at its last value.
abbrev pub HasFaulted : ℕ → ℕ → Type 0
HasFaulted before after = (before < after) ⊎ (before ≡ 2 ^ 64 - 1)

-- The list that is told after a command. A fault leaves it; else it has grown by the command, or is told no more. One
-- that is not told stays untold.
abbrev pub IsToldAfter : Command → Result Unit BoardFault → Option (List Command) → Option (List Command) → Type 0
IsToldAfter command result None list = list ≡ None
IsToldAfter command (Err fault) (Some taken) list = list ≡ Some taken
IsToldAfter command (Ok unit) (Some taken) None = Unit {0}
IsToldAfter command (Ok unit) (Some taken) (Some list) = list ≡ taken ++ command ∷ []

-- A board's answers to the commands to come: whether it takes each of the next ones, and whether it takes all that come
-- after those, if it tells.
pub record Answers : Type 0 where
  pub next : List Bool
  pub later : Option Bool

-- it tells none
abbrev pub untold : Answers
untold = record { next = []; later = None }

-- the first of these, or that of all later ones
abbrev pub first_answer : List Bool → Option Bool → Option Bool
first_answer [] later = later
first_answer (taken ∷ more) later = Some taken

-- A board that has taken a command, or has not, has answered as it told. The answers after that stay as they were.
pub record IsAnswered (taken : Bool) (before after : Answers) : Type 0 where
  pub as_told : IfSome (first_answer before.next before.later) (λ answer. answer ≡ taken)
  pub others : after ≡ record { next = drop 1 before.next; later = before.later }

-- ---- the board in memory

-- the latest commands, and how many were taken
pub record MemoryView : Type 0 where
  pub ring : List Command
  pub count : ℕ

abbrev pub empty_memory : MemoryView
empty_memory = record { ring = []; count = 0 }

-- It keeps the latest 1,024 commands, and counts up to 1,025.
abbrev pub after_taking : Command → MemoryView → MemoryView
after_taking command b = record { ring = keep_last 1024 (b.ring ++ command ∷ []); count = min (b.count + 1) 1025 }

-- It tells its commands while it keeps all.
abbrev pub told_by_memory : MemoryView → Option (List Command)
told_by_memory b = if nat_le b.count 1024 then Some b.ring else None

-- It takes all commands to come.
abbrev pub takes_all : Answers
takes_all = record { next = []; later = Some true }

-- ---- the board that faults

-- how many commands come until the first fault, and with it; whether all later ones are faults; how many there were
pub record FuseView : Type 0 where
  pub countdown : ℕ
  pub onwards : Bool
  pub faults : ℕ

abbrev pub new_fuse : ℕ → Bool → FuseView
new_fuse k onwards = record { countdown = k; onwards = onwards; faults = 0 }

-- whether the next command is a fault
abbrev pub is_fault_next : FuseView → Bool
is_fault_next b = (b.countdown == 1) || (b.onwards && (b.countdown == 0))

abbrev pub after_sending : FuseView → FuseView
after_sending b = record {
  countdown = b.countdown - 1;
  onwards = b.onwards;
  faults = if is_fault_next b then min (b.faults + 1) (2 ^ 64 - 1) else b.faults;
}

-- It takes the commands before the first fault, and not that one.
abbrev pub until_fault : ℕ → List Bool
until_fault zero = []
until_fault (suc zero) = false ∷ []
until_fault (suc (suc n)) = true ∷ until_fault (suc n)

-- It takes all that come after, or with `onwards` none.
abbrev pub fuse_answers : FuseView → Answers
fuse_answers b = record { next = until_fault b.countdown; later = Some (not b.onwards) }

-- ---- their laws, over every list of commands

abbrev pub after_taking_all : List Command → MemoryView → MemoryView
after_taking_all [] b = b
after_taking_all (command ∷ later) b = after_taking_all later (after_taking command b)

-- A board in memory keeps the latest 1,024 of the commands that it took, and has counted them.
abbrev pub MemoryKeepsLatest : Type 0
MemoryKeepsLatest =
    (commands : List Command)
    → after_taking_all commands empty_memory
    ≡ record { ring = keep_last 1024 commands; count = min (length commands) 1025 }

-- It tells all commands that it took while they are at most 1,024, and then none.
abbrev pub MemoryTellsAll : Type 0
MemoryTellsAll =
    (commands : List Command)
    → told_by_memory (after_taking_all commands empty_memory)
    ≡ (if nat_le (length commands) 1024 then Some commands else None)

-- a board after so many commands
abbrev pub after_sending_many : ℕ → FuseView → FuseView
after_sending_many zero b = b
after_sending_many (suc n) b = after_sending_many n (after_sending b)

-- whether the command with this number, from 1 on, is a fault: it is the k-th, or with `onwards` a later one
abbrev pub is_fault_at : ℕ → Bool → ℕ → Bool
is_fault_at k onwards number = (number == k) || (onwards && nat_le k number)

-- After any number of commands, the next one is a fault exactly if its number says so.
abbrev pub FuseFaultsFromKth : Type 0
FuseFaultsFromKth =
    (k : ℕ) (onwards : Bool) (earlier : ℕ)
    → is_fault_next (after_sending_many earlier (new_fuse k onwards)) ≡ is_fault_at k onwards (earlier + 1)
