-- What the boards of this crate do over every list of commands.
use Rattle.std.proofs.Common.{rules, ◌≡◌, ℕ, ◌+◌, ◌-◌, ◌≤◌, ◌==◌, zero, suc, Bool, ◌&&◌, ◌||◌, List, [], ◌∷◌, ◌++◌}
use Rattle.std.proofs.Common.{length, drop, min, refl, ap, sym, ◌∙◌, append-nil, append_assoc, arith}
use Rattle.std.proofs.lemmas.Bool.{le-leb, lt-leb, cases_lt}
use Rattle.std.proofs.lemmas.List.{length-append, length-drop, drop-drop, drop-append-le}
use Rattle.circular_buffer.specs.Buffer.{keep_last}
use Rattle.coil_guard.specs.declared.command.Command.{Command}
use Rattle.coil_guard.specs.Boards.{MemoryView, after_taking, after_taking_all, MemoryKeepsLatest, MemoryTellsAll}
use Rattle.coil_guard.specs.Boards.{FuseView, after_sending, after_sending_many, is_fault_at, FuseFaultsFromKth}

-- ---- the board in memory

keeps-all : (xs : List Command) → length xs ≤ 1024 → keep_last 1024 xs ≡ xs
keeps-all xs few = let none : length xs - 1024 ≡ 0 = omega arith in ap (λ n. drop n xs) none

-- The latest of the latest and more are the latest of all.
keeps-again : (xs ys : List Command) → keep_last 1024 (keep_last 1024 xs ++ ys) ≡ keep_last 1024 (xs ++ ys)
keeps-again xs ys =
    let cut : ℕ = length xs - 1024 in
    let split : drop cut (xs ++ ys) ≡ drop cut xs ++ ys = drop-append-le cut xs ys (omega arith) in
    let all = length-append xs ys in
    let size = length-drop cut (xs ++ ys) in
    let sum : cut + (length (drop cut (xs ++ ys)) - 1024) ≡ length (xs ++ ys) - 1024 = omega arith in
    ap (λ (zs : List Command). keep_last 1024 zs) (sym split)
    ∙ (drop-drop (length (drop cut (xs ++ ys)) - 1024) cut (xs ++ ys) ∙ ap (λ n. drop n (xs ++ ys)) sum)

keeps-few : (xs : List Command) → length (keep_last 1024 xs) ≤ 1024
keeps-few xs = let size = length-drop (length xs - 1024) xs in omega arith

kept-all : (commands : List Command) (b : MemoryView) → length b.ring ≤ 1024
    → (after_taking_all commands b).ring ≡ keep_last 1024 (b.ring ++ commands)
kept-all [] b few = sym (ap (λ (xs : List Command). keep_last 1024 xs) (append-nil b.ring) ∙ keeps-all b.ring few)
kept-all (command ∷ later) b few =
    kept-all later (after_taking command b) (keeps-few (b.ring ++ command ∷ []))
    ∙ (keeps-again (b.ring ++ command ∷ []) later
    ∙ ap (λ (xs : List Command). keep_last 1024 xs) (append_assoc b.ring (command ∷ []) later))

counted-all : (commands : List Command) (b : MemoryView) → b.count ≤ 1025
    → (after_taking_all commands b).count ≡ min (b.count + length commands) 1025
counted-all [] b few = omega arith
counted-all (command ∷ later) b few = let h = counted-all later (after_taking command b) (omega arith) in omega arith

pub memory_keeps_latest : MemoryKeepsLatest
memory_keeps_latest commands = search (rules, counted-all, kept-all)

pub memory_tells_all : MemoryTellsAll
memory_tells_all commands = search (rules, memory_keeps_latest, cases_lt, lt-leb, le-leb, keeps-all)

-- ---- the board that faults

left-after : (n : ℕ) (b : FuseView) → (after_sending_many n b).countdown ≡ b.countdown - n
left-after zero b = omega arith
left-after (suc n) b = let h = left-after n (after_sending b) in omega arith

onwards-after : (n : ℕ) (b : FuseView) → (after_sending_many n b).onwards ≡ b.onwards
onwards-after zero b = refl
onwards-after (suc n) b = onwards-after n (after_sending b)

module _ (k n : ℕ) (onwards : Bool) where
  -- before the k-th command, after it, and at it
  fault-is : (((k - n) == 1) || (onwards && ((k - n) == 0))) ≡ is_fault_at k onwards (n + 1)
  fault-is = search rules

pub fuse_faults_from_kth : FuseFaultsFromKth
fuse_faults_from_kth k onwards n = search (rules, left-after, onwards-after, fault-is)
