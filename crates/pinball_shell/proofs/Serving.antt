-- What a board has taken, one part after another.
use Rattle.std.proofs.Common.{rules, ◌≡◌, ℕ, Option, Some, None, Ok, List, [], ◌∷◌, ◌++◌, map, inl, inr, refl, ap, sym}
use Rattle.std.proofs.Common.{◌∙◌, subst, append_assoc, append-nil}
use Rattle.plan_tables.specs.declared.entries.CoilId.{CoilId}
use Rattle.coil_guard.specs.{declared.command.Command.{Command, TheVariants.Disable}, Boards.IsToldAfter}
use Rattle.written_machine.specs.declared.line.Line.{Line}
use Rattle.coil_driver.specs.{Board.{BoardView, HasTaken, commands_of, TellsMore}, ShutDown.ArePutOff}
use Rattle.pin_rig.specs.Rig.{RigView}
use Rattle.pinball_shell.specs.{RunOfLog.{PrintedLine, Traced, Refused, trace_in}, Ends.{IsServed, IsHalted}}
use Rattle.coil_driver.proofs.{Serving.{taken-append, taken-tells, commands-append}, Sending.after_lines-append}

-- ---- the lines of the trace among what is printed

pub traced-append : (xs ys : List PrintedLine) → trace_in (xs ++ ys) ≡ trace_in xs ++ trace_in ys
traced-append [] ys = refl
traced-append (Traced line ∷ xs) ys = ap (λ (ls : List Line). line ∷ ls) (traced-append xs ys)
traced-append (Refused number refusal ∷ xs) ys = traced-append xs ys

pub traced-lines : (ls : List Line) → trace_in (map Traced ls) ≡ ls
traced-lines [] = refl
traced-lines (l ∷ ls) = ap (λ (xs : List Line). l ∷ xs) (traced-lines ls)

-- ---- what was taken

pub served-none : (rig : RigView) (output : List PrintedLine) → rig.faulted_coil ≡ None → trace_in output ≡ []
    → IsServed output rig rig
served-none rig output running none = search rules

pub served-then : (xs ys : List PrintedLine) (a b c : RigView) → IsServed xs a b → IsServed ys b c
    → IsServed (xs ++ ys) a c
served-then xs ys a b c h k = search (rules, traced-append, commands-append, taken-append, after_lines-append)

-- ---- what is told

one-tells : (command : Command) (a b : BoardView) → HasTaken command a b
    → TellsMore (command ∷ []) a.command_list b.command_list
one-tells command a b h = go a.command_list b.command_list h.list
  where
    go : (told next : Option (List Command)) → IsToldAfter command (Ok tt) told next
        → TellsMore (command ∷ []) told next
    go x1 x2 is = search rules

tells-then : (xs ys : List Command) (a b c : Option (List Command)) → TellsMore xs a b → TellsMore ys b c
    → TellsMore (xs ++ ys) a c
tells-then [] ys a b c h k = subst (λ (o : Option (List Command)). TellsMore ys o c) h k
tells-then (x ∷ xs) [] a b c h k = subst (λ (zs : List Command). TellsMore (x ∷ zs) a c) (sym (append-nil xs))
    (subst (TellsMore (x ∷ xs) a) (sym k) h)
tells-then (x ∷ xs) (y ∷ ys) None None c h k = k
tells-then (x ∷ xs) (y ∷ ys) None (Some b) c h k = absurd (none_some h)
  where
    none_some : {X : Type 0} {x : X} → Some x ≡ None → ⊥
    none_some e = cc
tells-then (x ∷ xs) (y ∷ ys) (Some a) None None h k = tt
tells-then (x ∷ xs) (y ∷ ys) (Some a) None (Some c) h k = absurd (none_some k)
  where
    none_some : {X : Type 0} {x : X} → Some x ≡ None → ⊥
    none_some e = cc
tells-then (x ∷ xs) (y ∷ ys) (Some a) (Some b) None h k = tt
tells-then (x ∷ xs) (y ∷ ys) (Some a) (Some b) (Some c) h k = k ∙ ap (λ (zs : List Command). zs ++ y ∷ ys) h
    ∙ append_assoc a (x ∷ xs) (y ∷ ys)

off-tells : (coils : List CoilId) (a b : BoardView) (off : List CoilId) (faults : ℕ) → ArePutOff coils a off faults b
    → TellsMore (map Disable off) a.command_list b.command_list
off-tells [] a b off faults (none, count, is) =
    subst (λ (cs : List CoilId). TellsMore (map Disable cs) a.command_list b.command_list) (sym none)
    (ap (λ (v : BoardView). v.command_list) is)
off-tells (coil ∷ more) a b off faults (mid, inl (one, (rest, is, later))) =
    subst (λ (cs : List CoilId). TellsMore (map Disable cs) a.command_list b.command_list) (sym is)
    (tells-then (Disable coil ∷ []) (map Disable rest) a.command_list mid.command_list b.command_list
    (one-tells (Disable coil) a mid one)
    (off-tells more mid b rest faults later))
off-tells (coil ∷ more) a b off faults (mid, inr (not, (others, count, later))) =
    subst (λ (o : Option (List Command)). TellsMore (map Disable off) o b.command_list) not.list
    (off-tells more mid b off others later)

-- what a board tells in the end, after the commands of lines and those that turn coils off
pub end-tells : (commands : List Command) (coils off : List CoilId) (faults : ℕ) (a b c : BoardView)
    → TellsMore commands a.command_list b.command_list → ArePutOff coils b off faults c
    → TellsMore (commands ++ map Disable off) a.command_list c.command_list
end-tells commands coils off faults a b c h k =
    tells-then commands (map Disable off) a.command_list b.command_list c.command_list h
    (off-tells coils b c off faults k)

pub served-tells : (output : List PrintedLine) (old new : RigView) → IsServed output old new
    → TellsMore (commands_of (trace_in output)) old.board.command_list new.board.command_list
served-tells output old new h = taken-tells (commands_of (trace_in output)) old.board new.board h.board_takes

-- after a fault it tells the same
pub halted-tells : (commands : List Command) (command : Command) (a : BoardView) (mid new : RigView)
    → TellsMore commands a.command_list mid.board.command_list → IsHalted command mid new
    → TellsMore commands a.command_list new.board.command_list
halted-tells commands command a mid new h k = subst (TellsMore commands a.command_list) (sym k.not_taken.list) h
