-- The commands of lines are sent, one after another.
use Rattle.std.proofs.Common.{◌≡◌, ℕ, ◌+◌, ◌<◌, Option, None, Some, Ok, List, [], ◌∷◌, ◌++◌, length, take, get_or, sym}
use Rattle.std.proofs.{Common.{ap, ◌∙◌, subst, append_assoc}, lemmas.{Grind.flat_map-append, List.take_more}}
use Rattle.coil_guard.specs.{declared.command.Command.Command, Boards.IsToldAfter}
use Rattle.written_machine.specs.declared.line.Line.{Line}
use Rattle.coil_driver.specs.Board.{BoardView, HasTakenAll, command_of, commands_of, after_lines, TellsMore}
use Rattle.coil_driver.{specs.Driver.{DriverView, HasSent}, proofs.Sending.after_lines-append}

pub taken-append : (first second : List Command) (a b c : BoardView) → HasTakenAll first a b → HasTakenAll second b c
    → HasTakenAll (first ++ second) a c
taken-append [] second a b c is more = subst (λ x. HasTakenAll second x c) is more
taken-append (command ∷ first) second a b c (mid, one, rest) more =
    (mid, one, taken-append first second mid b c rest more)

pub commands-append : (first second : List Line)
    → commands_of (first ++ second) ≡ commands_of first ++ commands_of second
commands-append first second = flat_map-append (λ l. command_of l.happening) first second

pub sent-append : (first second : List Line) (a b c : DriverView) → HasSent first a b → HasSent second b c
    → HasSent (first ++ second) a c
sent-append first second a b c one two = record {
  board = subst (λ cs. HasTakenAll cs a.board c.board) (sym (commands-append first second))
      (taken-append (commands_of first) (commands_of second) a.board b.board c.board one.board two.board);
  guard = two.guard ∙ ap (after_lines second) one.guard ∙ sym (after_lines-append first second a.guard);
  faulted_coil = two.faulted_coil ∙ one.faulted_coil;
}

-- the line at a place is the next one
pub sent-more : (trace : List Line) (place : ℕ) (d : Line) (a b c : DriverView) → place < length trace
    → HasSent (take place trace) a b → HasSent (get_or trace place d ∷ []) b c → HasSent (take (place + 1) trace) a c
sent-more trace place d a b c within earlier one =
    subst (λ ls. HasSent ls a c) (sym (take_more trace place d within))
    (sent-append (take place trace) (get_or trace place d ∷ []) a b c earlier one)

-- ---- the list that is told

tells-cons : (command : Command) (more : List Command) (x y z : Option (List Command)) → IsToldAfter command (Ok tt) x y
    → TellsMore more y z → TellsMore (command ∷ more) x z
tells-cons command [] None y z one rest = rest ∙ one
tells-cons command (d ∷ ds) None y z one rest = subst (λ o. TellsMore (d ∷ ds) o z) one rest
tells-cons command [] (Some t) None z one rest = subst (TellsMore (command ∷ []) (Some t)) (sym rest) tt
tells-cons command (d ∷ ds) (Some t) None z one rest = subst (TellsMore (command ∷ d ∷ ds) (Some t)) (sym rest) tt
tells-cons command [] (Some t) (Some u) z one rest = subst (TellsMore (command ∷ []) (Some t)) (sym rest) one
tells-cons command (d ∷ ds) (Some t) (Some u) None one rest = tt
tells-cons command (d ∷ ds) (Some t) (Some u) (Some v) one rest = rest ∙ ap (λ cs. cs ++ d ∷ ds) one
    ∙ append_assoc t (command ∷ []) (d ∷ ds)

pub taken-tells : (commands : List Command) (a b : BoardView) → HasTakenAll commands a b
    → TellsMore commands a.command_list b.command_list
taken-tells [] a b is = ap (λ (x : BoardView). x.command_list) is
taken-tells (command ∷ more) a b (mid, one, rest) =
    tells-cons command more a.command_list mid.command_list b.command_list one.list (taken-tells more mid b rest)
