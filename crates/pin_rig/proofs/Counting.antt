-- A board's fault in a step shows in its count of faults.
use Rattle.std.proofs.Common.{rules, ◌≡◌, ◌≢◌, ◌-◌, ◌^◌, inr, List, [], ◌∷◌, ◌++◌, length, length-append, refl, ap, ◌∙◌}
use Rattle.std.proofs.Common.{arith}
use Rattle.coil_guard.specs.declared.command.Command.{Command}
use Rattle.written_machine.specs.declared.line.Line.{Line}
use Rattle.written_machine.specs.declared.line.Happening.TheVariants as lines
use Rattle.coil_driver.{specs.Board.{BoardView, HasTakenAll, HasNotTaken, commands_of}, proofs.Serving.commands-append}
use Rattle.pin_rig.specs.Rig.{HasFaultedOn}

taken-count : (commands : List Command) (old new : BoardView) → HasTakenAll commands old new
    → new.fault_count ≡ old.fault_count
taken-count [] old new is = ap (λ (b : BoardView). b.fault_count) is
taken-count (command ∷ more) old new (mid, one, all) = taken-count more mid new all ∙ one.count

-- a board whose count is at its last value takes nothing
last-taken : (commands : List Command) (old new : BoardView) → HasTakenAll commands old new
    → old.fault_count ≡ 2 ^ 64 - 1 → commands ≢ [] → ⊥
last-taken [] old new all last sent = sent refl
last-taken (command ∷ more) old new (mid, one, all) last sent = one.no_fault (inr last)

pub taken-no_fault : (commands : List Command) (old new : BoardView) → HasTakenAll commands old new
    → HasFaultedOn commands old new → ⊥
taken-no_fault commands old new all x5 = search (rules, taken-count, last-taken)

-- a command among others
not_nil : (first : List Command) (command : Command) (second : List Command) → first ++ command ∷ second ≢ []
not_nil first command second is =
    let counts = ap (λ (l : List Command). length l) is in
    let both = length-append first (command ∷ second) in
    omega (arith, counts, both)

has_command : (ls display later : List Line) (line : Line) (command : Command) → line.happening ≡ lines.Coil command
    → ls ≡ display ++ line ∷ later → commands_of ls ≢ []
has_command ls display later line command line_is is none = search (rules, not_nil, commands-append)

pub not_taken-fault : (ls display later : List Line) (line : Line) (command : Command) (old mid new : BoardView)
    → line.happening ≡ lines.Coil command → ls ≡ display ++ line ∷ later
    → HasTakenAll (commands_of display) old mid → HasNotTaken mid new → HasFaultedOn (commands_of ls) old new
not_taken-fault ls display later line command old mid new line_is is all not = search (rules, taken-count, has_command)
