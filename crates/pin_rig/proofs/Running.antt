-- Steps, one after another, are a run, and a board has taken just the commands of their lines.
use Rattle.std.proofs.Common.{rules, ◌≡◌, ℕ, None, Some, List, [], ◌∷◌, ◌++◌, refl, ap, sym, ◌∙◌, subst, append_assoc}
use Rattle.std.proofs.{Common.arith, lemmas.{Grind.flat_map-append, List.append-nil}}
use Rattle.plan_tables.specs.declared.entries.{Owner.Owner, CoilLimits.CoilLimits}
use Rattle.coil_guard.specs.declared.{command.{Command.Command, Answer.Answer}, state.CoilState.CoilState}
use Rattle.coil_guard.specs.declared.command.Command.TheVariants as commands
use Rattle.coil_guard.specs.declared.command.Answer.TheVariants as answers
use Rattle.coil_guard.specs.{SentCommands.Sending, Calls.{CoilCall, sent_as}, Follows.Follows}
use Rattle.coil_guard.specs.Calls as calls_of
use Rattle.coil_guard.specs.Asked.{limits_of, after_asking, answer_asking}
use Rattle.coil_guard.proofs.Following.{calls_follow, later_follows}
use Rattle.written_machine.specs.declared.line.{Line.Line, Happening.Happening}
use Rattle.written_machine.specs.declared.line.Happening.TheVariants as lines
use Rattle.written_machine.specs.{CheckedView.CheckedView, Run.{IsAllowed, IsRun}}
use Rattle.written_machine.specs.{Accepted.IsAccepted, Machine.initial, Sent.{sent_at, sent_in, sendings}}
use Rattle.written_machine.proofs.{Alarms.{forward, moment-after, not_late-run, not_late-initial}, Guarded.follows-run}
use Rattle.coil_driver.specs.Board.{BoardView, HasTakenAll, commands_of, after_happening, after_line, after_lines}
use Rattle.coil_driver.specs.{Board.TellsMore, Agrees.{IsSent, AreSent}}
use Rattle.coil_driver.proofs.{Sending.cascade-agrees, Serving.{taken-append, commands-append, taken-tells}}
use Rattle.pin_rig.{specs.{declared.input.Input.Input, Rig.{RigView, RigCascade}}, proofs.Judging.judged-of_input}
use Rattle.pin_rig.specs.Steps.{AreSteps, AreStepsToHalt, at_rest, IsRunOf, PutsOffWhatIsOn}

-- ---- the run

-- a cascade, and a run from its state on
cascade-run : (input : Input) (more : List Input) (old mid : RigView) (rest : List Line) (new : RigView)
    → old.machine.waiting ≡ [] → RigCascade input old mid → IsRunOf more mid rest new
    → IsRunOf (input ∷ more) old (mid.machine.lines ++ rest) new
cascade-run input more old mid rest new idle step going =
    let run = subst (λ (c : CheckedView). IsRun c.plan going.stimuli mid.machine rest new.machine) step.checked_is
    going.run in
    record {
      checked_is = going.checked_is ∙ step.checked_is;
      stimuli = (step.stimulus, step.count) ∷ going.stimuli;
      of_inputs = (judged-of_input old input step.stimulus step.stimulus_is, going.of_inputs);
      run = (idle, step.may_come, (mid.machine, rest, step.steps, run, refl));
      settles = going.settles;
    }

none-run : (old : RigView) → old.machine.waiting ≡ [] → IsRunOf [] old [] old
none-run old idle = record { checked_is = refl; stimuli = []; of_inputs = tt; run = (refl, refl); settles = idle }

-- steps, and a run from their state on
run-on : (inputs others : List Input) (old mid : RigView) (trace rest : List Line) (new : RigView)
    → old.machine.waiting ≡ [] → AreSteps inputs old trace mid
    → (mid.machine.waiting ≡ [] → IsRunOf others mid rest new) → IsRunOf (inputs ++ others) old (trace ++ rest) new
run-on [] others old mid trace rest new idle (none, is) later = search rules
run-on (input ∷ inputs) others old mid trace rest new idle (next, then_lines, step, steps, is) later =
    subst (λ ls. IsRunOf (input ∷ (inputs ++ others)) old ls new)
    (sym (ap (λ ls. ls ++ rest) is ∙ append_assoc next.machine.lines then_lines rest))
    (cascade-run input (inputs ++ others) old next (then_lines ++ rest) new idle step.cascade
    (run-on inputs others next mid then_lines rest new step.cascade.settles steps later))

pub steps-run : (inputs : List Input) (old : RigView) (trace : List Line) (new : RigView) → old.machine.waiting ≡ []
    → AreSteps inputs old trace new → IsRunOf inputs old trace new
steps-run inputs old trace new idle steps =
    subst (λ is. IsRunOf is old trace new) (append-nil inputs)
    (subst (λ ls. IsRunOf (inputs ++ []) old ls new) (append-nil trace)
    (run-on inputs [] old new trace [] new idle steps (none-run new)))

pub halt-run : (inputs : List Input) (last : Input) (old : RigView) (trace display : List Line) (new : RigView)
    → old.machine.waiting ≡ [] → AreStepsToHalt inputs last old trace display new
    → IsRunOf (inputs ++ last ∷ []) old trace new
halt-run inputs last old trace display new idle h =
    subst (λ ls. IsRunOf (inputs ++ last ∷ []) old ls new)
    (ap (λ ls. h.earlier ++ ls) (append-nil new.machine.lines) ∙ sym h.trace_is)
    (run-on inputs (last ∷ []) old h.mid h.earlier (new.machine.lines ++ []) new idle h.steps
    (λ empty. cascade-run last [] h.mid new [] new empty h.halt.cascade (none-run new h.halt.cascade.settles)))

-- ---- the board

steps-board : (inputs : List Input) (old : RigView) (trace : List Line) (new : RigView) → AreSteps inputs old trace new
    → HasTakenAll (commands_of trace) old.board new.board
steps-board [] old trace new (none, is) = subst (λ ls. HasTakenAll (commands_of ls) old.board new.board) (sym none)
    (ap (λ (v : RigView). v.board) is)
steps-board (input ∷ inputs) old trace new (mid, rest, step, steps, is) =
    let one = subst (λ ls. HasTakenAll (commands_of ls) old.board mid.board) step.lines_are step.board_takes in
    subst (λ cs. HasTakenAll cs old.board new.board) (sym (ap commands_of is ∙ commands-append mid.machine.lines rest))
    (taken-append (commands_of mid.machine.lines) (commands_of rest) old.board mid.board new.board one
    (steps-board inputs mid rest new steps))

pub steps-taken : (inputs : List Input) (old : RigView) (trace : List Line) (new : RigView)
    → AreSteps inputs old trace new → TellsMore (commands_of trace) old.board.command_list new.board.command_list
steps-taken inputs old trace new steps = taken-tells (commands_of trace) old.board new.board
    (steps-board inputs old trace new steps)

pub halt-taken : (inputs : List Input) (last : Input) (old : RigView) (trace display : List Line) (new : RigView)
    → AreStepsToHalt inputs last old trace display new
    → TellsMore (commands_of display) old.board.command_list new.board.command_list
    × ((later : List Line) × (trace ≡ display ++ later))
halt-taken inputs last old trace display new h =
    search (rules, commands-append, taken-append, steps-board, taken-tells, append_assoc)

-- ---- the guard of what was sent

abbrev call_for : Command → Owner → ℕ → CoilCall
call_for (commands.Pulse coil ms power) owner now = calls_of.Pulse coil ms power now
call_for (commands.Enable coil power) owner now = calls_of.Enable coil power owner now
call_for (commands.Disable coil) owner now = calls_of.Disable coil now

module _ (limits : List CoilLimits) where
  -- a command that is sent
  command-follows : (sent : List Sending) (s : List CoilState) (owner : Owner) (now : ℕ) (command : Command)
      → answer_asking command owner now s ≡ answers.Sent command → Follows limits sent s now
      → Follows limits (sent ++ sent_at now owner (lines.Coil command)) (after_asking command owner now s) now
  command-follows sent s owner now (commands.Pulse coil ms power) is h =
      subst (λ ss. Follows limits (sent ++ ss) (after_asking (commands.Pulse coil ms power) owner now s) now)
      (ap (λ (a : Answer). sent_as a None now) is)
      (calls_follow limits sent s now (calls_of.Pulse coil ms power now) (omega arith) h)
  command-follows sent s owner now (commands.Enable coil power) is h =
      subst (λ ss. Follows limits (sent ++ ss) (after_asking (commands.Enable coil power) owner now s) now)
      (ap (λ (a : Answer). sent_as a (Some owner) now) is)
      (calls_follow limits sent s now (calls_of.Enable coil power owner now) (omega arith) h)
  command-follows sent s owner now (commands.Disable coil) is h =
      subst (λ ss. Follows limits (sent ++ ss) (after_asking (commands.Disable coil) owner now s) now)
      (ap (λ (a : Answer). sent_as a None now) is)
      (calls_follow limits sent s now (calls_of.Disable coil now) (omega arith) h)

  quiet-follows : (sent : List Sending) (s : List CoilState) (now : ℕ) → Follows limits sent s now
      → Follows limits (sent ++ []) s now
  quiet-follows sent s now h = subst (λ ss. Follows limits ss s now) (sym (append-nil sent)) h

  line-follows : (sent : List Sending) (s : List CoilState) (owner : Owner) (now : ℕ) (what : Happening)
      → IsSent s owner now what → Follows limits sent s now
      → Follows limits (sent ++ sent_at now owner what) (after_happening owner now what s) now
  line-follows sent s owner now (lines.Coil command) is h = command-follows sent s owner now command is h
  line-follows sent s owner now _ is h = quiet-follows sent s now h

  -- the first of the lines that are sent
  part-follows : (moment : ℕ) (display later : List Line) (sent : List Sending) (s : List CoilState)
      → AreSent moment s (display ++ later) → Follows limits sent s moment
      → Follows limits (sent ++ sendings display) (after_lines display s) moment
  part-follows moment [] later sent s are h = quiet-follows sent s moment h
  part-follows moment (l ∷ display) later sent s (at, is, more) h =
      let here = line-follows sent s l.owner l.moment l.happening is (subst (Follows limits sent s) (sym at) h) in
      let next = subst (Follows limits (sent ++ sent_in l) (after_line l s)) at here in
      subst (λ ss. Follows limits ss (after_lines display (after_line l s)) moment)
      (append_assoc sent (sent_in l) (sendings display))
      (part-follows moment display later (sent ++ sent_in l) (after_line l s) more next)

-- after steps the guard of what was sent is the machine's
steps-agree : (inputs : List Input) (old : RigView) (trace : List Line) (new : RigView) → old.sent ≡ old.machine.coils
    → AreSteps inputs old trace new → new.sent ≡ new.machine.coils
steps-agree [] old trace new is (none, same) = subst (λ (v : RigView). v.sent ≡ v.machine.coils) (sym same) is
steps-agree (input ∷ inputs) old trace new is (mid, rest, step, steps, all) =
    let one = cascade-agrees old.checked.plan step.cascade.stimulus old.machine step.cascade.count mid.machine
    step.cascade.steps in
    steps-agree inputs mid rest new (step.cascade.sent_is ∙ (λ i. after_lines (step.lines_are i) (is i))
    ∙ sym one.coils) steps

module _ (c : CheckedView) (board : BoardView) (accepted : IsAccepted c) where
  abbrev limits : List CoilLimits
  limits = limits_of c.plan

  pub steps-follow : (inputs : List Input) (trace : List Line) (new : RigView)
      → AreSteps inputs (at_rest c board) trace new → Follows limits (sendings trace) new.sent new.machine.moment
  steps-follow inputs trace new steps = search (rules, steps-run, steps-agree, follows-run)

  pub halt-follow : (inputs : List Input) (last : Input) (trace display : List Line) (new : RigView)
      → AreStepsToHalt inputs last (at_rest c board) trace display new
      → Follows limits (sendings display) new.sent new.machine.moment
  halt-follow inputs last trace display new h =
      let mid = h.mid in
      let step = h.halt.cascade in
      let ran = steps-run inputs (at_rest c board) h.earlier mid refl h.steps in
      let same = steps-agree inputs (at_rest c board) h.earlier mid refl h.steps in
      let plan_is = ap (λ (x : CheckedView). x.plan) ran.checked_is in
      let allowed = subst (λ p. IsAllowed p mid.machine step.stimulus) plan_is step.may_come in
      let at = moment-after mid.checked.plan step.stimulus mid.machine step.count new.machine step.steps in
      let later = forward c.plan accepted.valid step.stimulus mid.machine
      (not_late-run c.plan accepted.valid ran.stimuli (initial c.plan) h.earlier mid.machine ran.run
      (not_late-initial c.plan accepted.valid)) allowed in
      let before = later_follows limits (sendings h.earlier) mid.sent mid.machine.moment new.machine.moment
      (omega (arith, later, at)) (steps-follow inputs h.earlier mid h.steps) in
      let agrees = cascade-agrees mid.checked.plan step.stimulus mid.machine step.count new.machine step.steps in
      let are : AreSent new.machine.moment mid.sent (new.lines ++ h.halt.line ∷ h.halt.later) =
      subst (AreSent new.machine.moment mid.sent) h.halt.lines_are
      (subst (λ s. AreSent new.machine.moment s new.machine.lines) (sym same) agrees.commands) in
      subst (λ s. Follows limits (sendings display) s new.machine.moment) (sym step.sent_is)
      (subst (λ ss. Follows limits ss (after_lines new.lines mid.sent) new.machine.moment)
      (sym (ap sendings h.shown_is ∙ flat_map-append sent_in h.earlier new.lines))
      (part-follows limits new.machine.moment new.lines (h.halt.line ∷ h.halt.later) (sendings h.earlier) mid.sent are
      before))

-- ---- what is turned off at the end

pub off-by_commands : (c : CheckedView) (rig : RigView) (display : List Line)
    → Follows (limits_of c.plan) (sendings display) rig.sent rig.machine.moment → PutsOffWhatIsOn rig display
off-by_commands c rig display follows = search rules
