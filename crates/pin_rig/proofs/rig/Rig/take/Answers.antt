use Rattle.std.proofs.Common.{List, length, refl, ap, sym, subst}
use Rattle.written_machine.specs.declared.line.Line.{Line}
use Rattle.machine_core.specs.Stimuli.{stimulus_view}
use Rattle.pin_rig.specs.{Rig.{RigView, RigStep, RigHalt}, Admission.Admits}
use Rattle.pin_rig.proofs.Acting.{rig_of, playable, begin-room, now-handles, now-calls, now-stays, now-sendable}
use Rattle.pin_rig.proofs.Acting.{steps-on, held-again, halts, held-halted}
use Rattle.pin_rig.proofs.rig.Rig.take.Goals as goal

pub begin-requires-clause-playable : goal.begin-requires-clause-playable
begin-requires-clause-playable g c =
    let stimulus = stimulus_view c.args.stimulus in
    let (input, here) = c.requires in
    let judged = subst (λ (rig : RigView). Admits rig input stimulus) (sym c.self.view_is) here in
    playable c.self.inside.checked.now c.self.inside.core c.self.inside.driver c.self.inside.shown_lines
    c.self.invariant input stimulus judged

pub begin-requires-clause-room : goal.begin-requires-clause-room
begin-requires-clause-room g c =
    let stimulus = stimulus_view c.args.stimulus in
    let (input, here) = c.requires in
    let judged = subst (λ (rig : RigView). Admits rig input stimulus) (sym c.self.view_is) here in
    begin-room c.self.inside.checked.now c.self.inside.core c.self.inside.driver c.self.inside.shown_lines
    c.self.invariant input stimulus judged

pub run_cascade-requires-clause-handlers : goal.run_cascade-requires-clause-handlers
run_cascade-requires-clause-handlers g c =
    let stimulus = stimulus_view c.args.stimulus in
    let (input, here) = c.requires in
    let judged = subst (λ (rig : RigView). Admits rig input stimulus) (sym c.self.view_is) here in
    now-handles c.self.inside.checked.now c.self.inside.core c.self.inside.driver c.self.inside.shown_lines
    c.self.invariant input stimulus judged
    c.begin.new.core c.begin.ensures

pub run_cascade-requires-clause-calls : goal.run_cascade-requires-clause-calls
run_cascade-requires-clause-calls g c =
    let stimulus = stimulus_view c.args.stimulus in
    let (input, here) = c.requires in
    let judged = subst (λ (rig : RigView). Admits rig input stimulus) (sym c.self.view_is) here in
    now-calls c.self.inside.checked.now c.self.inside.core c.self.inside.driver c.self.inside.shown_lines
    c.self.invariant input stimulus judged
    c.begin.new.core c.begin.ensures

pub run_cascade-requires-clause-room : goal.run_cascade-requires-clause-room
run_cascade-requires-clause-room g c =
    let stimulus = stimulus_view c.args.stimulus in
    let (input, here) = c.requires in
    let judged = subst (λ (rig : RigView). Admits rig input stimulus) (sym c.self.view_is) here in
    now-stays c.self.inside.checked.now c.self.inside.core c.self.inside.driver c.self.inside.shown_lines
    c.self.invariant input stimulus judged
    c.begin.new.core c.begin.ensures

pub run_cascade-requires-clause-sendable : goal.run_cascade-requires-clause-sendable
run_cascade-requires-clause-sendable g c =
    let stimulus = stimulus_view c.args.stimulus in
    let (input, here) = c.requires in
    let judged = subst (λ (rig : RigView). Admits rig input stimulus) (sym c.self.view_is) here in
    now-sendable c.self.inside.checked.now c.self.inside.core c.self.inside.driver c.self.inside.shown_lines
    c.self.invariant input stimulus judged
    c.begin.new.core c.begin.ensures

pub invariant_of-self : goal.invariant_of-self
invariant_of-self g c =
    let stimulus = stimulus_view c.args.stimulus in
    let (input, here) = c.requires in
    let judged = subst (λ (rig : RigView). Admits rig input stimulus) (sym c.self.view_is) here in
    held-again c.self.inside.checked.now c.self.inside.core c.self.inside.driver c.self.inside.shown_lines
    c.self.invariant input stimulus judged
    c.begin.new.core c.begin.ensures c.run_cascade.new.core c.run_cascade.ensures.settles
    c.run_cascade.new.driver c.run_cascade.ensures.coils (length c.lines.result.now)
    c.run_cascade.new.core.machine.lines refl c.in-None.ensures.serves
    (ap (λ (ls : List Line). length ls) c.lines.ensures)

pub invariant_of-self-in-Some : goal.invariant_of-self-in-Some
invariant_of-self-in-Some g c =
    let stimulus = stimulus_view c.args.stimulus in
    let (input, here) = c.requires in
    let judged = subst (λ (rig : RigView). Admits rig input stimulus) (sym c.self.view_is) here in
    held-halted c.self.inside.checked.now c.self.inside.core c.self.inside.driver c.self.inside.shown_lines
    c.self.invariant input stimulus judged
    c.begin.new.core c.begin.ensures c.run_cascade.new.core c.run_cascade.ensures.settles
    c.run_cascade.new.driver c.run_cascade.ensures.coils c.in-Some.place c.run_cascade.new.core.machine.lines refl
    c.in-Some.ensures.serves

pub returns-in-None-clause-takes : goal.returns-in-None-clause-takes
returns-in-None-clause-takes g c = λ all input here.
    let stimulus = stimulus_view c.args.stimulus in
    let judged = subst (λ (rig : RigView). Admits rig input stimulus) (sym c.self.view_is) here in
    let step =
    steps-on c.self.inside.checked.now c.self.inside.core c.self.inside.driver c.self.inside.shown_lines
    c.self.invariant input stimulus judged
    c.begin.new.core c.begin.ensures c.run_cascade.new.core c.run_cascade.ensures.settles
    c.run_cascade.new.driver c.run_cascade.ensures.coils (length c.lines.result.now)
    c.run_cascade.new.core.machine.lines refl c.in-None.ensures.serves
    (ap (λ (ls : List Line). length ls) c.lines.ensures) in
    subst (λ (rig : RigView). RigStep input rig
    (rig_of c.self.inside.checked.now c.run_cascade.new.core c.run_cascade.new.driver (length c.lines.result.now)))
    c.self.view_is step

pub returns-in-Some-clause-halts : goal.returns-in-Some-clause-halts
returns-in-Some-clause-halts g c = λ none input here.
    let stimulus = stimulus_view c.args.stimulus in
    let judged = subst (λ (rig : RigView). Admits rig input stimulus) (sym c.self.view_is) here in
    let halt =
    halts c.self.inside.checked.now c.self.inside.core c.self.inside.driver c.self.inside.shown_lines c.self.invariant
    input stimulus judged
    c.begin.new.core c.begin.ensures c.run_cascade.new.core c.run_cascade.ensures.settles
    c.run_cascade.new.driver c.run_cascade.ensures.coils c.in-Some.place c.run_cascade.new.core.machine.lines refl
    c.in-Some.ensures.serves in
    subst (λ (rig : RigView). RigHalt input rig
    (rig_of c.self.inside.checked.now c.run_cascade.new.core c.run_cascade.new.driver c.in-Some.place))
    c.self.view_is halt
