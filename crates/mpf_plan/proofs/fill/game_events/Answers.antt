use Rattle.std.proofs.Common.{◌<◌, ◌≤◌, refl, ◌∙◌, arith}
use Rattle.mpf_plan.proofs.GameNoted.{noted_all, noted_next, noted_none, numbered_all}
use Rattle.mpf_plan.proofs.fill.game_events.Goals as goal

pub loop-place-init : goal.loop-place-init
loop-place-init c = noted_none c.args.names.now _ refl

pub loop-place-preserved : goal.loop-place-preserved
loop-place-preserved c =
    let l = c.loop-place in
    let within : l.place < 21 = omega arith in
    noted_next c.args.names.now l.names c.note_event.new.names l.place l.events _ _
    (c.whole.ensures ∙ c.game_event_name.ensures) within l.invariant
    c.in_ok-events.ensures.names c.in_ok-events.ensures.number

pub returns-clause-names : goal.returns-clause-names
returns-clause-names c =
    let l = c.loop-place in
    let past : 21 ≤ l.place = omega arith in
    noted_all c.args.names.now l.names l.place l.events past l.invariant

pub returns-clause-events : goal.returns-clause-events
returns-clause-events c =
    let l = c.loop-place in
    let past : 21 ≤ l.place = omega arith in
    numbered_all c.args.names.now l.names l.place l.events past l.invariant
