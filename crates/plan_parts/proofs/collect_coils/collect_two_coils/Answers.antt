use Rattle.std.proofs.{Common.{[], ◌∷◌, ap, ◌∙◌}, lemmas.{List.append_assoc, Result.on_ok_weaker}}
use Rattle.plan_parts.specs.{Effects.{works, disable}, CoilEntries.{defaults_called, own_pulse, own_hold}}
use Rattle.plan_parts.proofs.Lists.{with_last-push}
use Rattle.plan_parts.proofs.collect_coils.collect_two_coils.Goals as goal

pub returns : goal.returns
returns c =
    let machine = c.args.definitions.now.machine in
    let old = c.args.lists.now in
    let main = c.args.main.text.now in
    let hold = c.args.hold.text.now in
    let pulsed = c.own_pulse-pulse.ensures ∙ ap own_pulse c.defaults_of.ensures in
    let held = c.own_hold-enable.ensures ∙ ap own_hold c.defaults_of-2.ensures in
    let pulses = works main (own_pulse (defaults_called machine main)) in
    let holds = works hold (own_hold (defaults_called machine hold)) in
    let grown = with_last-push (holds ∷ []) (pulses ∷ []) old in
    let joined = append_assoc old ((pulses ∷ holds ∷ []) ∷ []) ((works hold disable ∷ []) ∷ []) in
    on_ok_weaker c.do_in_next-2.result (λ last. cc (c.in_ok-do_in_next.ensures, c.in_ok-add.ensures))
    c.do_in_next-2.ensures
