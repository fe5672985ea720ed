use Rattle.std.proofs.{Common.{take, sym, ◌∙◌, arith}, lemmas.List.length-map}
use Rattle.switch_core.{specs.StateView.state_view, proofs.Lists.{idle-next, idle-none_wait}}
use Rattle.switch_core.proofs.switches.Switches.new.Goals as goal

pub invariant_of-result : goal.invariant_of-result
invariant_of-result c = record {
  complete = record {
    states =
        omega (
          arith,
          length-map c.loop-number.states.items state_view,
          c.loop-number.states.ok.0,
          c.loop-number.kinds.ok.0,
          c.loop-number.invariant.kind_count,
          c.loop-number.invariant.state_count,
        );
    limit =
        omega (
          arith,
          c.loop-number.kinds.ok.0,
          c.loop-number.invariant.kind_count,
          c.loop-number.auto.number-end,
          c.switch_count-count.ensures.count,
          c.switch_count-count.ensures.valid.switch_limit,
        );
  };
  next_is = sym (idle-next c.loop-number.kinds.items (take c.loop-number.number c.args.plan.now.switches)
      c.loop-number.states.items c.loop-number.invariant.states);
  waiting_is = c.in_ok-waiting.ensures.items
      ∙ sym (idle-none_wait (take c.loop-number.number c.args.plan.now.switches) c.loop-number.states.items
      c.loop-number.invariant.states);
  room =
      omega (
        arith,
        length-map c.loop-number.states.items state_view,
        c.loop-number.states.ok.0,
        c.loop-number.invariant.state_count,
        c.loop-number.auto.number-end,
        c.in_ok-waiting.ensures.capacity,
      );
}
