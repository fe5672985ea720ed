use Rattle.std.{proofs.Common.{map, take}, specs.List.flat_map}
use Rattle.plan_parts.specs.View.{effect_view}
use Rattle.mpf_plan.{specs.{Drafting.{IsNumbered, NotesCoils}, ByNumber.action_of}, proofs.Noted.uses_by}
use Rattle.mpf_plan.proofs.actions.actions_of.Given as goal

abbrev pub invariant-loop-effect : goal.invariant-loop-effect
invariant-loop-effect l = record {
  names : NotesCoils l.initial.names l.names l.initial.coils l.coils (flat_map uses_by (take l.effect-index l.effects));
  actions : IsNumbered l.initial.names (flat_map uses_by (take l.effect-index l.effects))
      (λ ns. map (λ e. action_of ns l.row (effect_view e)) (take l.effect-index l.effects)) l.actions.items;
}
