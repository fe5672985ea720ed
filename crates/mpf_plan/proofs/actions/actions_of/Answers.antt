use Rattle.std.proofs.Common.{rules, [], refl, subst, ◌∙◌}
use Rattle.plan_parts.specs.View.{effect_view}
use Rattle.mpf_plan.specs.{ByNumber.action_of, Drafting.NotesCoils}
use Rattle.mpf_plan.proofs.{Entries.{coils_stay, effects_next}, Numbered.effect_stays}
use Rattle.mpf_plan.proofs.Noted.{actions_all, effects_all, notes_none, numbers_at, uses_by}
use Rattle.mpf_plan.proofs.actions.actions_of.Goals as goal

pub loop-effect-init : goal.loop-effect-init
loop-effect-init c = record {
  names = coils_stay c.args.names.now c.args.names.now c.args.coils.now [] refl (notes_none c.args.names.now);
  actions = λ us are within. search rules;
}

pub loop-effect-preserved : goal.loop-effect-preserved
loop-effect-preserved c =
    let l = c.loop-effect in
    let a = c.args.names.now in
    record {
      names = effects_next a l.names c.action_of.new.names c.args.coils.now l.coils c.action_of.new.coils
          c.args.effects.now l.effect-index _ c.loop-effect-test.true
          l.invariant.names c.in_ok-action_of.ensures.names;
      actions = λ us are within. c.in_ok-push.ensures.items
          ∙ numbers_at uses_by c.args.effects.now l.effect-index _ c.loop-effect-test.true
          (λ ns e. action_of ns c.args.row (effect_view e)) (λ e. effect_stays c.args.row (effect_view e))
          a l.names l.actions.items c.in_ok-action_of.field-0 l.invariant.names.names l.invariant.actions
          c.in_ok-action_of.ensures.action us are within;
    }

pub returns-clause-names : goal.returns-clause-names
returns-clause-names c =
    subst (NotesCoils c.args.names.now c.loop-effect.names c.args.coils.now c.loop-effect.coils)
    (effects_all c.args.effects.now c.loop-effect.effect-index c.loop-effect-test.false)
    c.loop-effect.invariant.names

pub returns-clause-actions : goal.returns-clause-actions
returns-clause-actions c =
    actions_all c.args.effects.now c.loop-effect.effect-index c.loop-effect-test.false c.args.names.now c.args.row
    c.loop-effect.actions.items c.loop-effect.invariant.actions
