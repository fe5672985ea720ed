use Rattle.std.{proofs.Common.{◌≡◌, map, drop}, specs.List.list_any}
use Rattle.plan_parts.specs.View.{effect_view}
use Rattle.mpf_plan.specs.Lacking.{lacks_coil}
use Rattle.mpf_plan.proofs.lacking.lacks_coil.Given as goal

-- a coil is lacking if one is in the effects that are left
abbrev pub invariant-loop-effect : goal.invariant-loop-effect
invariant-loop-effect l =
    list_any (lacks_coil l.definitions.machine) (map effect_view (drop l.effect-index l.effects))
    ≡ list_any (lacks_coil l.definitions.machine) (map effect_view l.effects)
