use Rattle.std.proofs.Common.{◌≡◌}
use Rattle.mpf_sections.specs.View.{name_view}
use Rattle.machine_definitions.specs.Shots.{shot_called}
use Rattle.plan_rows.{specs.Members.is_enabled_if, proofs.Flags.first_flags}
use Rattle.plan_rows.proofs.members.enabled_of.Given as goal

abbrev pub invariant-loop-number : goal.invariant-loop-number
invariant-loop-number l = l.enabled ≡ first_flags (λ w. is_enabled_if (shot_called l.definitions w.text)) name_view
    l.shots l.number
