use Rattle.std.{proofs.{Common.{map, length, ap, arith}, lemmas.List.length-map}, specs.List.filter_map}
use Rattle.mpf_sections.specs.{Rows.{WrittenName, ShotProfile}, TypedShots.state_of, View.{entry_view, fields_view}}
use Rattle.mpf_sections.proofs.ShotRows.{shot_profile_short}
use Rattle.machine_definitions.proofs.shots.profile_of.Goals as goal

pub invariant_of-result : goal.invariant_of-result
invariant_of-result c =
    let names = c.in_ok-states_of.field-0.items in
    let written = filter_map state_of (map fields_view c.as_shot_profile-row.result.states.now) in
    record {
      few = omega (
        arith,
        length-map names (λ n. n.now),
        ap length c.in_ok-states_of.ensures,
        length-map written (λ (w : WrittenName). w.text),
        ap (λ (p : ShotProfile). length p.states) c.as_shot_profile-row.ensures,
        shot_profile_short (entry_view c.args.entry.now),
      );
    }
