use Rattle.std.{proofs.Common.{◌≡◌, map, drop}, specs.List.flat_map}
use Rattle.mpf_sections.specs.{TypedShots.shot_group_of, View.entry_view}
use Rattle.machine_definitions.specs.Found.{is_found}
use Rattle.row_faults.specs.{ShotFaults.{listed_by, taken_after}, Collected.{with_faults, group_faults}}
use Rattle.row_faults.proofs.shot_faults.add_groups.Given as goal

abbrev pub invariant-loop-group : goal.invariant-loop-group
invariant-loop-group l =
    let f = l.faults in
    let first = l.initial.faults in
    let left = flat_map (listed_by f.rows) (map shot_group_of (map entry_view (drop l.group-index l.groups))) in
    let all = flat_map (listed_by first.rows) (map shot_group_of (map entry_view l.groups)) in
    record {
      found_faults : with_faults f (group_faults f (is_found l.own) (is_found l.shots_before) left)
          ≡ with_faults first (group_faults first (is_found l.own) (is_found l.initial.shots_before) all);
      taken : taken_after (is_found l.shots_before) left ≡ taken_after (is_found l.initial.shots_before) all;
    }
