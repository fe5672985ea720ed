use Rattle.std.proofs.Common.{◌≡◌, map, drop, option_map}
use Rattle.mpf_sections.specs.View.{name_view, shot_view}
use Rattle.machine_definitions.specs.Found.{is_found}
use Rattle.row_faults.specs.{ShotFaults.{listed_with, taken_after}, Collected.{with_faults, group_faults}}
use Rattle.row_faults.proofs.shot_faults.add_listed.Given as goal

abbrev pub invariant-loop-name : goal.invariant-loop-name
invariant-loop-name l =
    let f = l.faults in
    let first = l.initial.faults in
    let left = listed_with (option_map shot_view l.first) (map name_view (drop l.name-index l.group_names)) in
    let all = listed_with (option_map shot_view l.first) (map name_view l.group_names) in
    record {
      found_faults : with_faults f (group_faults f (is_found l.own) (is_found l.shots_before) left)
          ≡ with_faults first (group_faults first (is_found l.own) (is_found l.initial.shots_before) all);
      taken : taken_after (is_found l.shots_before) left ≡ taken_after (is_found l.initial.shots_before) all;
    }
