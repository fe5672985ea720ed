use Rattle.std.{proofs.Common.{◌≡◌, List, map, drop, ◌+◌, ap, ◌∙◌}, specs.List.flat_map}
use Rattle.mpf_sections.specs.{TypedShots.shot_group_of, View.entry_view}
use Rattle.machine_definitions.{specs.Found.is_found, proofs.Finding.next-is}
use Rattle.row_faults.specs.{Collected.{FaultsView, with_faults, group_faults}, ShotFaults.{listed_by, taken_after}}
use Rattle.row_faults.proofs.{Collected.group-more, Listed.taken-more}
use Rattle.row_faults.proofs.shot_faults.add_groups.Goals as goal

pub loop-group-preserved : goal.loop-group-preserved
loop-group-preserved c =
    let l = c.loop-group in
    let f = l.faults in
    let own = is_found c.args.own.now in
    let after = is_found c.add_group.new.shots_before in
    let listed = λ (entries : List _). flat_map (listed_by f.rows) (map shot_group_of (map entry_view entries)) in
    let groups = c.entries_of-groups.result.now in
    let rest = listed (drop (l.group-index + 1) groups) in
    let ls = listed_by f.rows (shot_group_of (entry_view c.group-item.result)) in
    let found : c.add_group.new.faults ≡ with_faults f (group_faults f own (is_found l.shots_before) ls) =
    c.in_ok-add_group.ensures.faults ∙ ap (λ g. with_faults f
    (group_faults f own (is_found l.shots_before) (listed_by f.rows g))) c.as_shot_group.ensures in
    let taken = c.in_ok-add_group.ensures.takes
    ∙ ap (λ g. taken_after (is_found l.shots_before) (listed_by f.rows g)) c.as_shot_group.ensures in
    record {
      found_faults =
          ap (λ (g : FaultsView). with_faults c.add_group.new.faults
          (group_faults c.add_group.new.faults own after
          (flat_map (listed_by g.rows) (map shot_group_of (map entry_view (drop (l.group-index + 1) groups))))))
          found
          ∙ group-more f c.add_group.new.faults own (is_found l.shots_before) after ls rest found taken
          ∙ next-is (λ entries. with_faults f (group_faults f own (is_found l.shots_before) (listed entries))) groups
          l.group-index c.group-item.result c.loop-group-test.true c.group-item.is
          ∙ l.invariant.found_faults;
      taken =
          ap (λ (g : FaultsView). taken_after after
          (flat_map (listed_by g.rows) (map shot_group_of (map entry_view (drop (l.group-index + 1) groups)))))
          found
          ∙ taken-more (is_found l.shots_before) after ls rest taken
          ∙ next-is (λ entries. taken_after (is_found l.shots_before) (listed entries)) groups l.group-index
          c.group-item.result c.loop-group-test.true c.group-item.is
          ∙ l.invariant.taken;
    }
