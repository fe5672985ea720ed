use Rattle.std.proofs.{Common.{◌+◌, ◌++◌, List, map, drop, ap, ◌∙◌}, lemmas.List.append_assoc}
use Rattle.mpf_sections.specs.{TypedBalls.{ball_device_of, ball_devices_in}, View.section_view}
use Rattle.mpf_sections.proofs.BallRows.{ball_devices_are}
use Rattle.machine_definitions.{specs.Definitions.ball_devices_of, proofs.Finding.next-is}
use Rattle.row_faults.specs.View.{devices_view}
use Rattle.row_faults.proofs.routes.ball_devices_of.Goals as goal

pub loop-section-preserved : goal.loop-section-preserved
loop-section-preserved c =
    let l = c.loop-section in
    let before = devices_view l.devices.items in
    let later = λ (sections : List _). ball_devices_of (map section_view sections) in
    let rest = drop (l.section-index + 1) c.args.sections.now in
    let section = section_view c.section-item.result in
    let own = ap (map ball_device_of) c.entries_of.ensures ∙ ball_devices_are section in
    ap (λ (ds : List _). ds ++ later rest) (c.in_ok-add_entries.ensures ∙ ap (λ (ds : List _). before ++ ds) own)
    ∙ append_assoc before (ball_devices_in section) (later rest)
    ∙ next-is (λ sections. before ++ later sections) c.args.sections.now l.section-index c.section-item.result
    c.loop-section-test.true c.section-item.is
    ∙ l.invariant
