use Rattle.std.proofs.Common.{List, fold, map, drop, ◌+◌, Option, ap, ◌∙◌}
use Rattle.mpf_sections.specs.{Rows.BallDeviceEntry, TypedBalls.ball_device_of, View.entry_view}
use Rattle.machine_definitions.specs.{Definitions.latest_ball_device, Found.{as_ball_device, found_ball_device}}
use Rattle.machine_definitions.proofs.Finding.{took-value, next-is}
use Rattle.machine_definitions.proofs.definitions.add_ball_devices.Goals as goal

pub loop-entry-preserved : goal.loop-entry-preserved
unfolding ball_device_of
loop-entry-preserved c = λ name.
    let l = c.loop-entry in
    let seen = λ (o : Option BallDeviceEntry) (entries : List _). fold (latest_ball_device name) o
    (map ball_device_of (map entry_view entries)) in
    let took = took-value as_ball_device l.devices c.insert.new.self c.deref.result _
    (ball_device_of (entry_view c.entry-item.result)).name.text c.deref.ensures c.in_ok-insert.ensures.updates name
    in
    ap (λ (o : Option BallDeviceEntry). seen o (drop (l.entry-index + 1) c.args.entries.now)) took
    ∙ next-is (seen (found_ball_device l.devices name)) c.args.entries.now l.entry-index c.entry-item.result
    c.loop-entry-test.true c.entry-item.is
    ∙ l.invariant name
