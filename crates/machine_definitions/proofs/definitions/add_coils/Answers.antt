use Rattle.std.proofs.Common.{List, fold, map, drop, ◌+◌, Option, ap, ◌∙◌}
use Rattle.mpf_sections.specs.{Rows.Coil, TypedCoils.coil_of, View.entry_view}
use Rattle.machine_definitions.specs.{Definitions.latest_coil, Found.{as_coil, found_coil}}
use Rattle.machine_definitions.proofs.Finding.{took-value, next-is}
use Rattle.machine_definitions.proofs.definitions.add_coils.Goals as goal

pub loop-entry-preserved : goal.loop-entry-preserved
unfolding coil_of
loop-entry-preserved c = λ name.
    let l = c.loop-entry in
    let seen = λ (o : Option Coil) (entries : List _). fold (latest_coil name) o (map coil_of (map entry_view entries))
    in
    let took = took-value as_coil l.coils c.insert.new.self c.deref.result _
    (coil_of (entry_view c.entry-item.result)).name.text c.deref.ensures c.in_ok-insert.ensures.updates name in
    ap (λ (o : Option Coil). seen o (drop (l.entry-index + 1) c.args.entries.now)) took
    ∙ next-is (seen (found_coil l.coils name)) c.args.entries.now l.entry-index c.entry-item.result
    c.loop-entry-test.true c.entry-item.is
    ∙ l.invariant name
