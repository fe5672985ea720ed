use Rattle.std.proofs.{Common.{◌||◌, Bool, List, map, drop, ◌+◌, ap, ◌∙◌}, Math.Bool.or_assoc}
use Rattle.std.specs.{List.list_any, Str.bytes_eq}
use Rattle.mpf_sections.specs.{TypedShots.shot_of, View.entry_view}
use Rattle.machine_definitions.{specs.Found.is_found, proofs.Finding.{took-name, next-is}}
use Rattle.row_faults.proofs.shot_faults.take_shots.Goals as goal

pub loop-entry-preserved : goal.loop-entry-preserved
unfolding shot_of
loop-entry-preserved c = λ name.
    let l = c.loop-entry in
    let others = λ (entries : List _). list_any (λ s. bytes_eq name s.name.text) (map shot_of (map entry_view entries))
    in
    let rest = others (drop (l.entry-index + 1) c.args.entries.now) in
    let took = took-name l.shots c.insert.new.self c.deref.result c.in_ok-insert.ensures.updates name in
    ap (λ (b : Bool). b || rest) (took ∙ ap (λ key. is_found l.shots name || bytes_eq name key) c.deref.ensures)
    ∙ or_assoc (is_found l.shots name) _ rest
    ∙ next-is (λ entries. is_found l.shots name || others entries) c.args.entries.now l.entry-index c.entry-item.result
    c.loop-entry-test.true c.entry-item.is
    ∙ l.invariant name
