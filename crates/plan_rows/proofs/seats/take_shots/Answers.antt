use Rattle.std.proofs.{Common.{◌||◌, Bool, List, map, drop, ◌+◌, ap, ◌∙◌}, Math.Bool.or_assoc}
use Rattle.std.specs.{List.list_any, Str.bytes_eq}
use Rattle.mpf_sections.specs.View.{name_view}
use Rattle.machine_definitions.{specs.Found.is_found, proofs.Finding.{took-name, next-is}}
use Rattle.plan_rows.proofs.seats.take_shots.Goals as goal

pub loop-shot-preserved : goal.loop-shot-preserved
loop-shot-preserved c = λ name.
    let l = c.loop-shot in
    let others = λ (shots : List _). list_any (λ w. bytes_eq name w.text) (map name_view shots) in
    let rest = others (drop (l.shot-index + 1) c.args.shots.now) in
    let took = took-name l.names c.insert.new.self c.deref.result c.in_ok-insert.ensures.updates name in
    ap (λ (b : Bool). b || rest) (took ∙ ap (λ key. is_found l.names name || bytes_eq name key) c.deref.ensures)
    ∙ or_assoc (is_found l.names name) _ rest
    ∙ next-is (λ shots. is_found l.names name || others shots) c.args.shots.now l.shot-index c.shot-item.result
    c.loop-shot-test.true c.shot-item.is
    ∙ l.invariant name
