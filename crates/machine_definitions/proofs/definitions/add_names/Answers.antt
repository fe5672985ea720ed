use Rattle.std.{proofs.{Common.{◌||◌, Bool, drop, ◌+◌, ap, ◌∙◌}, Math.Bool.or_assoc}, specs.Str.bytes_eq}
use Rattle.mpf_sections.specs.Rows.{WrittenName}
use Rattle.machine_definitions.{specs.Found.{is_found, is_named_at}, proofs.Finding.{took-name, next-is}}
use Rattle.machine_definitions.proofs.definitions.add_names.Goals as goal

pub loop-entry-preserved : goal.loop-entry-preserved
loop-entry-preserved c = λ name.
    let l = c.loop-entry in
    let place = c.args.at in
    let rest = is_named_at place (drop (l.entry-index + 1) c.args.entries.now) name in
    let took = took-name l.names c.insert.new.self c.needed_name.result.text c.in_ok-insert.ensures.updates name in
    ap (λ (b : Bool). b || rest) (took ∙ ap (λ key. is_found l.names name || bytes_eq name key)
    (ap (λ (w : WrittenName). w.text) c.needed_name.ensures))
    ∙ or_assoc (is_found l.names name) _ rest
    ∙ next-is (λ entries. is_found l.names name || is_named_at place entries name) c.args.entries.now l.entry-index
    c.entry-item.result c.loop-entry-test.true c.entry-item.is
    ∙ l.invariant name
