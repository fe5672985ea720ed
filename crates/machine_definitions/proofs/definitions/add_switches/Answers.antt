use Rattle.std.proofs.{Common.{◌≡◌, ◌||◌, Bool, List, map, drop, ◌+◌, refl, sym, ap, ◌∙◌}, Math.Bool.or_assoc}
use Rattle.std.specs.{List.list_any, Str.bytes_eq}
use Rattle.mpf_sections.specs.{Rows.{WrittenName, Entry}, Typed.switch_of, View.entry_view}
use Rattle.machine_definitions.{specs.Found.is_found, proofs.Finding.{took-name, next-is}}
use Rattle.machine_definitions.proofs.definitions.add_switches.Goals as goal

-- a switch has the name of its entry
named : (e : Entry) → (switch_of e).name ≡ e.name
unfolding switch_of
named e = refl

pub loop-entry-preserved : goal.loop-entry-preserved
loop-entry-preserved c = λ name.
    let l = c.loop-entry in
    let others = λ (entries : List _). list_any (λ s. bytes_eq name s.name.text)
    (map switch_of (map entry_view entries)) in
    let rest = others (drop (l.entry-index + 1) c.args.entries.now) in
    let took = took-name l.names c.insert.new.self c.deref.result c.in_ok-insert.ensures.updates name in
    ap (λ (b : Bool). b || rest) (took ∙ ap (λ key. is_found l.names name || bytes_eq name key)
    (c.deref.ensures ∙ sym (ap (λ (w : WrittenName). w.text) (named (entry_view c.entry-item.result)))))
    ∙ or_assoc (is_found l.names name) _ rest
    ∙ next-is (λ entries. is_found l.names name || others entries) c.args.entries.now l.entry-index c.entry-item.result
    c.loop-entry-test.true c.entry-item.is
    ∙ l.invariant name
