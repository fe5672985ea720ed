use Rattle.std.proofs.Common.{rules, ◌≡◌, ◌||◌, ◌+◌, Bool, true, false, not, List, map, drop, sym, ap, ◌∙◌}
use Rattle.std.{specs.Str.bytes_eq, proofs.Math.Bool.or_assoc}
use Rattle.machine_definitions.{specs.Found.is_found, proofs.Finding.{name-found, took-name, next-is}}
use Rattle.mpf_sections.specs.View.{name_view}
use Rattle.row_faults.specs.Routes.{taken_too, all_taken, is_one_taken}
use Rattle.row_faults.proofs.routes.take_switches.Goals as goal
use Rattle.row_faults.proofs.routes.take_switches.Goals.{then-again, else-again}

not-not : (b : Bool) → not (not b) ≡ b
not-not x1 = search rules

joined : (a b again : Bool) → a ≡ true → again ≡ true → again ≡ (a || b)
joined a b again e is = is ∙ ap (λ (x : Bool). x || b) (sym e)

other : (a b again : Bool) → a ≡ false → again ≡ b → again ≡ (a || b)
other a b again e is = is ∙ ap (λ (x : Bool). x || b) (sym e)

pub loop-switch-preserved : goal.loop-switch-preserved
loop-switch-preserved c =
    let l = c.loop-switch in
    let given = c.args.switches.now in
    let before = is_found l.names_before in
    let name = (name_view c.switch-item.result).text in
    let texts = λ (names : List _). map (λ w. w.text) (map name_view names) in
    let rest = texts (drop (l.switch-index + 1) given) in
    let fresh = c.in_ok-fresh.fresh in
    let again : not fresh ≡ before name = ap not c.in_ok-fresh.ensures.added ∙ not-not _
    ∙ name-found l.names_before c.deref.result.now ∙ ap before c.deref.ensures in
    let joint : c.if-again.again ≡ (l.again || before name) =
    elim c.if-again.branch [
      | then-again w ↦ joined l.again (before name) c.if-again.again w.if-again.true (w.again-is ∙ w.if-again.true)
      | else-again w ↦ other l.again (before name) c.if-again.again w.if-again.false (w.again-is ∙ again)
    ] in
    let taken : is_found c.insert.new.self ≡ taken_too name before =
    λ i q. (took-name l.names_before c.insert.new.self c.deref.result c.in_ok-fresh.ensures.updates q
    ∙ ap (λ key. before q || bytes_eq q key) c.deref.ensures) i in
    record {
      again =
          (λ i. joint i || is_one_taken rest (taken i))
          ∙ or_assoc l.again (before name) (is_one_taken rest (taken_too name before))
          ∙ next-is (λ names. l.again || is_one_taken (texts names) before) given l.switch-index c.switch-item.result
          c.loop-switch-test.true c.switch-item.is
          ∙ l.invariant.again;
      taken =
          ap (all_taken rest) taken
          ∙ next-is (λ names. all_taken (texts names) before) given l.switch-index c.switch-item.result
          c.loop-switch-test.true c.switch-item.is
          ∙ l.invariant.taken;
    }
