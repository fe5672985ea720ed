use Rattle.std.{proofs.{Common.{not, refl, sym, ap, ◌∙◌, inr}, lemmas.Result.err_from_is_err_and}, specs.Fn.FnReturnsAt}
use Rattle.setting_values.{specs.ValueAnswers.is_counted, proofs.EachGiven.{passing_fails, passing_more, passed_over}}
use Rattle.setting_values.proofs.items.each_counted.Goals.{then-not-is_empty+in_ok-one+in_ok-push, else-not-is_empty}
use Rattle.setting_values.proofs.items.each_counted.Goals as goal

pub returns-in_err-one : goal.returns-in_err-one
returns-in_err-one g c =
    let gave = FnReturnsAt g.F.Fn c.args.read in
    let p = err_from_is_err_and c.from_residual-in_err-one.result c.from_residual-in_err-one.ensures.1 in
    let counts = sym c.is_empty.ensures ∙ ap not c.if-not-is_empty.true in
    rw (p.1, p.2)
    (record {
      up_to = inr (passing_fails gave is_counted c.in_err-one.field-0.0 c.args.nodes.now c.loop-node.node-index
          c.node-item.result c.loop-node.results.items counts c.loop-node-test.true c.node-item.is c.loop-node.invariant
          (record { shown = _; shows = refl; says = record { met = c.in_err-one.ensures } }));
    })

pub loop-node-preserved : goal.loop-node-preserved
loop-node-preserved g c =
    let gave = FnReturnsAt g.F.Fn c.args.read in
    let nodes = c.args.nodes.now in
    let i = c.loop-node.node-index in
    let node = c.node-item.result in
    let found = c.loop-node.results.items in
    elim c.if-not-is_empty.branch [
      | then-not-is_empty+in_ok-one+in_ok-push w ↦
          let counts = sym c.is_empty.ensures ∙ ap not w.if-not-is_empty.true in
          rw (w.results-is, w.in_ok-push.ensures.items)
          (passing_more gave is_counted nodes i node found w.in_ok-one.one counts c.loop-node-test.true c.node-item.is
          c.loop-node.invariant (record { shown = _; shows = refl; says = record { met = w.in_ok-one.ensures } }))
      | else-not-is_empty w ↦
          let counts_not = sym c.is_empty.ensures ∙ ap not w.if-not-is_empty.false in
          rw w.results-is (passed_over gave is_counted nodes i node found counts_not c.loop-node-test.true
          c.node-item.is c.loop-node.invariant)
    ]
