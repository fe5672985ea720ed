use Rattle.std.proofs.Common.{◌∙◌, sym}
use Rattle.yaml_subset.specs.Quoted.{single_at}
use Rattle.yaml_subset.proofs.QuotedTexts.{single_stops, single_twice, single_once, single_open}
use Rattle.yaml_subset.proofs.quotes.each_single.Goals.{then-b-eq39+else-not-begins_single, else-b-eq39}
use Rattle.yaml_subset.proofs.quotes.each_single.Goals as goal

pub returns-then-not-begins_single : goal.returns-then-not-begins_single
returns-then-not-begins_single c =
    single_stops c.args.number c.loop-rest.rest.now c.loop-rest.value.items (single_at c.args.number c.args.text.now)
    c.loop-rest.invariant c.in-len1-up.len_at_least c.if-b-eq39.true
    (sym c.begins_single.ensures ∙ c.if-not-begins_single.true)

pub loop-rest-preserved : goal.loop-rest-preserved
loop-rest-preserved c =
    elim c.if-b-eq39.branch [
      | then-b-eq39+else-not-begins_single w ↦
          rw (c.in_ok-push.ensures.items, w.rest-is)
          (single_twice c.args.number c.loop-rest.rest.now c.loop-rest.value.items
          (single_at c.args.number c.args.text.now) c.loop-rest.invariant c.in-len1-up.len_at_least w.if-b-eq39.true
          (sym w.begins_single.ensures ∙ w.if-not-begins_single.false))
      | else-b-eq39 w ↦
          rw (c.in_ok-push.ensures.items, w.rest-is)
          (single_once c.args.number c.loop-rest.rest.now c.loop-rest.value.items
          (single_at c.args.number c.args.text.now) c.loop-rest.invariant c.in-len1-up.len_at_least
          w.if-b-eq39.false)
    ]

pub returns : goal.returns
returns c = rw c.at.ensures (single_open c.args.number c.loop-rest.rest.now c.loop-rest.value.items
    (single_at c.args.number c.args.text.now) c.loop-rest.invariant c.in_default.len_below)
