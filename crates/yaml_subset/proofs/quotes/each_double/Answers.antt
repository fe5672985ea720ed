use Rattle.std.proofs.lemmas.Result.{err_from_is_err_and}
use Rattle.yaml_subset.specs.Quoted.{double_at}
use Rattle.yaml_subset.proofs.QuotedTexts.{double_stops, double_fails, double_byte-shorter, double_once, double_open}
use Rattle.yaml_subset.proofs.quotes.each_double.Goals as goal

pub returns-then-b-eq34 : goal.returns-then-b-eq34
returns-then-b-eq34 c = double_stops c.args.number c.loop-rest.rest.now c.loop-rest.value.items
    (double_at c.args.number c.args.text.now) c.loop-rest.invariant c.in-len1-up.len_at_least c.if-b-eq34.true

pub returns-in_err-byte : goal.returns-in_err-byte
returns-in_err-byte c =
    let p = err_from_is_err_and c.from_residual.result c.from_residual.ensures.1 in
    rw (p.1, p.2) (double_fails c.args.number c.loop-rest.rest.now c.loop-rest.value.items
    (double_at c.args.number c.args.text.now) c.loop-rest.invariant c.in-len1-up.len_at_least c.if-b-eq34.false
    c.in_err-byte.field-0.0 c.in_err-byte.ensures)

pub loop-rest-smaller : goal.loop-rest-smaller
loop-rest-smaller c = double_byte-shorter c.args.number c.loop-rest.rest.now c.in_ok-byte.byte c.in_ok-byte.more.now
    c.in_ok-byte.ensures

pub loop-rest-preserved : goal.loop-rest-preserved
loop-rest-preserved c =
    rw c.in_ok-push.ensures.items
    (double_once c.args.number c.loop-rest.rest.now c.loop-rest.value.items (double_at c.args.number c.args.text.now)
    c.loop-rest.invariant c.in-len1-up.len_at_least c.if-b-eq34.false c.in_ok-byte.byte c.in_ok-byte.more.now
    c.in_ok-byte.ensures)

pub returns : goal.returns
returns c = rw c.at.ensures (double_open c.args.number c.loop-rest.rest.now c.loop-rest.value.items
    (double_at c.args.number c.args.text.now) c.loop-rest.invariant c.in_default.len_below)
