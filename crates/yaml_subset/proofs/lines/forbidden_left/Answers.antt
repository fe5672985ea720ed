use Rattle.std.proofs.{Common.{length, refl, sym, ◌∙◌, arith}, lemmas.List.{at_drop_all, length_push}}
use Rattle.std.specs.Str.{chars}
use Rattle.std.proofs.lemmas.Iterator.{YieldsList-from_chars, Consumers.{YieldsList-turn, YieldsList-end}}
use Rattle.yaml_subset.specs.Reading.{forbidden_left}
use Rattle.yaml_subset.proofs.Blemishes.{bytes_len-chars, bytes_len-step, left_found, left_step}
use Rattle.yaml_subset.proofs.lines.forbidden_left.Goals as goal

pub loop-c-init : goal.loop-c-init
loop-c-init c = record { within = omega arith; left = sym (bytes_len-chars c.args.text.now c.utf8.text); same = refl }

pub returns-then-is_forbidden-clause-value : goal.returns-then-is_forbidden-clause-value
returns-then-is_forbidden-clause-value c =
    let t = YieldsList-turn (YieldsList-from_chars c.args.text.now c.utf8.text cc) c.loop-c.yielded _
    c.loop-c.yielded_by _ _ c.in-Some.c c.in-Some.is c.next.ensures.steps in
    let e = left_found (chars c.args.text.now) (length c.loop-c.yielded) c.in-Some.c t
    (sym c.is_forbidden.ensures ∙ c.if-is_forbidden.true) in
    c.loop-c.invariant.left ∙ sym e ∙ c.loop-c.invariant.same

pub overflow_sub-size : goal.overflow_sub-size
overflow_sub-size c =
    let t = YieldsList-turn (YieldsList-from_chars c.args.text.now c.utf8.text cc) c.loop-c.yielded _
    c.loop-c.yielded_by _ _ c.in-Some.c c.in-Some.is c.next.ensures.steps in
    let e = bytes_len-step (chars c.args.text.now) (length c.loop-c.yielded) c.in-Some.c t in
    omega (arith, e, c.len_utf8-size.ensures.value, c.loop-c.invariant.left)

pub loop-c-preserved : goal.loop-c-preserved
loop-c-preserved c =
    let t = YieldsList-turn (YieldsList-from_chars c.args.text.now c.utf8.text cc) c.loop-c.yielded _
    c.loop-c.yielded_by _ _ c.in-Some.c c.in-Some.is c.next.ensures.steps in
    let e = bytes_len-step (chars c.args.text.now) (length c.loop-c.yielded) c.in-Some.c t in
    let f = left_step (chars c.args.text.now) (length c.loop-c.yielded) c.in-Some.c t
    (sym c.is_forbidden.ensures ∙ c.if-is_forbidden.false) in
    let n = length_push c.loop-c.yielded c.in-Some.c in
    record {
      within = omega (arith, c.loop-c.invariant.within);
      left = rw n (omega (arith, e, c.len_utf8-size.ensures.value, c.loop-c.invariant.left));
      same = rw n (sym f ∙ c.loop-c.invariant.same);
    }

pub returns-clause-value : goal.returns-clause-value
returns-clause-value c =
    let t = YieldsList-end (YieldsList-from_chars c.args.text.now c.utf8.text cc) c.loop-c.yielded _ c.loop-c.yielded_by
    _ _ c.in-None.is c.next.ensures.steps in
    sym (at_drop_all forbidden_left (chars c.args.text.now) (length c.loop-c.yielded) (omega (arith, t.1)))
    ∙ c.loop-c.invariant.same
