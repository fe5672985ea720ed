use Rattle.std.{proofs.Common.{ℕ, List, sym, subst, ◌∙◌}, specs.Str.Parse.ParsesUnsigned}
use Rattle.yaml_bytes.proofs.WrittenNumbers.{digits_are_utf8, not_digits, no_fault, found_ok, parsed}
use Rattle.yaml_bytes.proofs.numbers.number.Goals as goal

pub returns-then-not-has_digits_only : goal.returns-then-not-has_digits_only
returns-then-not-has_digits_only c = sym (not_digits c.args.text.now
    (sym c.has_digits_only.ensures ∙ c.if-not-has_digits_only.true))

pub returns-in_err-ok : goal.returns-in_err-ok
returns-in_err-ok c =
    let utf8 = digits_are_utf8 c.args.text.now (sym c.has_digits_only.ensures ∙ c.if-not-has_digits_only.false) in
    absurd (no_fault c.from_utf8.result _ _ c.from_utf8.ensures.cases (λ e h. h.0 utf8)
    (sym c.ok.ensures.value ∙ c.in_err-ok.was))

pub returns : goal.returns
returns c =
    let text = c.args.text.now in
    let digits = sym c.has_digits_only.ensures ∙ c.if-not-has_digits_only.false in
    let same = (found_ok c.from_utf8.result _ _ c.in_ok-ok.field-0 c.from_utf8.ensures.cases
    (sym c.ok.ensures.value ∙ c.in_ok-ok.was)).0 in
    c.ok-2.ensures.value ∙ parsed text c.parse.result digits
    (subst (λ (ds : List ℕ). ParsesUnsigned 64 10 ds c.parse.result) same c.parse.ensures.value.0)
