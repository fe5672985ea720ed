use Rattle.std.proofs.Common.{◌<◌, length, sym, ◌∙◌, arith}
use Rattle.pinball_shell.proofs.ShortNumbers.{number-small, digits-more, number-more}
use Rattle.pinball_shell.proofs.log_line.first_digits.Goals as goal

pub overflow_mul-number : goal.overflow_mul-number
overflow_mul-number c =
    omega (
      arith,
      c.loop-len.invariant.1,
      c.min-most.ensures,
      number-small c.args.text.now c.loop-len.len (omega arith) (omega arith) c.loop-len.invariant.0,
    )

pub overflow_add-number : goal.overflow_add-number
overflow_add-number c =
    omega (
      arith,
      c.from.ensures,
      c.type_inv.text c.loop-len.len,
      c.loop-len.invariant.1,
      number-small c.args.text.now c.loop-len.len (omega arith) (omega arith) c.loop-len.invariant.0,
    )

pub loop-len-preserved : goal.loop-len-preserved
loop-len-preserved c =
    let text = c.args.text.now in
    let i = c.loop-len.len in
    let within : i < length text = omega arith in (
      digits-more text i 0 within c.loop-len.invariant.0
          (sym c.is_ascii_digit.ensures.value ∙ c.if-not-is_ascii_digit.false),
      omega (arith, c.from.ensures, c.loop-len.invariant.1, number-more text i 0 within),
    )
