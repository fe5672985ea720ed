use Rattle.std.proofs.{Common.{◌<◌, ◌-◌, length, sym, ◌∙◌, arith}, lemmas.Bool.eqb-false}
use Rattle.pinball_shell.proofs.UsualLines.{usual-said}
use Rattle.pinball_shell.proofs.log_line.read_usual.Goals as goal

pub returns-then-is_plain : goal.returns-then-is_plain
returns-then-is_plain c =
    let line = c.args.line.now in
    let name = c.in_ok-at.name.now in
    let some : 0 < length name =
    omega (arith, eqb-false (length name) 0 (sym c.is_empty.ensures ∙ c.if-not-is_empty.true)) in
    usual-said line name (length line - 2) (length line - 1) c.in_ok-at.at c.in_ok-level.level (omega arith)
    (omega arith) c.in_ok-at.ensures
    (sym c.is_blank.ensures ∙ c.if-is_blank.true) (sym c.in_ok-level.ensures) some
    (sym c.is_plain.ensures ∙ c.if-is_plain.true)
