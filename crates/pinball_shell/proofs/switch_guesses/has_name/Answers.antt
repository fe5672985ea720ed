use Rattle.std.proofs.{Common.{sym, ◌∙◌, arith}, lemmas.Slice.Eq.bytes_eq-Decides}
use Rattle.pinball_shell.proofs.NamedSwitches.{named_is}
use Rattle.pinball_shell.proofs.switch_guesses.has_name.Goals as goal

pub returns : goal.returns
returns c = λ same. named_is c.args.plan.now c.switch_count.ensures.valid c.args.switch (omega arith) c.args.name.now
    (sym c.switch_name.ensures.name
    ∙ (bytes_eq-Decides c.switch_name.result.now c.args.name.now).0 (sym c.eq.ensures ∙ same))
