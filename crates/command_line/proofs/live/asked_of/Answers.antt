use Rattle.std.proofs.{Common.{sym, ◌∙◌}, lemmas.Result.IfOk-weaker}
use Rattle.clap.specs.Words.{found_of, rows_of}
use Rattle.command_line.proofs.LiveWords.{asked_by_values}
use Rattle.command_line.proofs.live.asked_of.Goals as goal

pub returns-clause-asks : goal.returns-clause-asks
returns-clause-asks c = IfOk-weaker c.ask_by.result _ _
    (λ ask h. sym (asked_by_values (rows_of (found_of c.args.matches.now)) _ _ _ _ _
    c.value_of-3.ensures c.value_of.ensures c.value_of-2.ensures c.is_true-work.ensures c.is_true-any_work.ensures) ∙ h)
    c.ask_by.ensures.asks
