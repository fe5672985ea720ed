use Rattle.std.proofs.lemmas.Result.{IfOk-weaker}
use Rattle.command_line.proofs.LiveWords.{app_is_live}
use Rattle.command_line.proofs.live.pinball_live.Goals as goal

pub returns : goal.returns
returns c = IfOk-weaker c.with-3.result _ _
    (λ made h. app_is_live _ _ _ _ _ _ _ c.in_ok-live_program.ensures c.path_argument-folder.ensures.rule
    c.flag-work.ensures.rule
    c.flag-any_work.ensures.rule c.in_ok-with_folder.ensures c.in_ok-with_work.ensures h) c.with-3.ensures
