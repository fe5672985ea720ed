use Rattle.std.proofs.{Common.{◌≡◌, ap, ap₂, ◌∙◌}, lemmas.Result.IfOk-weaker}
use Rattle.clap.specs.Words.{App, app_of, with_subcommand}
use Rattle.command_line.specs.CommandLine.{check_app, verify_app, program_app, pinball_app}
use Rattle.command_line.proofs.ask.pinball.Goals as goal

pub returns : goal.returns
unfolding pinball_app
returns c =
    let top = λ (a : App). a.top in
    let one_is : app_of c.in_ok-command.command ≡ with_subcommand program_app check_app.top =
    c.in_ok-command.ensures.shape c.in_ok-check.ensures.local
    ∙ ap₂ with_subcommand c.in_ok-top.ensures (ap top c.in_ok-check.ensures.shape) in
    let two_is : app_of c.in_ok-command-2.command
    ≡ with_subcommand (with_subcommand program_app check_app.top) verify_app.top =
    c.in_ok-command-2.ensures.shape c.in_ok-verify.ensures.local
    ∙ ap₂ with_subcommand one_is (ap top c.in_ok-verify.ensures.shape) in
    IfOk-weaker c.subcommand-3.result _ _
    (λ r h. h.shape c.in_ok-play.ensures.local ∙ ap₂ with_subcommand two_is (ap top c.in_ok-play.ensures.shape))
    c.subcommand-3.ensures
