use Rattle.std.proofs.Common.{◌≡◌, [], List, Global, IsSome, map, string_bytes, sym, ap, ◌∙◌, subst}
use Rattle.std.proofs.lemmas.Result.{IfErr-weaker, IfOk-weaker}
use Rattle.clap.specs.Words.{App, HasKind, Text, fault_of, is_simple, is_simple_and_free, subcommand_of}
use Rattle.clap.specs.Words.{subcommand_rows_of}
use Rattle.command_line.specs.CommandLine.{pinball_app, asked_of, asked_at}
use Rattle.command_line.proofs.Words.{pinball_app_is_simple, pinball_app_is_free, answered, out_of_memory}
use Rattle.command_line.proofs.ask.read_words.Goals as goal

pub returns-in-Ok-clause-asks : goal.returns-in-Ok-clause-asks
unfolding asked_at
returns-in-Ok-clause-asks c =
    let words : List Text = map (string_bytes {Z = Global}) c.args.words.now in
    let met : subcommand_rows_of c.in-Ok.matches ≡ subcommand_of pinball_app words =
    (c.in-Ok.ensures.matches (ap is_simple c.in_ok-pinball.ensures ∙ pinball_app_is_simple)).1
    ∙ ap (λ (a : App). subcommand_of a words) c.in_ok-pinball.ensures in
    let none : fault_of pinball_app words ≡ [] =
    sym (ap (λ (a : App). fault_of a words) c.in_ok-pinball.ensures)
    ∙ c.in-Ok.ensures.kinds (ap is_simple_and_free c.in_ok-pinball.ensures ∙ pinball_app_is_free) in
    IfOk-weaker c.ask_of.result _ _ (λ ask h. answered _ _ none ∙ ap asked_of (sym met) ∙ h) c.ask_of.ensures.asks

pub returns-in-Ok-clause-fails : goal.returns-in-Ok-clause-fails
unfolding asked_at
returns-in-Ok-clause-fails c =
    let words : List Text = map (string_bytes {Z = Global}) c.args.words.now in
    let met : subcommand_rows_of c.in-Ok.matches ≡ subcommand_of pinball_app words =
    (c.in-Ok.ensures.matches (ap is_simple c.in_ok-pinball.ensures ∙ pinball_app_is_simple)).1
    ∙ ap (λ (a : App). subcommand_of a words) c.in_ok-pinball.ensures in
    let none : fault_of pinball_app words ≡ [] =
    sym (ap (λ (a : App). fault_of a words) c.in_ok-pinball.ensures)
    ∙ c.in-Ok.ensures.kinds (ap is_simple_and_free c.in_ok-pinball.ensures ∙ pinball_app_is_free) in
    IfErr-weaker c.ask_of.result _ _ (λ fault h some. h (subst IsSome (answered _ _ none ∙ ap asked_of (sym met)) some))
    c.ask_of.ensures.fails

pub returns-in-Err-clause-fails : goal.returns-in-Err-clause-fails
unfolding asked_at
returns-in-Err-clause-fails c =
    let words : List Text = map (string_bytes {Z = Global}) c.args.words.now in
    let kinds : HasKind (fault_of pinball_app words) c.in-Err.error =
    subst (λ (a : App). HasKind (fault_of a words) c.in-Err.error) c.in_ok-pinball.ensures
    (c.in-Err.ensures.kinds (ap is_simple_and_free c.in_ok-pinball.ensures ∙ pinball_app_is_free)) in
    λ some. c.fault_of.ensures (out_of_memory _ _ c.in-Err.error kinds some)
