use Rattle.std.proofs.Common.{◌≡◌, [], List, Global, IsSome, map, string_bytes, sym, ap, ◌∙◌, subst}
use Rattle.std.proofs.lemmas.Result.{IfErr-weaker, IfOk-weaker}
use Rattle.clap.specs.Words.{App, HasKind, Text, fault_of, found_of, is_simple, is_simple_and_free, matches_of, rows_of}
use Rattle.command_line.specs.LiveCommand.{live_app, asked_in, live_asked_at}
use Rattle.command_line.proofs.LiveWords.{live_app_is_simple, live_app_is_free, live_answered, no_memory}
use Rattle.command_line.proofs.live.read_live.Goals as goal

pub returns-in-Ok-clause-asks : goal.returns-in-Ok-clause-asks
unfolding live_asked_at
returns-in-Ok-clause-asks c =
    let words : List Text = map (string_bytes {Z = Global}) c.args.words.now in
    let met : rows_of (found_of c.in-Ok.matches) ≡ matches_of live_app words =
    (c.in-Ok.ensures.matches (ap is_simple c.in_ok-pinball_live.ensures ∙ live_app_is_simple)).0
    ∙ ap (λ (a : App). matches_of a words) c.in_ok-pinball_live.ensures in
    let none : fault_of live_app words ≡ [] =
    sym (ap (λ (a : App). fault_of a words) c.in_ok-pinball_live.ensures)
    ∙ c.in-Ok.ensures.kinds (ap is_simple_and_free c.in_ok-pinball_live.ensures ∙ live_app_is_free) in
    IfOk-weaker c.asked_of.result _ _ (λ ask h. live_answered _ _ none ∙ ap asked_in (sym met) ∙ h)
    c.asked_of.ensures.asks

pub returns-in-Ok-clause-fails : goal.returns-in-Ok-clause-fails
unfolding live_asked_at
returns-in-Ok-clause-fails c =
    let words : List Text = map (string_bytes {Z = Global}) c.args.words.now in
    let met : rows_of (found_of c.in-Ok.matches) ≡ matches_of live_app words =
    (c.in-Ok.ensures.matches (ap is_simple c.in_ok-pinball_live.ensures ∙ live_app_is_simple)).0
    ∙ ap (λ (a : App). matches_of a words) c.in_ok-pinball_live.ensures in
    let none : fault_of live_app words ≡ [] =
    sym (ap (λ (a : App). fault_of a words) c.in_ok-pinball_live.ensures)
    ∙ c.in-Ok.ensures.kinds (ap is_simple_and_free c.in_ok-pinball_live.ensures ∙ live_app_is_free) in
    IfErr-weaker c.asked_of.result _ _ (λ fault h some. h
    (subst IsSome (live_answered _ _ none ∙ ap asked_in (sym met)) some)) c.asked_of.ensures.fails

pub returns-in-Err-clause-fails : goal.returns-in-Err-clause-fails
unfolding live_asked_at
returns-in-Err-clause-fails c =
    let words : List Text = map (string_bytes {Z = Global}) c.args.words.now in
    let kinds : HasKind (fault_of live_app words) c.in-Err.error =
    subst (λ (a : App). HasKind (fault_of a words) c.in-Err.error) c.in_ok-pinball_live.ensures
    (c.in-Err.ensures.kinds (ap is_simple_and_free c.in_ok-pinball_live.ensures ∙ live_app_is_free)) in
    λ some. c.fault_of.ensures (no_memory _ _ c.in-Err.error kinds some)
