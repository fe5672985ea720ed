use Rattle.std.proofs.Common.{◌≡◌, Some, IsSome, option_map, codes, sym, ap, ap₂, ◌∙◌, subst}
use Rattle.std.proofs.lemmas.Result.{IfErr-weaker, IfOk-weaker}
use Rattle.clap.{specs.Words.{found_of, rows_of, subcommand_rows_of}, proofs.WalkLemmas.first_value-rows}
use Rattle.command_line.{specs.CommandLine.{asked_by, asked_of}, proofs.Words.met_together}
use Rattle.command_line.proofs.ask.ask_of.Goals as goal

pub returns-in-Some-clause-asks : goal.returns-in-Some-clause-asks
returns-in-Some-clause-asks c =
    let met : subcommand_rows_of c.args.matches.now
    ≡ Some (c.in-Some.name.now, rows_of (found_of c.in-Some.found.now)) =
    met_together _ _ _ _ _ c.in-Some.ensures.name c.in-Some.ensures.rows in
    let is : asked_of (subcommand_rows_of c.args.matches.now)
    ≡ asked_by c.in-Some.name.now (option_map (λ s. s.now) c.get_str-path.result)
    (option_map (λ s. s.now) c.get_str-folder.result) =
    ap asked_of met ∙ ap₂ (asked_by c.in-Some.name.now)
    (sym (c.get_str-path.ensures ∙ first_value-rows (found_of c.in-Some.found.now) (codes "path")))
    (sym (c.get_str-folder.ensures ∙ first_value-rows (found_of c.in-Some.found.now) (codes "folder"))) in
    IfOk-weaker c.ask_by.result _ _ (λ ask h. is ∙ h) c.ask_by.ensures.asks

pub returns-in-Some-clause-fails : goal.returns-in-Some-clause-fails
returns-in-Some-clause-fails c =
    let met : subcommand_rows_of c.args.matches.now
    ≡ Some (c.in-Some.name.now, rows_of (found_of c.in-Some.found.now)) =
    met_together _ _ _ _ _ c.in-Some.ensures.name c.in-Some.ensures.rows in
    let is : asked_of (subcommand_rows_of c.args.matches.now)
    ≡ asked_by c.in-Some.name.now (option_map (λ s. s.now) c.get_str-path.result)
    (option_map (λ s. s.now) c.get_str-folder.result) =
    ap asked_of met ∙ ap₂ (asked_by c.in-Some.name.now)
    (sym (c.get_str-path.ensures ∙ first_value-rows (found_of c.in-Some.found.now) (codes "path")))
    (sym (c.get_str-folder.ensures ∙ first_value-rows (found_of c.in-Some.found.now) (codes "folder"))) in
    IfErr-weaker c.ask_by.result _ _ (λ fault h some. h (subst IsSome is some)) c.ask_by.ensures.fails
