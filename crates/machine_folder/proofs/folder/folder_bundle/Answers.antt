use Rattle.std.proofs.Common.{List, ℕ, ◌≡◌, [], Result, Err, IfErr, map, rules, subst, sym, ap, ◌∙◌}
use Rattle.std.{proofs.lemmas.Result.err_from_is_err_and, specs.{Global.Vec, Prelude.{option_map, string_bytes}}}
use Rattle.mpf_config.specs.{BundleText.machine_name, CodeViews.names_only_view}
use Rattle.pinball_shell.specs.{declared.fault.{Failure.Failure, ShellFault.TheVariants.TooLong}, Status.file_at_fault}
use Rattle.machine_folder.specs.Bundles.{path_of, IsMachineRead, IsOverAt, IsTooLongAt, MakesTooLong, NamesTooLong}
use Rattle.machine_folder.proofs.TooLong.{first-over, machine-over}
use Rattle.machine_folder.proofs.folder.folder_bundle.Goals as goal

pub returns-in_err-append_modes-in-Ok-clause-too_long : goal.returns-in_err-append_modes-in-Ok-clause-too_long
returns-in_err-append_modes-in-Ok-clause-too_long g c =
    let text_at = g.T.Texts.text_at c.args.texts.now in
    let folder = c.args.folder.now in
    let bundle = c.in-Ok.bundle.items in
    let modes = c.in-Ok.modes in
    let failure = c.in_err-append_modes-in-Ok.field-0.0 in
    let read : IsMachineRead (text_at (path_of folder machine_name)) bundle (names_only_view modes) =
    subst (λ (path : List ℕ). IsMachineRead (text_at path) bundle (names_only_view modes))
    (c.deref.ensures ∙ c.in_ok-path.ensures) c.in-Ok.ensures.read in
    let named : NamesTooLong failure (IsOverAt text_at folder (names_only_view modes) bundle) =
    subst (λ (ms : List (Vec ℕ)). NamesTooLong failure (IsOverAt text_at folder (map (λ m. m.items) ms) bundle))
    c.deref-in-Ok.ensures.value c.in_err-append_modes-in-Ok.ensures.too_long in
    let over = machine-over text_at folder bundle (names_only_view modes) failure read named in
    let from = c.from_residual-in_err-append_modes-in-Ok in
    let p = err_from_is_err_and from.result from.ensures.1 in
    subst (λ (r : Result (Vec ℕ) Failure). IfErr r (λ f. NamesTooLong f (IsTooLongAt text_at folder)))
    (sym (p.1 ∙ ap Err p.2)) over

pub returns-in-Err-clause-too_long : goal.returns-in-Err-clause-too_long
returns-in-Err-clause-too_long g c =
    let text_at = g.T.Texts.text_at c.args.texts.now in
    let folder = c.args.folder.now in
    let path = string_bytes c.in_ok-path.path in
    let fault = c.in-Err.fault in
    let over : fault ≡ TooLong → MakesTooLong (text_at path) machine_name [] =
    subst (λ (read : List ℕ). fault ≡ TooLong → MakesTooLong (text_at read) machine_name []) c.deref.ensures
    c.in-Err.ensures.too_long in
    let made : (failure : Failure) → failure.fault ≡ fault
    → option_map string_bytes failure.file ≡ file_at_fault fault path
    → NamesTooLong failure (IsTooLongAt text_at folder) =
    λ failure same file. first-over text_at folder path fault failure same file c.in_ok-path.ensures over in
    search (rules, made)
