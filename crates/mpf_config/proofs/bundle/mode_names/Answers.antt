use Rattle.mpf_config.specs.RowsOf.{within_limits, AreModesOf, IsTextOver}
use Rattle.mpf_config.specs.{Reading.mode_names_at, CodeViews.names_only_view}
use Rattle.setting_values.proofs.AnswersOf.{is_found, is_only, is_refused}
use Rattle.mpf_config.proofs.ModeNames.{mode_names_sound, mode_names_or}
use Rattle.mpf_config.proofs.bundle.mode_names.Goals as goal

pub returns : goal.returns
returns c =
    let text = c.args.text.now in
    let read = mode_names_at text in
    let r = c.names_exactly.result in
    let h = c.names_exactly.ensures in
    record {
      found = is_found within_limits names_only_view read (λ sizes names. AreModesOf sizes text names)
          (λ sizes _. IsTextOver sizes text) (mode_names_sound text) r h;
      only = is_only within_limits names_only_view read (λ sizes names. AreModesOf sizes text names)
          (λ sizes _. IsTextOver sizes text) (mode_names_or text) r h;
      refused = is_refused within_limits names_only_view read (λ sizes names. AreModesOf sizes text names)
          (λ sizes _. IsTextOver sizes text) (mode_names_or text) r h;
      exact = h;
    }
