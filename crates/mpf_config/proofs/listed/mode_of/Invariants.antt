use Rattle.std.proofs.Common.{◌≡◌, drop}
use Rattle.setting_values.specs.KeyRules.{found_in, shift}
use Rattle.mpf_config.specs.{Unread.mode_text_of, CodeViews.modes_view}
use Rattle.mpf_config.proofs.listed.mode_of.Given as goal

abbrev pub invariant-loop-place : goal.invariant-loop-place
invariant-loop-place l = shift l.place (found_in mode_text_of l.text (modes_view (drop l.place l.modes)))
    ≡ found_in mode_text_of l.text (modes_view l.modes)
