use Rattle.std.proofs.Common.{◌≡◌, drop}
use Rattle.setting_values.specs.View.{pairs_view}
use Rattle.mpf_config.specs.Reading.{line_of_key}
use Rattle.mpf_config.proofs.sections.line_of_key.Given as goal

abbrev pub invariant-loop-pair : goal.invariant-loop-pair
invariant-loop-pair l = line_of_key l.key l.otherwise (pairs_view (drop l.pair-index l.pairs))
    ≡ line_of_key l.key l.otherwise (pairs_view l.pairs)
