use Rattle.std.proofs.Common.{◌≡◌, drop}
use Rattle.mpf_config.specs.{Reading.machine_at, CodeViews.texts_view}
use Rattle.mpf_config.proofs.texts.machine_text.Given as goal

abbrev pub invariant-loop-text : goal.invariant-loop-text
invariant-loop-text l = machine_at (texts_view (drop l.text-index l.texts)) ≡ machine_at (texts_view l.texts)
