use Rattle.std.proofs.Common.{◌≡◌, take, map}
use Rattle.mpf_config.specs.{View.name_view, CodeViews.modes_view}
use Rattle.mpf_config.proofs.listed.modes_with_texts.Given as goal

abbrev pub invariant-loop-name : goal.invariant-loop-name
invariant-loop-name l = modes_view l.modes.items ≡ map name_view (take l.name-index l.names)
