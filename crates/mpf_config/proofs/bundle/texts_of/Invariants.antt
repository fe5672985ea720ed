use Rattle.std.proofs.Common.{◌≡◌, take, map}
use Rattle.mpf_config.specs.{View.name_view, CodeViews.names_only_view}
use Rattle.mpf_config.proofs.bundle.texts_of.Given as goal

abbrev pub invariant-loop-name : goal.invariant-loop-name
invariant-loop-name l = names_only_view l.texts ≡ map (λ w. w.text) (map name_view (take l.name-index l.names))
