use Rattle.std.{proofs.Common.{◌||◌, not, ap, ◌∙◌}, specs.Str.bytes_eq}
use Rattle.yaml_subset.specs.Keys.{is_among}
use Rattle.mpf_config.specs.CodeViews.{copies_view}
use Rattle.mpf_config.proofs.taken.take_entry.Goals as goal

pub returns-clause-fresh : goal.returns-clause-fresh
returns-clause-fresh c = c.in_ok-fresh.ensures.fresh
    ∙ ap (λ key. not (is_among (copies_view c.args.known_keys.now) key)) c.in_ok-key.ensures

pub returns-clause-known : goal.returns-clause-known
returns-clause-known c = λ q. c.in_ok-fresh.ensures.known q
    ∙ ap (λ key. bytes_eq key q || is_among (copies_view c.args.known_keys.now) q) c.in_ok-key.ensures
