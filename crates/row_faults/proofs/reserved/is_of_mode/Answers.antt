use Rattle.std.proofs.Common.{List, ℕ, Some, None, codes, sym, ap, ◌∙◌}
use Rattle.std.proofs.lemmas.{Bool.Decides.Decides-eqb, Slice.Eq.strip_prefix_is}
use Rattle.yaml_subset.specs.Keys.{is_among}
use Rattle.row_faults.{specs.View.events_view, proofs.RowFaults.{has_event, no_event}}
use Rattle.row_faults.proofs.reserved.is_of_mode.Goals as goal

pub returns-in-Some : goal.returns-in-Some
returns-in-Some c =
    let begins = strip_prefix_is Decides-eqb c.args.name.now (codes "mode_") (Some c.in-Some.rest)
    c.in-Some.ensures.cases in
    c.contains.ensures ∙ has_event c.args.modes.now.keys c.in-Some.rest.now
    ∙ sym (ap (λ (name : List ℕ). is_among (events_view c.args.modes.now) name) begins)

pub returns-in-None : goal.returns-in-None
returns-in-None c = sym (no_event c.args.modes.now.keys c.args.name.now
    (strip_prefix_is Decides-eqb c.args.name.now (codes "mode_") None c.in-None.ensures.cases))
