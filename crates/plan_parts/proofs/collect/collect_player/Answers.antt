use Rattle.std.proofs.Common.{[], ◌∷◌, map, sym, ap, ◌∙◌}
use Rattle.mpf_sections.specs.{Rows.{EventPlayer, CoilPlayer, VariablePlayer}, View.player_view}
use Rattle.plan_parts.{specs.{Effects.posts, CoilEntries.item_effect}, proofs.Gives.{gives_same, gives_nothing}}
use Rattle.plan_parts.specs.{VariableEntries.item_change, Parts.{handler, run, texts}}
use Rattle.plan_parts.specs.Gives.{player_entry_gives, event_player_gives, coil_player_gives, variable_player_gives}
use Rattle.plan_parts.proofs.RowKinds.{event_player_there, coil_player_there, variable_player_there, no_player_there}
use Rattle.plan_parts.proofs.collect.collect_player.Goals as goal

pub returns-then-eq : goal.returns-then-eq
returns-then-eq c =
    let machine = c.args.definitions.now.machine in
    let section = c.args.section.now in
    gives_same c.collect_event_player.result c.args.parts.now c.collect_event_player.new.parts
    (event_player_gives c.as_event_player.result) (player_entry_gives machine section c.args.player.now)
    (λ whose. ap (λ (p : EventPlayer). handler whose p.event.event (run (map posts (texts p.posts))) ∷ [])
    c.as_event_player.ensures
    ∙ event_player_there machine section (player_view c.args.player.now) whose (sym c.eq.ensures ∙ c.if-eq.true))
    c.collect_event_player.ensures

pub returns-then-eq-2 : goal.returns-then-eq-2
returns-then-eq-2 c =
    let machine = c.args.definitions.now.machine in
    let section = c.args.section.now in
    gives_same c.collect_coil_player.result c.args.parts.now c.collect_coil_player.new.parts
    (coil_player_gives machine c.as_coil_player.result) (player_entry_gives machine section c.args.player.now)
    (λ whose. ap (λ (p : CoilPlayer). handler whose p.event.event (run (map (item_effect machine) p.items)) ∷ [])
    c.as_coil_player.ensures
    ∙ coil_player_there machine section (player_view c.args.player.now) whose (sym c.eq.ensures ∙ c.if-eq.false)
    (sym c.eq-2.ensures ∙ c.if-eq-2.true))
    c.collect_coil_player.ensures

pub returns-then-eq-3 : goal.returns-then-eq-3
returns-then-eq-3 c =
    let machine = c.args.definitions.now.machine in
    let section = c.args.section.now in
    gives_same c.collect_variable_player.result c.args.parts.now c.collect_variable_player.new.parts
    (variable_player_gives c.as_variable_player.result) (player_entry_gives machine section c.args.player.now)
    (λ whose. ap (λ (p : VariablePlayer). handler whose p.event.event (run (map item_change p.items)) ∷ [])
    c.as_variable_player.ensures
    ∙ variable_player_there machine section (player_view c.args.player.now) whose (sym c.eq.ensures ∙ c.if-eq.false)
    (sym c.eq-2.ensures ∙ c.if-eq-2.false) (sym c.eq-3.ensures ∙ c.if-eq-3.true))
    c.collect_variable_player.ensures

pub returns : goal.returns
returns c =
    let machine = c.args.definitions.now.machine in
    let section = c.args.section.now in
    gives_nothing c.args.parts.now (player_entry_gives machine section c.args.player.now)
    (λ whose. no_player_there machine section (player_view c.args.player.now) whose (sym c.eq.ensures ∙ c.if-eq.false)
    (sym c.eq-2.ensures ∙ c.if-eq-2.false) (sym c.eq-3.ensures ∙ c.if-eq-3.false))
