use Rattle.std.proofs.Common.{rules, ◌≡◌, ◌<◌, ◌+◌, ℕ, List, length, map, refl, ap, sym, subst, ◌∙◌}
use Rattle.std.specs.{Prelude.IfSome, Option.option_map, Vec.vec_len, List.All}
use Rattle.std.proofs.lemmas.List.{length-map, Elements.All-weaker}
use Rattle.plan_tables.specs.{declared.{devices.DeviceRow.DeviceRow, tables.Tables.Tables}, PlanView.target_in}
use Rattle.plan_tables.specs.PlanFields.{tables_view, mode_entry_view, mode_place, target_place}
use Rattle.plan_tables.proofs.ListsBy.{bindings_placed, rows_placed, targets_placed}
use Rattle.plan_tables.proofs.tables.Plan.new.Goals as goal

pub places_by_event-requires-clause-events : goal.places_by_event-requires-clause-events
places_by_event-requires-clause-events c = search (rules, length-map, All-weaker)

modes_count : (t : Tables) (n : ℕ) → n ≡ vec_len t.modes → length (tables_view t).modes ≡ n
modes_count t n is = length-map t.modes.items mode_entry_view ∙ sym t.modes.ok.0 ∙ sym is

pub bindings_by_mode-requires-clause-modes : goal.bindings_by_mode-requires-clause-modes
bindings_by_mode-requires-clause-modes c = search (rules, modes_count, bindings_placed)

pub rows_by_mode-requires-clause-modes : goal.rows_by_mode-requires-clause-modes
rows_by_mode-requires-clause-modes c =
    let plan = tables_view c.args.tables in
    subst (λ (rows : List DeviceRow). All (λ row. IfSome (mode_place row.owner) (λ p. p < c.len-modes.result)) rows)
    (sym c.deref-4.ensures.value)
    (subst (λ n. All (λ row. IfSome (mode_place row.owner) (λ p. p < n)) plan.rows)
    (modes_count c.args.tables c.len-modes.result c.len-modes.ensures) (rows_placed plan c.requires.valid))

pub feeders_by_target-requires-clause-targets : goal.feeders_by_target-requires-clause-targets
feeders_by_target-requires-clause-targets c =
    let plan = tables_view c.args.tables in
    subst (λ (rows : List DeviceRow). All (λ row. IfSome (option_map target_place (target_in row.settings))
    (λ p. p < length rows + 1)) rows) (sym c.deref-5.ensures.value) (targets_placed plan c.requires.valid)

pub invariant_of-result : goal.invariant_of-result
invariant_of-result c =
    let plan = tables_view c.args.tables in
    let count : length plan.events ≡ c.len-events.result = sym (ap length c.of.ensures.names)
    ∙ length-map c.of.result.now.keys (λ v. v.items) ∙ sym c.len-events.ensures.len in (
      c.requires.valid,
      c.in_ok-places.ensures plan count (sym c.deref.ensures.value),
      c.in_ok-works.ensures plan count (ap (map mode_entry_view) (sym c.deref-2.ensures.value)) refl,
      c.requires.switches,
      c.requires.coils,
      c.in_ok-mode_bindings.ensures plan (modes_count c.args.tables c.len-modes.result c.len-modes.ensures)
          (sym c.deref-3.ensures.value),
      c.in_ok-mode_rows.ensures plan (modes_count c.args.tables c.len-modes.result c.len-modes.ensures)
          (sym c.deref-4.ensures.value),
      c.in_ok-feeders.ensures plan (sym c.deref-5.ensures.value),
    )
