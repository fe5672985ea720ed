use Rattle.std.{proofs.Common.{sym, ap, ◌∙◌}, specs.Prelude.not}
use Rattle.mpf_sections.specs.View.{entry_view}
use Rattle.machine_definitions.{specs.Found.is_found, proofs.Finding.name-found}
use Rattle.plan_rows.proofs.SeatParts.{shot_has_row}
use Rattle.plan_rows.proofs.seats.has_row.Goals as goal

pub returns-then-eq : goal.returns-then-eq
returns-then-eq c = λ place h.
    let group_shots = c.args.group_shots.now in
    ap not (c.contains.ensures ∙ name-found group_shots c.as_slice.result.now
    ∙ ap (is_found group_shots) c.as_slice.ensures)
    ∙ shot_has_row place (is_found group_shots) c.args.section.now (entry_view c.args.entry.now)
    (sym c.eq.ensures ∙ c.if-eq.true)
