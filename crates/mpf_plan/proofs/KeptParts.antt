-- The numbers of the parts of rows are kept, if their plan is within its limits: seats have rows that are there, and
-- devices have few effect lists.
use Rattle.std.proofs.Common.{◌≡◌, ◌+◌, List, [], ◌∷◌, length, refl, ap₂, sym, ◌∙◌, length-append, arith}
use Rattle.std.{specs.List.All, proofs.lemmas.{List.{Sums.sum_by-cons, Elements.All-weaker}, Option.slice_get_within}}
use Rattle.mpf_config.specs.{Rows.Rows, Short.AreListsShort, States.HaveStates}
use Rattle.plan_parts.{specs.Parts.{Part, handler, device, act_on, parts_of}, proofs.RowFacts.parts_are}
use Rattle.plan_parts.specs.{PartBounds.IsPartOf, PartKinds.{row_of_part, rows_of_parts}}
use Rattle.plan_tables.proofs.RowLists.{few_lists}
use Rattle.mpf_plan.{specs.{PlanOf.row_count, Drafting.IsKept}, proofs.{Laws.rows_of_all, Grown.{InLimits, few_rows}}}

-- how many rows there are
rows_here : (ps : List Part) → length (rows_of_parts ps) ≡ rows_of_all ps
rows_here [] = refl
rows_here (p ∷ ps) =
    length-append (row_of_part p) (rows_of_parts ps)
    ∙ ap₂ (λ a b. a + b) (one p) (rows_here ps)
    ∙ sym (sum_by-cons row_count p ps)
  where
    one : (p : Part) → length (row_of_part p) ≡ row_count p
    one (device w d) = refl
    one x1 = refl

pub parts_kept : (rows : Rows) → HaveStates rows → AreListsShort rows → InLimits (parts_of rows)
    → All IsKept (parts_of rows)
parts_kept rows states short limits = All-weaker (IsPartOf rows) IsKept each (parts_of rows) (parts_are rows)
  where
    each : (p : Part) → IsPartOf rows p → IsKept p
    each (handler w e (act_on r a)) is =
        let inside = slice_get_within (rows_of_parts (parts_of rows)) r.0 (w, is.1.device) is.1.there in
        omega (arith, inside, rows_here (parts_of rows), few_rows (parts_of rows) limits)
    each (device w d) is = omega (arith, is.count states, few_lists d.settings (is.limits short))
    each x1 is = tt
