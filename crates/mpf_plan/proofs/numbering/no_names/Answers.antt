use Rattle.std.proofs.Common.{rules, ◌≡◌, ℕ, ◌+◌, false, [], length, get_or, Some, refl, sym, ◌∙◌, ap, subst}
use Rattle.std.{specs.Prelude.slice_get, proofs.lemmas.{List.length_push, Option.none-some}}
use Rattle.plan_tables.specs.declared.{table.Table.TheVariants.Events, names.NameTable.NameTable}
use Rattle.plan_tables.specs.Limits.{limit_of, tables_in_order}
use Rattle.mpf_plan.proofs.{ByTable.{table_at, each_pushed}, Noted.none_kept}
use Rattle.mpf_plan.proofs.numbering.no_names.Goals as goal

abbrev IsEmptyAt : ℕ → NameTable → Type 0
IsEmptyAt i k = (k.limit ≡ limit_of (get_or tables_in_order i Events)) × (k.above ≡ false) × (k.set.keys ≡ [])

pub loop-table-init : goal.loop-table-init
loop-table-init c = search (rules, none-some)

pub loop-table-preserved : goal.loop-table-preserved
loop-table-preserved c =
    let so_far = c.loop-table.tables.items in
    let added : NameTable = record { set = c.with_hasher.result; limit = c.limit.result; above = false } in
    let count = c.loop-table.invariant.count in
    record {
      count = ap length c.in_ok-push.ensures.items ∙ length_push so_far added ∙ ap (λ n. n + 1) count;
      empty = λ i k at. each_pushed IsEmptyAt so_far added c.loop-table.invariant.empty (
        c.limit.ensures ∙ ap (λ n. limit_of (get_or tables_in_order n Events)) (sym count),
        refl,
        c.with_hasher.ensures.empty,
      ) i k (subst (λ ts. slice_get ts i ≡ Some k) c.in_ok-push.ensures.items at);
    }

pub returns : goal.returns
returns c = search (rules, none_kept, table_at)
