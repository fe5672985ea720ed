use Rattle.std.{proofs.Common.{◌≡◌, ℕ, false, [], length, get_or, Some}, specs.Prelude.slice_get}
use Rattle.plan_tables.specs.{declared.{table.Table.TheVariants.Events, names.NameTable.NameTable}, Limits.limit_of}
use Rattle.mpf_plan.proofs.numbering.no_names.Given as goal

abbrev pub invariant-loop-table : goal.invariant-loop-table
invariant-loop-table l = record {
  count : length l.tables.items ≡ l.table-index;
  empty : (i : ℕ) (k : NameTable) → slice_get l.tables.items i ≡ Some k
      → (k.limit ≡ limit_of (get_or l.table-items i Events)) × (k.above ≡ false) × (k.set.keys ≡ []);
}
