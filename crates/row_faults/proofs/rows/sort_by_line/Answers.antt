use Rattle.std.proofs.Common.{rules, ◌≡◌, ap, sym, subst, ◌∙◌}
use Rattle.std.proofs.lemmas.{Fn.always_returns_same, Map.Keys.le_from_is_le}
use Rattle.row_faults.specs.{declared.fault.RowFault.RowFault, View.{row_fault_view, row_faults_view}}
use Rattle.row_faults.specs.{AsWritten.ordered_by, RowFaults.fault_line}
use Rattle.row_faults.proofs.ByLine.{in-order, sorted-is, ordered-seen}
use Rattle.row_faults.proofs.rows.sort_by_line.Goals as goal

pub returns-then-is_sorted_by_key : goal.returns-then-is_sorted_by_key
returns-then-is_sorted_by_key c =
    let key = λ (f : RowFault). fault_line (row_fault_view f) in
    let given = c.args.faults.now.items in
    let adjacent = c.if-is_sorted_by_key.ensures.cases key (always_returns_same _ _ _ (λ a r q k. search rules)) in
    ap row_faults_view
    (subst (λ xs. xs ≡ ordered_by key xs) c.deref.ensures.value
    (in-order key c.deref.result.now (λ k d within. le_from_is_le _ _ (sym (adjacent k d within)))))
    ∙ ordered-seen row_fault_view fault_line given

pub returns : goal.returns
returns c =
    let sort = c.in_ok-sort_by_key.ensures in
    let items = c.sort_by_key.new.self.items in
    let given = c.args.faults.now.items in
    ap row_faults_view
    (sorted-is (λ f. fault_line (row_fault_view f)) given items
    (sort.sorted (λ f. fault_line (row_fault_view f)) (always_returns_same _ _ _ (λ a r q k. search rules)))
    (sort.stable (λ f. fault_line (row_fault_view f)) (always_returns_same _ _ _ (λ a r q k. search rules))))
    ∙ ordered-seen row_fault_view fault_line given
