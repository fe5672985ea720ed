use Rattle.std.proofs.Common.{rules, ◌≡◌, [], true, ap, subst}
use Rattle.std.proofs.lemmas.{Bool.{and_parts, and_from, eqb-true, eq-eqb}, Slice.Eq.bytes_eq-Decides}
use Rattle.row_faults.specs.declared.fault.{RowFault.RowFault, RowFaultKind.RowFaultKind}
use Rattle.row_faults.{proofs.Plain.took-one, specs.{FaultView.RowFaultView, RowFaults.listed_once}}
use Rattle.row_faults.specs.View.{letters_of, row_fault_view, row_faults_view}
use Rattle.row_faults.specs.contracts.fault.RowFaultPartialEq.TheImpl as same_faults
use Rattle.row_faults.specs.contracts.fault.RowFaultKindPartialEq.TheImpl as same_kinds
use Rattle.row_faults.proofs.once.each_once.Goals as goal

kind-same : (k m : RowFaultKind) → same_kinds.ghosts.eq k m ≡ true → k ≡ m
kind-same x1 x2 = search rules

kind-equal : (k : RowFaultKind) → same_kinds.ghosts.eq k k ≡ true
kind-equal x1 = search rules

fault-same : (f g : RowFault) → same_faults.ghosts.eq f g ≡ true → row_fault_view f ≡ row_fault_view g
fault-same f g same =
    let one = and_parts _ _ same in
    let two = and_parts _ _ one.1 in
    let three = and_parts _ _ two.1 in
    let kinds : f.kind ≡ g.kind = kind-same f.kind g.kind one.0 in
    let lines : f.line ≡ g.line = eqb-true f.line g.line two.0 in
    let texts = (bytes_eq-Decides (letters_of f.text) (letters_of g.text)).0 three.0 in
    let names = (bytes_eq-Decides f.name.items g.name.items).0 three.1 in
    λ i. record { kind = kinds i; text = texts i; line = lines i; name = names i }

fault-equal : (f g : RowFault) → row_fault_view f ≡ row_fault_view g → same_faults.ghosts.eq f g ≡ true
fault-equal f g same =
    let kinds : f.kind ≡ g.kind = ap (λ (v : RowFaultView). v.kind) same in
    and_from _ _ (subst (λ k. same_kinds.ghosts.eq f.kind k ≡ true) kinds (kind-equal f.kind))
    (and_from _ _ (eq-eqb f.line g.line (ap (λ (v : RowFaultView). v.line) same))
    (and_from _ _ ((bytes_eq-Decides (letters_of f.text) (letters_of g.text)).1
    (ap (λ (v : RowFaultView). v.text) same))
    ((bytes_eq-Decides f.name.items g.name.items).1 (ap (λ (v : RowFaultView). v.name) same))))

pub loop-fault-preserved : goal.loop-fault-preserved
loop-fault-preserved c =
    let made = took-one same_faults.ghosts.eq (λ f g. (fault-same f g, fault-equal f g)) c.loop-fault.each.keys
    c.insert.new.self.keys c.in-Some.fault c.loop-fault.fault-iterator.rest.items c.next.new.self.rest.items
    (listed_once [] (row_faults_view c.args.faults.items)) (search rules) c.in_ok-insert.ensures.keys
    c.loop-fault.invariant.plain c.loop-fault.invariant.others c.loop-fault.invariant.listed in
    record { listed = made.0; plain = made.1; others = made.2 }
