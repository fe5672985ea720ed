use Rattle.std.proofs.Common.{rules, ◌≡◌, refl, ◌++◌, List, [], ◌∷◌, length, map, reverse, append_assoc, ap, ◌∙◌, arith}
use Rattle.std.proofs.lemmas.List.{map-append, append-nil, reverse-append, reverse-reverse}
use Rattle.row_faults.specs.{declared.fault.RowFault.RowFault, View.row_faults_view}
use Rattle.config_checker.specs.{declared.report.CheckFault.CheckFault, FaultView.{FaultView, row}, View.faults_view}
use Rattle.config_checker.specs.declared.report.CheckFault.TheVariants as faults
use Rattle.config_checker.proofs.checker.faults_of.Goals as goal

-- a fault that was left is there now
moved : (old new : List CheckFault) (f : RowFault) (before after : List RowFault) (all : List FaultView)
    → new ≡ old ++ faults.Row f ∷ [] → before ≡ after ++ f ∷ []
    → faults_view old ++ map row (row_faults_view (reverse before)) ≡ all
    → faults_view new ++ map row (row_faults_view (reverse after)) ≡ all
moved old new f before after all more next h =
    let turned : reverse before ≡ f ∷ reverse after = ap reverse next ∙ reverse-append after (f ∷ []) in
    search (rules, map-append, append_assoc)

none_left : (xs : List RowFault) → length xs ≡ 0 → xs ≡ []
none_left [] e = refl
none_left (x ∷ xs) e = absurd (omega (arith, e))

pub loop-fault-init : goal.loop-fault-init
loop-fault-init c = search (rules, reverse-reverse)

pub loop-fault-preserved : goal.loop-fault-preserved
loop-fault-preserved c = search (rules, moved)

pub returns : goal.returns
returns c = search (rules, none_left, append-nil)
