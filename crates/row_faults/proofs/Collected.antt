-- What was found, and what is found after it.
use Rattle.std.proofs.Common.{rules, ◌≡◌, ℕ, Bool, List, [], ◌++◌, map, append_assoc, ap}
use Rattle.std.proofs.lemmas.List.{append-nil, map-append}
use Rattle.mpf_sections.specs.Rows.{WrittenName}
use Rattle.row_faults.{specs.declared.fault.RowFaultKind.TheVariants.Name, proofs.Listed.misplaced-append}
use Rattle.row_faults.specs.ShotFaults.{ListedShot, taken_after, kept_if}
use Rattle.row_faults.specs.{CoilFaults.fault_if, FaultView.RowFaultView, RowFaults.name_fault}
use Rattle.row_faults.specs.Collected.{FaultsView, with_faults, group_faults}

pub with-none : (f : FaultsView) → with_faults f [] ≡ f
with-none f = ap (λ (fs : List RowFaultView).
    record { rows = f.rows; modes = f.modes; text = f.text; found_faults = fs }) (append-nil f.found_faults)

pub with-more : (f : FaultsView) (first more : List RowFaultView)
    → with_faults (with_faults f first) more ≡ with_faults f (first ++ more)
with-more f first more = search (rules, append_assoc)

-- the faults of what groups list, after some of it was listed
pub group-more : (f g : FaultsView) (is_own is_taken others : List ℕ → Bool) (ls ms : List ListedShot)
    → g ≡ with_faults f (group_faults f is_own is_taken ls) → others ≡ taken_after is_taken ls
    → with_faults g (group_faults g is_own others ms) ≡ with_faults f (group_faults f is_own is_taken (ls ++ ms))
group-more f g is_own is_taken others ls ms is taken = search (rules, with-more, map-append, misplaced-append)

-- a fault if something is wrong with a name, as one of the names with which something is wrong
pub fault-kept : (wrong : Bool) (text : List ℕ) (w : WrittenName)
    → fault_if wrong Name text w ≡ map (name_fault text) (kept_if wrong w [])
fault-kept x1 text w = search rules
