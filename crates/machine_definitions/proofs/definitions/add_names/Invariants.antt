use Rattle.std.proofs.Common.{◌≡◌, ◌||◌, ℕ, List, drop}
use Rattle.machine_definitions.specs.Found.{is_found, is_named_at}
use Rattle.machine_definitions.proofs.definitions.add_names.Given as goal

abbrev pub invariant-loop-entry : goal.invariant-loop-entry
invariant-loop-entry l =
    (name : List ℕ) → (is_found l.names name || is_named_at l.at (drop l.entry-index l.entries) name)
    ≡ (is_found l.initial.names name || is_named_at l.at l.entries name)
