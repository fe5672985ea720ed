use Rattle.std.proofs.Common.{◌≡◌, drop}
use Rattle.mpf_config.specs.Gives.{entries_of_sections}
use Rattle.mpf_config.proofs.taken.have_entries.Given as goal

-- the sections so far have no entries
abbrev pub invariant-loop-section : goal.invariant-loop-section
invariant-loop-section l = entries_of_sections (drop l.section-index l.sections) ≡ entries_of_sections l.sections
