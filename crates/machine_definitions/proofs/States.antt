-- Each profile of shots in the rows of a bundle has a state exactly if each in all its sections has one.
use Rattle.std.{proofs.{Common.List, lemmas.List.Elements.All-append}, specs.List.{All, flat_map}}
use Rattle.yaml_bytes.proofs.Each.{All-parts, All-flat_map, All-from_flat_map}
use Rattle.mpf_sections.specs.Rows.{SectionRows}
use Rattle.mpf_config.specs.{Rows.{ModeRows, Rows}, States.{HasStatesSection, HaveStates}}
use Rattle.machine_definitions.specs.Shots.{all_sections}

abbrev sections_in : ModeRows → List SectionRows
sections_in m = m.sections

pub sections_have_states : (rows : Rows) → HaveStates rows → All HasStatesSection (all_sections rows)
sections_have_states rows h =
    let of_modes = All-flat_map HasStatesSection sections_in rows.modes h.1 in
    All-append HasStatesSection rows.machine (flat_map sections_in rows.modes) h.0 of_modes

pub rows_have_states : (rows : Rows) → All HasStatesSection (all_sections rows) → HaveStates rows
rows_have_states rows h =
    let both = All-parts HasStatesSection rows.machine (flat_map sections_in rows.modes) h in
    (both.0, All-from_flat_map HasStatesSection sections_in rows.modes both.1)
