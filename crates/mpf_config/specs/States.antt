-- What it means that each profile of shots in the rows of a bundle has a state.
use Rattle.std.specs.{Prelude.{◌≤◌, length}, List.All}
use Rattle.mpf_sections.specs.{Rows.{ShotProfile, SectionRows}, TypedShots.shot_profiles_in}
use Rattle.mpf_config.specs.Rows.{ModeRows, Rows}

abbrev pub HasState : ShotProfile → Type 0
HasState p = 1 ≤ length p.states

-- each profile in a section has one
abbrev pub HasStatesSection : SectionRows → Type 0
HasStatesSection s = All HasState (shot_profiles_in s)

abbrev pub HasStatesMode : ModeRows → Type 0
HasStatesMode m = All HasStatesSection m.sections

abbrev pub HaveStates : Rows → Type 0
HaveStates rows = All HasStatesSection rows.machine × All HasStatesMode rows.modes
