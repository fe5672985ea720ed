-- What the entries of shots and of their groups say.
use Rattle.std.specs.Prelude.{ℕ, ◌-◌, Bool, true, false, List, [], ◌∷◌, ◌++◌, length, map, Option, None, Some, codes}
use Rattle.std.specs.List.{flat_map}
use Rattle.mpf_values.specs.Events.{Event}
use Rattle.mpf_sections.specs.Rows.{WrittenName, Shot, ShotGroup}
use Rattle.machine_definitions.specs.Shots.{Profile}
use Rattle.plan_tables.specs.declared.devices.{Act.{Act, TheVariants.{RotateRight, RotateLeft}}, Settings.Settings}
use Rattle.plan_tables.specs.declared.devices.Act.TheVariants.{Reset, Hit, Advance, ResetShot, EnableShot, DisableShot}
use Rattle.plan_tables.specs.declared.devices.Settings.TheVariants as kinds
use Rattle.plan_parts.specs.{Effects.{Effect, posts}, DeviceEntries.{Device, always, acts, texts}}
use Rattle.plan_rows.specs.Members.{is_enabled, flags, Members}

-- ---- effect lists

-- what a shot posts in a state: its name, with those of its profile and of the state
abbrev pub shot_events : List ℕ → List ℕ → List ℕ → List (List ℕ)
shot_events name profile state =
    (name ++ codes "_hit")
    ∷ (name ++ codes "_" ++ profile ++ codes "_hit")
    ∷ (name ++ codes "_" ++ profile ++ codes "_" ++ state ++ codes "_hit")
    ∷ (name ++ codes "_" ++ state ++ codes "_hit")
    ∷ []

-- the effect lists of a shot, one for each state of its profile
abbrev pub shot_lists : Profile → List ℕ → List (List Effect)
shot_lists p name = map (λ state. map posts (shot_events name p.name state)) p.states

-- what a group posts in a state, with one ending when a shot of it is hit, and with another when all its shots have
-- come to the state
abbrev pub group_events : List ℕ → List ℕ → List ℕ → List (List ℕ)
group_events ending name state = (name ++ ending) ∷ (name ++ codes "_" ++ state ++ ending) ∷ []

abbrev pub state_lists : List ℕ → Profile → List ℕ → List (List Effect)
state_lists ending p name = map (λ state. map posts (group_events ending name state)) p.states

-- the effect lists of a group: of each of its shots, and its own
abbrev pub group_lists : Profile → List ℕ → List (List ℕ) → List (List Effect)
group_lists p name shots =
    flat_map (shot_lists p) shots ++ state_lists (codes "_hit") p name ++ state_lists (codes "_complete") p name

-- ---- events

-- a switch hits its shot when it becomes active
abbrev pub switch_hits : Act → Option WrittenName → List (Event × Act)
switch_hits hit None = []
switch_hits hit (Some w) = (always (w.text ++ codes "_active"), hit) ∷ []

-- what acts on the shot of this number in its bank, in the order of the section's table
abbrev pub shot_acts : ℕ → Shot → List (Event × Act)
shot_acts i s =
    switch_hits (Hit i) s.switch
    ++ acts (Hit i) s.hits
    ++ acts (Advance i) s.advances
    ++ acts (ResetShot i) s.resets
    ++ acts (EnableShot i) s.enables
    ++ acts (DisableShot i) s.disables

-- what acts on a group
abbrev pub group_acts : ShotGroup → List (Event × Act)
group_acts g = acts RotateRight g.rotates ++ acts RotateRight g.rotates_right ++ acts RotateLeft g.rotates_left
    ++ acts Reset g.resets

-- ---- devices

abbrev pub bank_settings : Profile → ℕ → List Bool → Bool → Settings
bank_settings p shots enabled group = kinds.Bank (record {
  shots = shots;
  enabled = enabled;
  last_state = length p.states - 1;
  advance_on_hit = p.advance_on_hit;
  loops = p.loops;
  group = group;
})

-- a shot that is in no group: a bank of one
abbrev pub lone_device : Profile → Shot → Device
lone_device p s = record {
  settings = bank_settings p 1 (flags (is_enabled s ∷ [])) false;
  listens = [];
  event_acts = shot_acts 0 s;
  other_mentions = [];
  lists = shot_lists p s.name.text;
}

abbrev pub group_device : ShotGroup → Members → Device
group_device g m = record {
  settings = bank_settings m.profile (length g.shots) m.enabled true;
  listens = [];
  event_acts = group_acts g;
  other_mentions = [];
  lists = group_lists m.profile g.name.text (texts g.shots);
}
