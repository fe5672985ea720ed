-- What holds of shots and of groups of them: of what acts on them, of their effect lists and settings, and of the
-- profiles that are found by name.
use Rattle.std.proofs.Common.{rules, ◌≡◌, ℕ, ◌≤◌, Bool, if◌then◌else◌, List, [], ◌∷◌, ◌++◌, length, map, refl, arith}
use Rattle.std.proofs.{Common.{codes, length-append}, lemmas.List.{length-map, length-replicate, length-take-le}}
use Rattle.std.specs.{Prelude.{Option, None, Some, IfSome, fold}, Str.bytes_eq, List.{All, flat_map}}
use Rattle.std.proofs.lemmas.List.Elements.{All-nil, All-cons, All-tail, All-append, All-map, All-weaker}
use Rattle.mpf_values.{specs.Events.Event, proofs.NameTexts.IsName-from_is_name}
use Rattle.mpf_sections.specs.Rows.{WrittenName, HandledEvent, Shot, ShotGroup, ShotProfile, SectionRows}
use Rattle.mpf_sections.specs.{Named.{IsName, IsNamedShotProfile, IsNamed}, TypedShots.shot_profiles_in}
use Rattle.mpf_tables.proofs.TableNames.{default_profile_named}
use Rattle.mpf_sections.proofs.ShotRows.{shot_profiles_named, shot_profiles_short}
use Rattle.mpf_config.specs.{Rows.{ModeRows, Rows}, Named.IsNamedMode}
use Rattle.machine_definitions.specs.Shots.{all_sections, shot_called, Profile, profile_of, standard_profile}
use Rattle.machine_definitions.specs.Shots.{latest_profile, profile_called, profile_of_name}
use Rattle.plan_tables.specs.Devices.{IsWithinLimits}
use Rattle.plan_tables.specs.declared.devices.Act.{Act, TheVariants.{Hit, Advance, ResetShot, EnableShot, DisableShot}}
use Rattle.plan_parts.specs.{Effects.{Effect, posts}, DeviceEntries.{always, acts}, PartBounds.IsFew}
use Rattle.plan_parts.{proofs.WordFacts.All-every, specs.ShotEntries.{shot_acts, group_acts, bank_settings}}
use Rattle.plan_parts.specs.ShotEntries.{shot_events, shot_lists, group_events, state_lists, group_lists, switch_hits}
use Rattle.plan_rows.specs.Members.{flags, Members, profile_if, first_profile, members_of}
use Rattle.yaml_bytes.proofs.Each.{or_else, All-flat_map}

-- ---- what acts on them

-- what holds of the event of a shot's switch, and of each event that is handled, holds of all events that act on it
module _ (Q : Event → Type 0) where
  abbrev pub OfEvent : Event × Act → Type 0
  OfEvent x = Q x.0

  abbrev pub OfHandled : HandledEvent → Type 0
  OfHandled h = Q h.event

  abbrev pub OfSwitch : WrittenName → Type 0
  OfSwitch w = Q (always (w.text ++ codes "_active"))

  all_acts : (act : Act) (hs : List HandledEvent) → All OfHandled hs → All OfEvent (acts act hs)
  all_acts act hs h = All-map OfEvent (λ (w : HandledEvent). (w.event, act)) hs h

  all_hits : (hit : Act) (switch : Option WrittenName) → IfSome switch OfSwitch → All OfEvent (switch_hits hit switch)
  all_hits hit x2 h = search rules

  pub all_shot_acts : (i : ℕ) (s : Shot) → IfSome s.switch OfSwitch → All OfHandled s.hits → All OfHandled s.advances
      → All OfHandled s.resets → All OfHandled s.enables → All OfHandled s.disables → All OfEvent (shot_acts i s)
  all_shot_acts i s switch hits advances resets enables disables =
      let first = switch_hits (Hit i) s.switch in
      let hitting = acts (Hit i) s.hits in
      let advancing = acts (Advance i) s.advances in
      let resetting = acts (ResetShot i) s.resets in
      let enabling = acts (EnableShot i) s.enables in
      let disabling = acts (DisableShot i) s.disables in
      All-append OfEvent (first ++ hitting ++ advancing ++ resetting ++ enabling) disabling
      (All-append OfEvent (first ++ hitting ++ advancing ++ resetting) enabling
      (All-append OfEvent (first ++ hitting ++ advancing) resetting
      (All-append OfEvent (first ++ hitting) advancing
      (All-append OfEvent first hitting (all_hits (Hit i) s.switch switch) (all_acts (Hit i) s.hits hits))
      (all_acts (Advance i) s.advances advances))
      (all_acts (ResetShot i) s.resets resets))
      (all_acts (EnableShot i) s.enables enables))
      (all_acts (DisableShot i) s.disables disables)

  pub all_group_acts : (g : ShotGroup) → All OfHandled g.rotates → All OfHandled g.rotates_right
      → All OfHandled g.rotates_left → All OfHandled g.resets → All OfEvent (group_acts g)
  all_group_acts g rotates right left resets = search (rules, All-append, all_acts)

-- ---- effect lists

-- what holds of the posts in each state holds of each effect list
module _ (Q : List Effect → Type 0) (p : Profile) where
  abbrev pub InEachState : (List ℕ → List (List ℕ)) → Type 0
  InEachState es = All (λ state. Q (map posts (es state))) p.states

  pub all_shot_lists : (name : List ℕ) → InEachState (shot_events name p.name) → All Q (shot_lists p name)
  all_shot_lists name h = All-map Q (λ state. map posts (shot_events name p.name state)) p.states h

  all_state_lists : (ending name : List ℕ) → InEachState (group_events ending name)
      → All Q (state_lists ending p name)
  all_state_lists ending name h = All-map Q (λ state. map posts (group_events ending name state)) p.states h

  pub all_group_lists : (name : List ℕ) (shots : List (List ℕ))
      → All (λ own. InEachState (shot_events own p.name)) shots → InEachState (group_events (codes "_hit") name)
      → InEachState (group_events (codes "_complete") name)
      → All Q (group_lists p name shots)
  all_group_lists name shots each hit complete =
      search (rules, All-append, All-flat_map, all_shot_lists, all_state_lists)

-- each of their effects is a post
module _ (R : Effect → Type 0) (posted : (n : List ℕ) → R (posts n)) (p : Profile) where
  all_posted : (ns : List (List ℕ)) → All R (map posts ns)
  all_posted ns = All-map R posts ns (All-every (λ n. R (posts n)) posted ns)

  in_each : (es : List ℕ → List (List ℕ)) → InEachState (All R) p es
  in_each es = All-every (λ state. All R (map posts (es state))) (λ state. all_posted (es state)) p.states

  pub posts_of_shot : (name : List ℕ) → All (All R) (shot_lists p name)
  posts_of_shot name = all_shot_lists (All R) p name (in_each (shot_events name p.name))

  pub posts_of_group : (name : List ℕ) (shots : List (List ℕ)) → All (All R) (group_lists p name shots)
  posts_of_group name shots =
      all_group_lists (All R) p name shots
      (All-every (λ own. InEachState (All R) p (shot_events own p.name)) (λ own. in_each (shot_events own p.name))
      shots) (in_each (group_events (codes "_hit") name))
      (in_each (group_events (codes "_complete") name))

-- and has few of them
module _ (p : Profile) where
  few_of_shot : (name : List ℕ) → InEachState IsFew p (shot_events name p.name)
  few_of_shot name =
      All-every (λ state. IsFew (map posts (shot_events name p.name state))) (λ state. omega arith) p.states

  few_of_state : (ending name : List ℕ) → InEachState IsFew p (group_events ending name)
  few_of_state ending name =
      All-every (λ state. IsFew (map posts (group_events ending name state))) (λ state. omega arith) p.states

  pub shot_lists_few : (name : List ℕ) → All IsFew (shot_lists p name)
  shot_lists_few name = all_shot_lists IsFew p name (few_of_shot name)

  pub group_lists_few : (name : List ℕ) (shots : List (List ℕ)) → All IsFew (group_lists p name shots)
  group_lists_few name shots = search (rules, all_group_lists, All-every, few_of_shot, few_of_state)

-- ---- settings

-- a profile has at most 16 states
abbrev pub IsShortProfile : Profile → Type 0
IsShortProfile p = length p.states ≤ 16

-- a group has at most 16 shots, and there is a flag for each of 16
pub record IsShortGroup (g : ShotGroup) (m : Members) : Type 0 where
  pub shots : length g.shots ≤ 16
  pub states : IsShortProfile m.profile
  pub enabled : length m.enabled ≡ 16

pub flags_of : (bs : List Bool) → length (flags bs) ≡ 16
flags_of bs = search (rules, length-take-le, length-append, length-replicate)

pub bank_within : (p : Profile) (shots : ℕ) (enabled : List Bool) (group : Bool) → shots ≤ 16 → IsShortProfile p
    → length enabled ≡ 16 → IsWithinLimits (bank_settings p shots enabled group)
bank_within p shots enabled group few short same = (few, omega (arith, short), same)

-- ---- profiles

-- the names of a profile and of its states are names
pub record IsNamedProfile (p : Profile) : Type 0 where
  pub name : IsName p.name
  pub states : All IsName p.states

profile_of_named : (p : ShotProfile) → IsNamedShotProfile p → IsNamedProfile (profile_of p)
profile_of_named p h = record { name = h.name; states = All-map IsName (λ (w : WrittenName). w.text) p.states h.states }

standard_named : IsNamedProfile standard_profile
standard_named = record {
  name = default_profile_named;
  states =
      All-cons IsName (codes "unlit") (codes "lit" ∷ []) (IsName-from_is_name (codes "unlit") refl)
      (All-cons IsName (codes "lit") [] (IsName-from_is_name (codes "lit") refl) (All-nil IsName));
}

-- what holds of the standard profile, and of all profiles of sections, holds of each that is found
module _ (Q : Profile → Type 0) (standard : Q standard_profile) where
  latest_such : (name : List ℕ) (ps : List Profile) (found : Option Profile) → IfSome found Q → All Q ps
      → IfSome (fold (latest_profile name) found ps) Q
  latest_such name [] found h all = h
  latest_such name (p ∷ ps) found h all =
      latest_such name ps (latest_profile name found p) (by (bytes_eq name p.name)) (All-tail Q p ps all)
    where
      by : (b : Bool) → IfSome (if b then Some p else found) Q
      by x1 = search rules

  abbrev pub InSection : SectionRows → Type 0
  InSection s = All (λ p. Q (profile_of p)) (shot_profiles_in s)

  module _ (rows : Rows) (all : All InSection (all_sections rows)) where
    pub found_such : (name : List ℕ) → Q (profile_of_name rows name)
    found_such name =
        let written = flat_map shot_profiles_in (all_sections rows) in
        or_else Q (profile_called rows name) standard_profile
        (latest_such name (map profile_of written) None tt
        (All-map Q profile_of written (All-flat_map (λ p. Q (profile_of p)) shot_profiles_in (all_sections rows)
        all))) standard

    found_if : (o : Option Shot) → Q (profile_if rows o)
    found_if x1 = search (rules, found_such)

    pub first_such : (ws : List WrittenName) → Q (first_profile rows ws)
    first_such [] = found_if None
    first_such (w ∷ ws) = found_if (shot_called rows w.text)

-- so each that is found has names
module _ (rows : Rows) (machine : All IsNamed rows.machine) (modes : All IsNamedMode rows.modes) where
  all_named : All (InSection IsNamedProfile standard_named) (all_sections rows)
  all_named =
      All-weaker IsNamed (InSection IsNamedProfile standard_named) named (all_sections rows)
      (All-append IsNamed rows.machine (flat_map (λ (m : ModeRows). m.sections) rows.modes) machine
      (All-flat_map IsNamed (λ (m : ModeRows). m.sections) rows.modes
      (All-weaker IsNamedMode (λ m. All IsNamed m.sections) (λ m h. h.sections) rows.modes modes)))
    where
      named : (s : SectionRows) → IsNamed s → InSection IsNamedProfile standard_named s
      named s h =
          All-weaker IsNamedShotProfile (λ p. IsNamedProfile (profile_of p)) profile_of_named (shot_profiles_in s)
          (shot_profiles_named s h)

  pub profile_named : (name : List ℕ) → IsNamedProfile (profile_of_name rows name)
  profile_named name = found_such IsNamedProfile standard_named rows all_named name

  pub members_named : (g : ShotGroup) → IsNamedProfile (members_of rows g).profile
  members_named g = first_such IsNamedProfile standard_named rows all_named g.shots

-- and few states
module _ (rows : Rows) where
  standard_short : IsShortProfile standard_profile
  standard_short = omega arith

  all_short : All (InSection IsShortProfile standard_short) (all_sections rows)
  all_short = All-every (InSection IsShortProfile standard_short) in_section (all_sections rows)
    where
      in_section : (s : SectionRows) → InSection IsShortProfile standard_short s
      in_section s =
          All-weaker (λ (p : ShotProfile). length p.states ≤ 16) (λ p. IsShortProfile (profile_of p))
          (λ p few. omega (arith, few, length-map p.states (λ (w : WrittenName). w.text))) (shot_profiles_in s)
          (shot_profiles_short s)

  pub profile_short : (name : List ℕ) → IsShortProfile (profile_of_name rows name)
  profile_short name = found_such IsShortProfile standard_short rows all_short name

  -- a group is short if it has few shots
  pub members_short : (g : ShotGroup) → length g.shots ≤ 16 → IsShortGroup g (members_of rows g)
  members_short g few =
      record {
        shots = few;
        states = first_such IsShortProfile standard_short rows all_short g.shots;
        enabled = flags_of _;
      }
