-- What an entry gives, by the name of its section.
use Rattle.std.proofs.Common.{◌≡◌, ◌≤◌, true, false, ℕ, Option, None, Some, List, [], ◌∷◌, length, map, refl, sym, ap}
use Rattle.std.{proofs.Common.◌∙◌, specs.{Prelude.slice_get, Str.bytes_eq}}
use Rattle.mpf_sections.{specs.Rows.{Entry, PlayerEntry, Shot, SectionRows}, proofs.ShotRows.few_short}
use Rattle.mpf_sections.specs.{TypedBalls.ball_device_of, CoilRules.{CoilRule, coil_rule_of}}
use Rattle.mpf_sections.specs.Typed.{switches_name, event_player_name, switch_of, event_player_of, listed_names}
use Rattle.mpf_sections.specs.TypedGame.{variable_player_name, variable_player_of}
use Rattle.machine_definitions.specs.Shots.{Profile}
use Rattle.plan_rows.specs.Seats.{Seat}
use Rattle.mpf_sections.specs.TypedCoils.{coils_name, coil_player_name, coil_of, coil_player_of}
use Rattle.plan_parts.specs.{Effects.posts, VariableEntries.item_change}
use Rattle.plan_parts.specs.CoilEntries.{item_effect, coil_rule_device, rule_device_of}
use Rattle.plan_parts.specs.Parts.{Whose, Part, texts, device, handler, run, where_some, first_of, device_of}
use Rattle.plan_parts.specs.Parts.{machine_device, coil_part, switch_part, machine_entry_parts, player_parts, with_seat}

module _ (machine : List SectionRows) (section : List ℕ) where
  module _ (e : Entry) (whose : Whose) where
    pub coil_there : bytes_eq section coils_name ≡ true
        → coil_part machine whose (coil_of e) ∷ [] ≡ machine_entry_parts machine whose section e
    unfolding machine_entry_parts
    coil_there is = rw is refl

    module _ (no_coil : bytes_eq section coils_name ≡ false) where
      pub switch_there : bytes_eq section switches_name ≡ true
          → switch_part machine whose (switch_of e) ∷ [] ≡ machine_entry_parts machine whose section e
      unfolding machine_entry_parts
      switch_there is = rw (no_coil, is) refl

      module _ (no_switch : bytes_eq section switches_name ≡ false) where
        machine_device_there : where_some (device whose) (machine_device machine whose section e)
            ≡ machine_entry_parts machine whose section e
        unfolding machine_entry_parts
        machine_device_there = rw (no_coil, no_switch) refl

        abbrev given_by : Option CoilRule → List Part
        given_by rule = where_some (device whose) (first_of (rule_device_of machine rule) (device_of section e))

        pub rule_there : (r : CoilRule) → Some r ≡ coil_rule_of section e
            → device whose (coil_rule_device machine r) ∷ [] ≡ machine_entry_parts machine whose section e
        rule_there r is = ap given_by is ∙ machine_device_there

        pub device_there : None ≡ coil_rule_of section e
            → where_some (device whose) (device_of section e) ≡ machine_entry_parts machine whose section e
        device_there is = ap given_by is ∙ machine_device_there

  module _ (p : PlayerEntry) (whose : Whose) where
    pub event_player_there : bytes_eq section event_player_name ≡ true
        → handler whose (event_player_of p).event.event (run (map posts (texts (event_player_of p).posts))) ∷ []
        ≡ player_parts machine whose section p
    unfolding player_parts
    event_player_there is = rw is refl

    module _ (no_events : bytes_eq section event_player_name ≡ false) where
      pub coil_player_there : bytes_eq section coil_player_name ≡ true
          → handler whose (coil_player_of p).event.event (run (map (item_effect machine) (coil_player_of p).items)) ∷ []
          ≡ player_parts machine whose section p
      unfolding player_parts
      coil_player_there is = rw (no_events, is) refl

      module _ (no_coils : bytes_eq section coil_player_name ≡ false) where
        pub variable_player_there : bytes_eq section variable_player_name ≡ true
            → handler whose (variable_player_of p).event.event (run (map item_change (variable_player_of p).items)) ∷ []
            ≡ player_parts machine whose section p
        unfolding player_parts
        variable_player_there is = rw (no_events, no_coils, is) refl

        pub no_player_there : bytes_eq section variable_player_name ≡ false
            → player_parts machine whose section p ≡ []
        unfolding player_parts
        no_player_there is = rw (no_events, no_coils, is) refl

-- a shot needs nothing of the machine text
pub seated_same : (a b : List SectionRows) (whose : Whose) (p : Profile) (s : Shot) (seat : Option Seat)
    → with_seat a whose p s seat ≡ with_seat b whose p s seat
seated_same a b whose p s None = refl
seated_same a b whose p s (Some seat) = refl

-- a ball device has at most 16 ball switches
pub ball_device_few : (e : Entry) → length (ball_device_of e).switches ≤ 16
unfolding ball_device_of
ball_device_few e = few_short (listed_names (slice_get e.values 0))
