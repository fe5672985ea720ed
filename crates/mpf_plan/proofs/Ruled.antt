-- Parts that name events alone: the game, and a mode.
use Rattle.std.proofs.Common.{rules, ◌≡◌, ℕ, ◌+◌, ◌≤◌, List, [], ◌∷◌, ◌++◌, length, map, refl, sym, ap, ap₂, ◌∙◌, subst}
use Rattle.std.proofs.{Common.{append-nil, arith, Option, Some}, lemmas.List.{length_push, map-append}}
use Rattle.machine_definitions.specs.GameEvents.{game_event_names}
use Rattle.mpf_sections.specs.Rows.{ModeSettings}
use Rattle.plan_tables.specs.declared.table.Table.{Table, TheVariants.{Events, Switches, Coils}}
use Rattle.plan_tables.specs.declared.entries.{EventId.EventId, GameRules.GameRules}
use Rattle.plan_tables.specs.declared.entries.{ModeEntry.ModeEntry, ModeEvents.ModeEvents}
use Rattle.plan_tables.specs.{PlanView.PlanMode, PlanFields.{action_lists, mode_entry_view}}
use Rattle.plan_parts.specs.Parts.{Part, game, mode}
use Rattle.mpf_plan.specs.{declared.draft.Draft.Draft, Uses.Names, ByNumber.event_of}
use Rattle.mpf_plan.specs.declared.names.Names as held_names
use Rattle.mpf_plan.specs.PlanOf.{Use, uses_of, part_uses, in_table, mode_event_names}
use Rattle.mpf_plan.specs.Drafting.{names_by, AreNamesOf, AreWithin, Notes, IsNumbered, mode_events_of, Adds}
use Rattle.mpf_plan.proofs.{Numbered.event_stays, Grown.{GainsPart, Grows, adds_one}, Bound.no_more_coils}
use Rattle.mpf_plan.proofs.Noted.{notes_more, numbered_front, numbered_back}
use Rattle.mpf_plan.proofs.Bound.{events_no_switches, events_no_coils, still_switches, still_coils, no_more_switches}

-- Nothing changes but names, modes and the game.
pub record KeepsOthers (old new : Draft) : Type 0 where
  pub switches : new.switches ≡ old.switches
  pub coils : new.coils ≡ old.coils
  pub lists : new.lists ≡ old.lists
  pub bindings : new.bindings ≡ old.bindings
  pub rows : new.rows ≡ old.rows
  pub row_lists : new.row_lists ≡ old.row_lists

-- ---- the game

module _ (a b : Draft) (min_balls balls_per_game max_players : ℕ) (events : List EventId)
    (notes : Notes a.names b.names (uses_of Events game_event_names))
    (numbered : IsNumbered a.names (uses_of Events game_event_names) (λ ns. map (event_of (ns Events)) game_event_names)
    events)
    (modes : b.modes ≡ a.modes)
    (game_is : b.game
    ≡ Some
    (record { min_balls = min_balls; balls_per_game = balls_per_game; max_players = max_players; events = events }))
    (keeps : KeepsOthers a b) where
  abbrev gp : Part
  gp = game min_balls balls_per_game max_players

  game_uses : part_uses gp ≡ uses_of Events game_event_names
  game_uses = append-nil (uses_of Events game_event_names)

  game_notes : Notes a.names b.names (part_uses gp)
  game_notes = subst (Notes a.names b.names) (sym game_uses) notes

  game_switches : in_table Switches (part_uses gp) ≡ []
  game_switches = ap (in_table Switches) game_uses ∙ events_no_switches game_event_names

  game_coils : in_table Coils (part_uses gp) ≡ []
  game_coils = ap (in_table Coils) game_uses ∙ events_no_coils game_event_names

  game_grows : Grows a b gp
  game_grows = record {
    names = game_notes;
    has_switches = λ us are within has. still_switches us (part_uses gp) a b are game_notes within game_switches
        keeps.switches has;
    has_coils = λ us are within has. still_coils us (part_uses gp) a b are game_notes within game_coils keeps.coils has;
    count_bindings = ap (λ v. length v.items) keeps.bindings ∙ omega arith;
    count_rows = ap (λ v. length v.items) keeps.rows ∙ omega arith;
    count_lists = ap (λ v. length v.items) keeps.lists ∙ omega arith;
    tables = λ us are within hass hasc kept few_rows few_lists. record {
      modes = ap (λ v. map mode_entry_view v.items) modes ∙ sym (append-nil (map mode_entry_view a.modes.items));
      switches = no_more_switches us (part_uses gp) a b are game_notes within game_switches keeps.switches;
      coils = no_more_coils us (part_uses gp) a b are game_notes within game_coils keeps.coils;
      lists = ap (λ v. action_lists v.items) keeps.lists ∙ sym (append-nil (action_lists a.lists.items));
      bindings = ap (λ v. v.items) keeps.bindings ∙ sym (append-nil a.bindings.items);
      rows = ap (λ v. v.items) keeps.rows ∙ sym (append-nil a.rows.items);
      row_lists = ap (λ v. v.items) keeps.row_lists ∙ sym (append-nil a.row_lists.items);
      game = game_is ∙ ap (λ es. Some (record
          { min_balls = min_balls; balls_per_game = balls_per_game; max_players = max_players; events = es }))
          (numbered us are (subst (λ vs. AreWithin (us ++ vs)) game_uses within)
          ∙ ap (λ vs. map (event_of (names_by (us ++ vs) Events)) game_event_names) (sym game_uses));
    };
  }

  pub adds_game : Adds a b (gp ∷ [])
  adds_game = adds_one a b gp game_grows

-- ---- a mode

module _ (a b : Draft) (name : List ℕ) (s : ModeSettings) (entry : ModeEntry)
    (notes : Notes a.names b.names (uses_of Events (mode_event_names name)))
    (numbered : IsNumbered a.names (uses_of Events (mode_event_names name)) (λ ns. mode_events_of ns name)
    entry.mode.events)
    (entered : mode_entry_view entry
    ≡ record {
      name = name;
      mode = record {
        priority = s.priority;
        game = s.game;
        holds_ball_end = s.holds_ball_end;
        events = entry.mode.events;
      };
    })
    (pushed : b.modes.items ≡ a.modes.items ++ entry ∷ []) (game_same : b.game ≡ a.game)
    (keeps : KeepsOthers a b) where
  abbrev mp : Part
  mp = mode name s

  abbrev mode_of : ModeEvents → PlanMode
  mode_of events =
      record {
        name = name;
        mode = record {
          priority = s.priority;
          game = s.game;
          holds_ball_end = s.holds_ball_end;
          events = events;
        };
      }

  mode_uses : part_uses mp ≡ uses_of Events (mode_event_names name)
  mode_uses = append-nil (uses_of Events (mode_event_names name))

  mode_notes : Notes a.names b.names (part_uses mp)
  mode_notes = subst (Notes a.names b.names) (sym mode_uses) notes

  mode_switches : in_table Switches (part_uses mp) ≡ []
  mode_switches = ap (in_table Switches) mode_uses ∙ events_no_switches (mode_event_names name)

  mode_coils : in_table Coils (part_uses mp) ≡ []
  mode_coils = ap (in_table Coils) mode_uses ∙ events_no_coils (mode_event_names name)

  mode_grows : Grows a b mp
  mode_grows = record {
    names = mode_notes;
    has_switches = λ us are within has. still_switches us (part_uses mp) a b are mode_notes within mode_switches
        keeps.switches has;
    has_coils = λ us are within has. still_coils us (part_uses mp) a b are mode_notes within mode_coils keeps.coils has;
    count_bindings = ap (λ v. length v.items) keeps.bindings ∙ omega arith;
    count_rows = ap (λ v. length v.items) keeps.rows ∙ omega arith;
    count_lists = ap (λ v. length v.items) keeps.lists ∙ omega arith;
    tables = λ us are within hass hasc kept few_rows few_lists. record {
      modes = ap (map mode_entry_view) pushed ∙ map-append mode_entry_view a.modes.items (entry ∷ [])
          ∙ ap (λ m. map mode_entry_view a.modes.items ++ m ∷ []) (entered
          ∙ ap mode_of (numbered us are (subst (λ vs. AreWithin (us ++ vs)) mode_uses within)
          ∙ ap (λ vs. mode_events_of (names_by (us ++ vs)) name) (sym mode_uses)));
      switches = no_more_switches us (part_uses mp) a b are mode_notes within mode_switches keeps.switches;
      coils = no_more_coils us (part_uses mp) a b are mode_notes within mode_coils keeps.coils;
      lists = ap (λ v. action_lists v.items) keeps.lists ∙ sym (append-nil (action_lists a.lists.items));
      bindings = ap (λ v. v.items) keeps.bindings ∙ sym (append-nil a.bindings.items);
      rows = ap (λ v. v.items) keeps.rows ∙ sym (append-nil a.rows.items);
      row_lists = ap (λ v. v.items) keeps.row_lists ∙ sym (append-nil a.row_lists.items);
      game = game_same;
    };
  }

  pub adds_mode : Adds a b (mp ∷ [])
  adds_mode = adds_one a b mp mode_grows

-- ---- five events

module _ (a b1 b2 b3 b4 b5 : held_names.Names) (e1 e2 e3 e4 e5 : List ℕ) (n1 : Notes a b1 ((Events, e1) ∷ []))
    (n2 : Notes b1 b2 ((Events, e2) ∷ []))
    (n3 : Notes b2 b3 ((Events, e3) ∷ [])) (n4 : Notes b3 b4 ((Events, e4) ∷ []))
    (n5 : Notes b4 b5 ((Events, e5) ∷ [])) where
  abbrev E : List ℕ → List Use
  E e = (Events, e) ∷ []

  two : Notes a b2 (E e1 ++ E e2)
  two = notes_more a b1 b2 (E e1) (E e2) n1 n2

  three : Notes a b3 ((E e1 ++ E e2) ++ E e3)
  three = notes_more a b2 b3 (E e1 ++ E e2) (E e3) two n3

  four : Notes a b4 (((E e1 ++ E e2) ++ E e3) ++ E e4)
  four = notes_more a b3 b4 ((E e1 ++ E e2) ++ E e3) (E e4) three n4

  pub five_notes : Notes a b5 (uses_of Events (e1 ∷ e2 ∷ e3 ∷ e4 ∷ e5 ∷ []))
  five_notes = notes_more a b4 b5 (((E e1 ++ E e2) ++ E e3) ++ E e4) (E e5) four n5

  abbrev of : List ℕ → Names → EventId
  of e ns = event_of (ns Events) e

  module _ (x1 x2 x3 x4 x5 : EventId) (i1 : IsNumbered a (E e1) (of e1) x1) (i2 : IsNumbered b1 (E e2) (of e2) x2)
      (i3 : IsNumbered b2 (E e3) (of e3) x3) (i4 : IsNumbered b3 (E e4) (of e4) x4)
      (i5 : IsNumbered b4 (E e5) (of e5) x5) where
    pub five_numbers : IsNumbered {X = ModeEvents} a (uses_of Events (e1 ∷ e2 ∷ e3 ∷ e4 ∷ e5 ∷ []))
        (λ ns.
        record {
          will_start = of e1 ns;
          starting = of e2 ns;
          started = of e3 ns;
          stopping = of e4 ns;
          stopped = of e5 ns;
        })
        (record { will_start = x1; starting = x2; started = x3; stopping = x4; stopped = x5 })
    five_numbers us are within =
        let p1 = numbered_front (of e1) x1 a (E e1) (uses_of Events (e2 ∷ e3 ∷ e4 ∷ e5 ∷ [])) (event_stays e1) i1 us are
        within in
        let p2 = numbered_back (of e2) x2 a b1 (E e1) (uses_of Events (e2 ∷ e3 ∷ e4 ∷ e5 ∷ [])) n1
        (numbered_front (of e2) x2 b1 (E e2) (uses_of Events (e3 ∷ e4 ∷ e5 ∷ [])) (event_stays e2) i2) us are within in
        let p3 = numbered_back (of e3) x3 a b2 (E e1 ++ E e2) (uses_of Events (e3 ∷ e4 ∷ e5 ∷ [])) two
        (numbered_front (of e3) x3 b2 (E e3) (uses_of Events (e4 ∷ e5 ∷ [])) (event_stays e3) i3) us are within in
        let p4 = numbered_back (of e4) x4 a b3 ((E e1 ++ E e2) ++ E e3) (uses_of Events (e4 ∷ e5 ∷ [])) three
        (numbered_front (of e4) x4 b3 (E e4) (E e5) (event_stays e4) i4) us are within in
        let p5 = numbered_back (of e5) x5 a b4 (((E e1 ++ E e2) ++ E e3) ++ E e4) (E e5) four i5 us are within in
        λ i. record { will_start = p1 i; starting = p2 i; started = p3 i; stopping = p4 i; stopped = p5 i }
