-- The modes of the plan of parts are those of the rows, in order.
use Rattle.std.proofs.{Common.{◌≡◌, List, [], ◌∷◌, length, map, refl, ◌∙◌, ap}, lemmas.List.length-map}
use Rattle.std.specs.List.{flat_map}
use Rattle.mpf_config.specs.Rows.{ModeRows, Rows}
use Rattle.mpf_sections.specs.Typed.{mode_settings}
use Rattle.plan_tables.specs.{declared.entries.ModeEvent.ModeEvent, PlanView.{PlanMode, event_among}}
use Rattle.plan_tables.specs.declared.entries.ModeEvent.TheVariants.{WillStart, Starting, Started, Stopping, Stopped}
use Rattle.plan_parts.{specs.{Parts.{Part, mode, parts_of}, PartKinds.IsNoMode}, proofs.ModeFacts.modes_told}
use Rattle.mpf_plan.specs.{Uses.Names, PlanOf.{plan_mode, event_for, plan_by}}

-- this mode of the rows, in a plan with these names
abbrev pub mode_of : Names → ModeRows → PlanMode
mode_of names m = record {
  name = m.name;
  mode = record {
    priority = (mode_settings m.sections).priority;
    game = (mode_settings m.sections).game;
    holds_ball_end = (mode_settings m.sections).holds_ball_end;
    events = record {
      will_start = event_for names WillStart m.name;
      starting = event_for names Starting m.name;
      started = event_for names Started m.name;
      stopping = event_for names Stopping m.name;
      stopped = event_for names Stopped m.name;
    };
  };
}

module _ (names : Names) where
  -- an event of it
  pub made-event : (which : ModeEvent) (m : ModeRows)
      → event_among (mode_of names m).mode.events which ≡ event_for names which m.name
  made-event WillStart m = refl
  made-event Starting m = refl
  made-event Started m = refl
  made-event Stopping m = refl
  made-event Stopped m = refl

  quiet : (p : Part) → IsNoMode p → plan_mode names p ≡ []
  quiet (mode n s) is = absurd is
  quiet _ is = refl

  each_one : (ms : List ModeRows)
      → flat_map (λ m. plan_mode names (mode m.name (mode_settings m.sections))) ms ≡ map (mode_of names) ms
  each_one [] = refl
  each_one (m ∷ ms) = ap (λ l. mode_of names m ∷ l) (each_one ms)

  modes_in : (rows : Rows) → flat_map (plan_mode names) (parts_of rows) ≡ map (mode_of names) rows.modes
  modes_in rows = modes_told (plan_mode names) quiet rows ∙ each_one rows.modes

  pub modes-made : (rows : Rows) → (plan_by names (parts_of rows)).modes ≡ map (mode_of names) rows.modes
  unfolding plan_by
  modes-made rows = modes_in rows

  pub modes-count : (rows : Rows) → length (plan_by names (parts_of rows)).modes ≡ length rows.modes
  modes-count rows = ap length (modes-made rows) ∙ length-map rows.modes (mode_of names)
