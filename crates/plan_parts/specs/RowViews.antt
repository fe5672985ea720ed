-- What the parts of a row hold, as the program has them; and the walk over the rows.
use Rattle.std.specs.Prelude.{ℕ, suc, ◌≡◌, Bool, false, if◌then◌else◌, List, [], ◌∷◌, ◌++◌, map, None, option_map}
use Rattle.std.specs.{List.flat_map, Borrow.Bor}
use Rattle.mpf_values.specs.Events.{Event}
use Rattle.mpf_sections.specs.{Rows.SectionRows, View.mode_settings_view}
use Rattle.setting_values.specs.View.{guard_view}
use Rattle.plan_tables.specs.declared.devices.{Act.Act, Settings.Settings}
use Rattle.plan_tables.specs.declared.{entries.ModeId.ModeId, table.Table.TheVariants.Switches}
use Rattle.plan_rows.specs.Rows.{Row, of_mode}
use Rattle.plan_parts.specs.{declared.names.NamePieces.NamePieces, View.pieces_text, Devices.always}
use Rattle.plan_parts.specs.declared.row_parts.ModeControl.{ModeControl, TheVariants.{Start, Stop}}
use Rattle.plan_parts.specs.declared.row_parts.Whose as held_whose
use Rattle.plan_parts.specs.declared.row_parts.RowText as held_text
use Rattle.plan_parts.specs.declared.row_parts.HandledName as held
use Rattle.plan_parts.specs.declared.row_parts.RowHead as heads
use Rattle.plan_parts.specs.declared.row_parts.RowHead.TheVariants as kinds
use Rattle.plan_parts.specs.declared.row_parts.RowParts as rows
use Rattle.plan_parts.specs.Parts.{Whose, Part, run, start, stop, act_on, switch, coil, game, mode, handler, device}
use Rattle.plan_parts.specs.Parts.{mention, unknown, where_some, own, of_the_mode, mode_parts, row_parts}

-- ---- what fields hold

abbrev pub whose_view : held_whose.Whose → Whose
whose_view w = record { owner = w.owner; priority = w.priority }

-- an event that is handled, with its condition
abbrev pub handled_event_view : held.HandledName → Event
handled_event_view h = record { name = pieces_text h.event; condition = option_map (λ g. guard_view g.now) h.condition }

abbrev pub acts_view : List (held.HandledName × Act) → List (Event × Act)
acts_view hs = map (λ h. (handled_event_view h.0, h.1)) hs

abbrev pub controls_view : List (held.HandledName × ModeControl) → List (Event × ModeControl)
controls_view hs = map (λ h. (handled_event_view h.0, h.1)) hs

abbrev pub names_view : List NamePieces → List (List ℕ)
names_view ns = map pieces_text ns

abbrev pub bytes_view : List (Bor (List ℕ)) → List (List ℕ)
bytes_view ns = map (λ n. n.now) ns

-- ---- controls

-- an event does this with a mode; and the event of this name stops it, if this holds
abbrev pub controlled_by : ModeControl → Event → Event × ModeControl
controlled_by control e = (e, control)

abbrev pub stops_where : Bool → List ℕ → List (Event × ModeControl)
stops_where holds name = if holds then (always name, Stop) ∷ [] else []

-- what starts and stops the mode of this number
abbrev pub control_part : Whose → ModeId → Event × ModeControl → Part
control_part whose m (e, Start) = handler whose e (start m)
control_part whose m (e, Stop) = handler whose e (stop m)

abbrev pub control_parts : Whose → ModeId → List (Event × ModeControl) → List Part
control_parts whose m controls = map (control_part whose m) controls

-- ---- the parts of a row

-- the device in a row, with these settings
abbrev pub device_in : rows.RowParts → Settings → Part
device_in r settings = device (whose_view r.whose) (record {
  settings = settings;
  listens = bytes_view r.listens.items;
  event_acts = acts_view r.event_acts.items;
  other_mentions = names_view r.other_mentions.items;
  lists = r.lists;
})

-- the parts of its head
abbrev pub parts_by : rows.RowParts → heads.RowHead → List Part
parts_by r kinds.Nothing = []
parts_by r (kinds.Switch name kind confirms) =
    switch name.now kind confirms (names_view r.active.items) (names_view r.inactive.items) ∷ []
parts_by r (kinds.Coil name limits) = coil name.now limits ∷ []
parts_by r (kinds.Game min_balls balls_per_game max_players) = game min_balls balls_per_game max_players ∷ []
parts_by r (kinds.Mode m name settings) =
    mode name.now (mode_settings_view settings) ∷ control_parts (whose_view r.whose) m (controls_view r.controls.items)
parts_by r (kinds.Handler h) = handler (whose_view r.whose) (handled_event_view h) (run (flat_map (λ es. es) r.lists))
    ∷ []
parts_by r (kinds.Device settings) = device_in r settings ∷ []
parts_by r (kinds.Seat row) =
    map (λ h. handler (whose_view r.whose) h.0 (act_on (record { 0 = row }) h.1)) (acts_view r.event_acts.items)

abbrev pub head_parts : rows.RowParts → List Part
head_parts r = parts_by r r.head

-- all its parts
abbrev pub parts_in : rows.RowParts → List Part
parts_in r =
    (if r.unknown then unknown ∷ [] else [])
    ++ where_some (λ n. mention Switches n.now) r.mention
    ++ head_parts r

-- there is nothing yet, and what comes has this owner and priority
pub record AreNoParts (whose : Whose) (r : rows.RowParts) : Type 0 where
  pub known : r.unknown ≡ false
  pub mentions : r.mention ≡ None
  pub head : r.head ≡ kinds.Nothing
  pub of : whose_view r.whose ≡ whose
  pub active : r.active.items ≡ []
  pub inactive : r.inactive.items ≡ []
  pub controls : r.controls.items ≡ []
  pub listens : r.listens.items ≡ []
  pub event_acts : r.event_acts.items ≡ []
  pub other_mentions : r.other_mentions.items ≡ []
  pub lists : r.lists ≡ []

-- ---- the walk over the rows

-- the text that a row is in: whose it is, and how many modes come before the row
pub record TextView : Type 0 where
  pub whose : Whose
  pub modes : ℕ

abbrev pub text_view : held_text.RowText → TextView
text_view t = record { whose = whose_view t.whose; modes = t.modes }

abbrev pub machine_text : TextView
machine_text = record { whose = own; modes = 0 }

abbrev pub text_after : Row → TextView → TextView
text_after (of_mode name s) t = record { whose = of_the_mode (record { 0 = t.modes }) s; modes = suc t.modes }
text_after _ t = t

-- what a row of this text gives; and what rows give, if this is the text of the first of them
abbrev pub parts_at : List SectionRows → TextView → Row → List Part
parts_at machine t (of_mode name s) = mode_parts (record { 0 = t.modes }) name s
parts_at machine t row = row_parts machine t.whose row

abbrev pub parts_from : List SectionRows → TextView → List Row → List Part
parts_from machine t [] = []
parts_from machine t (row ∷ rows) = parts_at machine t row ++ parts_from machine (text_after row t) rows
