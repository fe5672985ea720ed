-- What the entries of ball saves and multiballs say.
use Rattle.std.specs.{Prelude.{ℕ, if◌then◌else◌, List, [], ◌∷◌, ◌++◌, Option, None, Some, codes}, Str.bytes_eq}
use Rattle.mpf_values.specs.Events.{Event}
use Rattle.mpf_sections.specs.Rows.{Entry, BallSaveEntry, MultiballEntry}
use Rattle.mpf_sections.specs.TypedSaves.{ball_saves_name, multiballs_name, ball_save_of, multiball_of}
use Rattle.plan_tables.specs.declared.devices.Act.{Act, TheVariants.{Enable, Disable, Start}}
use Rattle.plan_tables.specs.declared.devices.Settings.TheVariants as kinds
use Rattle.plan_parts.specs.{Effects.{Effect, posts, requests, adds_balls}, Devices.{Device, acts}}

-- ---- ball saves

-- an event of the ball save of this name
abbrev pub save_event : List ℕ → List ℕ → List ℕ
save_event name ending = codes "ball_save_" ++ name ++ ending

-- how the names of its events end, each at the number of its effect list
abbrev pub save_endings : List (List ℕ)
save_endings = codes "_enabled" ∷ codes "_disabled" ∷ codes "_saving_ball" ∷ []

-- what it does when it becomes active, when it is no longer active, and when it saves a ball: then it asks for another
abbrev pub save_lists : List ℕ → List (List Effect)
save_lists name =
    (posts (save_event name (codes "_enabled")) ∷ [])
    ∷ (posts (save_event name (codes "_disabled")) ∷ [])
    ∷ (posts (save_event name (codes "_saving_ball")) ∷ requests 1 ∷ [])
    ∷ []

-- what enables it, and what disables it
abbrev pub save_acts : BallSaveEntry → List (Event × Act)
save_acts s = acts Enable s.enable_events ++ acts Disable s.disable_events

abbrev pub save_device : BallSaveEntry → Device
save_device s = record {
  settings = kinds.BallSave s.settings;
  listens = [];
  event_acts = save_acts s;
  other_mentions = [];
  lists = save_lists s.name.text;
}

-- ---- multiballs

-- an event of the multiball of this name
abbrev pub multiball_event : List ℕ → List ℕ → List ℕ
multiball_event name ending = codes "multiball_" ++ name ++ ending

-- how the names of its events end, each at the number of its effect list
abbrev pub multiball_endings : List (List ℕ)
multiball_endings = codes "_started" ∷ codes "_ended" ∷ []

-- what it does when it starts: it adds balls to those in play; and when it ends
abbrev pub multiball_lists : List ℕ → ℕ → List (List Effect)
multiball_lists name balls =
    (posts (multiball_event name (codes "_started")) ∷ adds_balls balls ∷ [])
    ∷ (posts (multiball_event name (codes "_ended")) ∷ [])
    ∷ []

abbrev pub multiball_device : MultiballEntry → Device
multiball_device m = record {
  settings = kinds.Multiball m.settings;
  listens = [];
  event_acts = acts Start m.start_events;
  other_mentions = [];
  lists = multiball_lists m.name.text m.settings.balls;
}

-- ---- entries

-- the device of an entry, by the name of its section, if it is one of these two
unfoldable pub save_device_of : List ℕ → Entry → Option Device
save_device_of section e =
    if bytes_eq section ball_saves_name then Some (save_device (ball_save_of e))
    else (if bytes_eq section multiballs_name then Some (multiball_device (multiball_of e)) else None)
