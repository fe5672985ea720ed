-- What it means that every name in the rows of a section is well formed: 1 to 64 letters, digits, `_`, `-` and `.`.
use Rattle.std.specs.{Prelude.{List, IfSome}, List.All}
pub use Rattle.setting_values.specs.NamedValues.{IsNamedHandled}
pub use Rattle.section_tables.specs.Named.{IsNamedEntry, IsNamedPlayer}
use Rattle.mpf_sections.specs.Rows.{WrittenName, HandledEvent, Switch, EventPlayer, Coil, CoilPlayer, VariablePlayer}
use Rattle.mpf_sections.specs.Rows.{Shot, ShotGroup, ShotProfile, BallDeviceEntry}
use Rattle.mpf_sections.specs.Rows.{BallSaveEntry, MultiballEntry, BlockEvents, CounterEntry, StepBlock, TimerEntry}
use Rattle.mpf_sections.specs.Rows.{ModeSettings, Content, entries, players, entry, name_list, SectionRows}
pub use Rattle.mpf_values.specs.Names.{IsName}

-- each name in a list is one
abbrev pub AllNames : List WrittenName → Type 0
AllNames names = All (λ w. IsName w.text) names

-- the names of each handled event in a list are names
abbrev pub AllNamedEvents : List HandledEvent → Type 0
AllNamedEvents events = All IsNamedHandled events

-- the name of a switch is one, and so are those of its tags and of the events that its entry lists
pub record IsNamedSwitch (s : Switch) : Type 0 where
  pub name : IsName s.name.text
  pub tags : AllNames s.tags
  pub activation_events : AllNames s.activation_events
  pub deactivation_events : AllNames s.deactivation_events

-- the names of the event that an entry handles are names, and so are those of the events that it posts
pub record IsNamedEventPlayer (p : EventPlayer) : Type 0 where
  pub event : IsNamedHandled p.event
  pub posts : AllNames p.posts

-- the name of a coil is one
pub record IsNamedCoil (c : Coil) : Type 0 where
  pub name : IsName c.name.text

-- the names of the event that an entry handles are names, and so are those of the coils of which it says what they do
pub record IsNamedCoilPlayer (p : CoilPlayer) : Type 0 where
  pub event : IsNamedHandled p.event
  pub items : All (λ i. IsName i.coil.text) p.items

-- the names of the event that an entry handles are names, and so are those of the variables that it changes
pub record IsNamedVariablePlayer (p : VariablePlayer) : Type 0 where
  pub event : IsNamedHandled p.event
  pub items : All (λ i. IsName i.variable.text) p.items

-- the name of a shot is one, and so are those of its switch, its profile and its events
pub record IsNamedShot (s : Shot) : Type 0 where
  pub name : IsName s.name.text
  pub switch : IfSome s.switch (λ w. IsName w.text)
  pub hits : AllNamedEvents s.hits
  pub profile : IsName s.profile.text
  pub advances : AllNamedEvents s.advances
  pub resets : AllNamedEvents s.resets
  pub enables : AllNamedEvents s.enables
  pub disables : AllNamedEvents s.disables

-- the name of a group is one, and so are those of its shots and its events
pub record IsNamedShotGroup (g : ShotGroup) : Type 0 where
  pub name : IsName g.name.text
  pub shots : AllNames g.shots
  pub rotates : AllNamedEvents g.rotates
  pub rotates_right : AllNamedEvents g.rotates_right
  pub rotates_left : AllNamedEvents g.rotates_left
  pub resets : AllNamedEvents g.resets

-- the name of a profile is one, and so are those of its states
pub record IsNamedShotProfile (p : ShotProfile) : Type 0 where
  pub name : IsName p.name.text
  pub states : AllNames p.states

-- the name of a ball device is one, and so are those of its ball switches, its coil, its target and its tags
pub record IsNamedBallDevice (d : BallDeviceEntry) : Type 0 where
  pub name : IsName d.name.text
  pub switches : AllNames d.switches
  pub eject_coil : IfSome d.eject_coil (λ w. IsName w.text)
  pub target : IsName d.target.text
  pub tags : AllNames d.tags

-- the name of a ball save is one, and so are those of its events
pub record IsNamedBallSave (b : BallSaveEntry) : Type 0 where
  pub name : IsName b.name.text
  pub enable_events : AllNamedEvents b.enable_events
  pub disable_events : AllNamedEvents b.disable_events

-- those of a multiball, too
pub record IsNamedMultiball (m : MultiballEntry) : Type 0 where
  pub name : IsName m.name.text
  pub start_events : AllNamedEvents m.start_events

-- the events of a logic block are names
pub record IsNamedBlock (b : BlockEvents) : Type 0 where
  pub enables : AllNamedEvents b.enables
  pub disables : AllNamedEvents b.disables
  pub resets : AllNamedEvents b.resets
  pub restarts : AllNamedEvents b.restarts
  pub hit : AllNames b.hit
  pub complete : AllNames b.complete

-- the name of a counter is one, and so are its events
pub record IsNamedCounter (c : CounterEntry) : Type 0 where
  pub name : IsName c.name.text
  pub counts : AllNamedEvents c.counts
  pub block : IsNamedBlock c.block

-- those of an accrual or a sequence, too
pub record IsNamedStepBlock (b : StepBlock) : Type 0 where
  pub name : IsName b.name.text
  pub steps : All AllNamedEvents b.steps
  pub block : IsNamedBlock b.block

-- those of a timer, too
pub record IsNamedTimer (t : TimerEntry) : Type 0 where
  pub name : IsName t.name.text
  pub controls : All (λ c. IsNamedHandled c.event) t.controls

-- the events that start a mode are names, and so are those that stop it
pub record AreNamedSettings (s : ModeSettings) : Type 0 where
  pub starts : AllNamedEvents s.starts
  pub stops : AllNamedEvents s.stops

-- Each name in a section is one, whatever its settings are.
abbrev pub IsNamedContent : Content → Type 0
IsNamedContent (entries es) = All IsNamedEntry es
IsNamedContent (players ps) = All IsNamedPlayer ps
IsNamedContent (entry e) = IsNamedEntry e
IsNamedContent (name_list ws) = AllNames ws

abbrev pub IsNamed : SectionRows → Type 0
IsNamed s = IsNamedContent s.content
