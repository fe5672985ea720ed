-- What holds of the names that parts have: P of each event's, and others are names.
use Rattle.std.specs.{Prelude.{ℕ, List, ◌++◌, codes, IfSome}, List.All}
use Rattle.mpf_values.specs.Events.{Event}
use Rattle.mpf_sections.specs.Named.{IsName}
use Rattle.machine_definitions.specs.{GameEvents.game_event_names, Players.player_event}
use Rattle.plan_tables.specs.declared.entries.ModeEvent.{ModeEvent}
use Rattle.plan_tables.specs.declared.table.Table.{Table, TheVariants.{Events, Switches, Coils, Variables}}
use Rattle.plan_parts.specs.Effects.{Effect, posts, works, changes, enters, mode_event_name}
use Rattle.plan_parts.specs.DeviceEntries.{block_event, block_endings, timer_event, timer_endings}
use Rattle.plan_parts.specs.{BallEntries.{ball_event, ball_endings}, ShotEntries.{shot_events, group_events}}
use Rattle.plan_parts.specs.SaveEntries.{save_event, save_endings, multiball_event, multiball_endings}
use Rattle.plan_parts.specs.Parts.{Device, Reaction, run, Part, switch, coil, mode, handler, device, mention}

-- what is made of names meets P
pub record IsOfNames (P : List ℕ → Type 0) : Type 0 where
  pub name : (n : List ℕ) → IsName n → P n
  pub active : (n : List ℕ) → IsName n → P (n ++ codes "_active")
  pub inactive : (n : List ℕ) → IsName n → P (n ++ codes "_inactive")
  pub tag : (n : List ℕ) → IsName n → P (codes "sw_" ++ n)
  pub mode : (which : ModeEvent) (n : List ℕ) → IsName n → P (mode_event_name which n)
  pub ball : P (codes "ball_ending")
  pub game : P (codes "game_ending")
  pub game_events : All P game_event_names
  pub player : (n : List ℕ) → IsName n → P (player_event n)
  pub block : (n : List ℕ) → IsName n → All (λ ending. P (block_event n ending)) block_endings
  pub timer : (n : List ℕ) → IsName n → All (λ ending. P (timer_event n ending)) timer_endings
  pub ball_device : (n : List ℕ) → IsName n → All (λ ending. P (ball_event n ending)) ball_endings
  pub save : (n : List ℕ) → IsName n → All (λ ending. P (save_event n ending)) save_endings
  pub multiball : (n : List ℕ) → IsName n → All (λ ending. P (multiball_event n ending)) multiball_endings
  pub shot : (name profile state : List ℕ) → IsName name → IsName profile → IsName state
      → All P (shot_events name profile state)
  pub group : (name state : List ℕ) → IsName name → IsName state
      → All P (group_events (codes "_hit") name state) × All P (group_events (codes "_complete") name state)

-- the name meets P if it is that of an event, and is a name if it is that of a switch, a coil or a variable
abbrev pub IsFitName : (List ℕ → Type 0) → Table → List ℕ → Type 0
IsFitName P Events n = P n
IsFitName P Switches n = IsName n
IsFitName P Coils n = IsName n
IsFitName P Variables n = IsName n
IsFitName P _ n = Unit {0}

abbrev pub IsFitEffect : (List ℕ → Type 0) → Effect → Type 0
IsFitEffect P (posts n) = P n
IsFitEffect P (works n deed) = IsName n
IsFitEffect P (changes v action n) = IsName v
IsFitEffect P (enters e drain) = P e
IsFitEffect P _ = Unit {0}

-- so it is with those of a handled event
abbrev pub IsFitEvent : (List ℕ → Type 0) → Event → Type 0
IsFitEvent P e = P e.name × IfSome e.condition (λ c. IsName c.variable)

-- P holds of each event that the entry of a device names, and switches, coils and variables have names
pub record IsFitDevice (P : List ℕ → Type 0) (d : Device) : Type 0 where
  pub listens : All IsName d.listens
  pub event_acts : All (λ h. IsFitEvent P h.0) d.event_acts
  pub other_mentions : All P d.other_mentions
  pub lists : All (All (IsFitEffect P)) d.lists

abbrev pub IsFitReaction : (List ℕ → Type 0) → Reaction → Type 0
IsFitReaction P (run es) = All (IsFitEffect P) es
IsFitReaction P _ = Unit {0}

-- P holds of each event that a part names, and others are names
abbrev pub IsFitPart : (List ℕ → Type 0) → Part → Type 0
IsFitPart P (switch name kind confirms active inactive) = IsName name × All P active × All P inactive
IsFitPart P (coil name limits) = IsName name
IsFitPart P (mode name s) = IsName name
IsFitPart P (handler whose e reaction) = IsFitEvent P e × IsFitReaction P reaction
IsFitPart P (device whose d) = IsFitDevice P d
IsFitPart P (mention table name) = IsFitName P table name
IsFitPart P _ = Unit {0}
