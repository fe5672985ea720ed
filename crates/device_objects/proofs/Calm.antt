-- Kinds of which nothing is ever due are lawful, where their acts are.
use Rattle.std.proofs.Common.{rules, ◌≡◌, ℕ, ◌<◌, ◌≤◌, inl, Option, Some, List, [], ◌∷◌, length, refl, arith}
use Rattle.std.{specs.List.All, proofs.lemmas.List.Elements.All-nil}
use Rattle.plan_tables.specs.declared.devices.Act.{Act}
use Rattle.device_objects.specs.declared.{device.Call.Call, state.{DeviceState.DeviceState, World.World}}
use Rattle.device_objects.specs.KindModel.{Kind, CalmModel, Moments, by_act, calm_step, in_states, never, never_due}
use Rattle.device_objects.specs.{Kinds.moments_of, Laws.{MayComeAt, IsAnswerOf, IsLawful}}
use Rattle.device_objects.proofs.{Among.{In, here, contains, one}, InStates.in_states-lawful}
use Rattle.device_objects.specs.declared.device.Call.TheVariants as calls

-- player 1 in no game
abbrev pub someone : World
someone = record { games = 0; player = 1; in_play = 0 }

-- the lists are what an act answers, in some state
abbrev pub IsActAnswer : {S : Type 0} → CalmModel S → Act → List ℕ → Type 0
IsActAnswer m act lists = IsAnswerOf (never_due m) (λ s. never) (calls.Act act) lists

-- what holds of each answer to an act, and of no list, holds of each outcome
by_act-all : (P : List ℕ → Type 0) (answers : Act → List (List ℕ)) → P [] → ((act : Act) → All P (answers act))
    → (call : Call) → All P (by_act answers call)
by_act-all P answers none each call = search (rules, All-nil, one)

-- a kind by its states, and what has to be proved of it
module _ {S : Type 0} (state_of : S → DeviceState) (held : DeviceState → Option S) (m : CalmModel S)
    (IsWithin : Type 0) (lists : ℕ) (back : (s : S) → held (state_of s) ≡ Some s)
    (same : (state : DeviceState) (s : S) → held state ≡ Some s → state ≡ state_of s)
    (due : (s : S) → moments_of (state_of s) ≡ never)
    (first : m.IsShaped m.first) (start : (s : S) → m.IsShaped s → m.IsShaped (m.start s))
    (stop : (s : S) → m.IsShaped s → m.IsShaped (m.stop s))
    (acts : (act : Act) (now : ℕ) (world : World) (s : S) → m.IsShaped s → m.IsShaped (m.act act now world s).0)
    (answer : (act : Act) (now : ℕ) (world : World) (s : S) → m.IsShaped s
    → In (m.act act now world s).1 (m.answers act))
    (comes : IsWithin → (act : Act) → All (IsActAnswer m act) (m.answers act))
    (below : (act : Act) (now : ℕ) (world : World) (s : S) → All (λ list. list < lists) (m.act act now world s).1)
    (of_row : (act : Act) → All (All (λ list. list < lists)) (m.answers act))
    (short : (act : Act) → All (λ answer. length answer ≤ 4) (m.answers act)) where
  abbrev kind : Kind S
  kind = never_due m

  abbrev moments : S → Moments
  moments s = never

  keeps : (call : Call) (now : ℕ) (world : World) (s : S) → m.IsShaped s → m.IsShaped (calm_step m call now world s).0
  keeps call now world s shape = search (rules, start, stop, acts)

  answered : (call : Call) (now : ℕ) (world : World) (s : S) → m.IsShaped s → MayComeAt call never
      → In (calm_step m call now world s).1 (by_act m.answers call)
  answered call now world s shape may = search (rules, here, answer)

  all_below : (call : Call) (now : ℕ) (world : World) (s : S)
      → All (λ list. list < lists) (calm_step m call now world s).1
  all_below call now world s = search (rules, All-nil, below)

  -- what starts, or stops, answers nothing
  nothing : (call : Call) → MayComeAt call never → (calm_step m call 0 someone m.first).1 ≡ []
      → All (IsAnswerOf kind moments call) ([] ∷ [])
  nothing call may is = one (IsAnswerOf kind moments call) []
      (record { now = 0; world = someone; state = m.first; shape = first; may_come = may; answer = is })

  come : IsWithin → (call : Call) → All (IsAnswerOf kind moments call) (by_act m.answers call)
  come within calls.Fire = All-nil (IsAnswerOf kind moments calls.Fire)
  come within (calls.Act act) = comes within act
  come within calls.ModeStart = nothing calls.ModeStart tt refl
  come within calls.ModeStop = nothing calls.ModeStop tt refl

  never_due-lawful : IsLawful kind moments IsWithin lists
  never_due-lawful = record {
    first = first;
    step = keeps;
    answers = λ call now world s shape may. contains (answered call now world s shape may);
    comes = come;
    of_row = by_act-all (All (λ list. list < lists)) m.answers (All-nil (λ list. list < lists)) of_row;
    answers_of_row = all_below;
    short = by_act-all (λ answer. length answer ≤ 4) m.answers (omega arith) short;
    silent_stop = refl;
    quiet = refl;
    stop = λ now world s shape. refl;
    arms = λ within call now world s part due is. inl is;
    later_part = λ within now world s shape. tt;
    fires = λ now world s shape. tt;
    few = λ s part shape past. refl;
  }

  pub calm-lawful : IsLawful (in_states state_of held kind) moments_of IsWithin lists
  calm-lawful = in_states-lawful state_of held kind moments IsWithin lists back same due never_due-lawful
