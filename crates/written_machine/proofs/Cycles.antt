-- A mode's own five events come in turn: which of them wait, by its phase.
use Rattle.std.proofs.Common.{◌≡◌, true, ◌==◌, cond, List, [], ◌∷◌, ◌++◌, refl, rules}
use Rattle.plan_tables.specs.PlanView.{PlanView, work_of}
use Rattle.plan_tables.specs.declared.entries.{ModeId.ModeId, ModeEvent.ModeEvent, Work.{Work, TheVariants.Mode}}
use Rattle.plan_tables.specs.declared.entries.ModeEvent.TheVariants.{WillStart, Starting, Started, Stopping, Stopped}
use Rattle.mode_stack.specs.{declared.phase.Phase.Phase, ModeStep.is_running}
use Rattle.mode_stack.specs.declared.phase.Phase.TheVariants as phases
use Rattle.event_queue.specs.declared.queue.Posted.{Posted}

-- those of the mode: of one event, and of the events that wait
abbrev pub mine : ModeId → Work → List ModeEvent → List ModeEvent
mine m (Mode k which) rest = cond (k.0 == m.0) (which ∷ rest) rest
mine m _ rest = rest

abbrev pub waiting_of : PlanView → ModeId → List Posted → List ModeEvent
waiting_of plan m [] = []
waiting_of plan m (p ∷ ps) = mine m (work_of plan p.event) (waiting_of plan m ps)

-- Which of them may wait in a phase. The first is the one that is being handled, as long as its work is still to come.
pub data IsTurn : Phase → List ModeEvent → Type 0 where
  idle : IsTurn phases.Idle []
  ends : IsTurn phases.Idle (Stopped ∷ [])
  first : IsTurn phases.Starting (WillStart ∷ [])
  again : IsTurn phases.Starting (Stopped ∷ WillStart ∷ [])
  second : IsTurn phases.Starting (Starting ∷ [])
  third : IsTurn phases.Starting (Started ∷ [])
  active : IsTurn phases.Active []
  stops : IsTurn phases.Stopping (Stopping ∷ [])

mine-push : (m : ModeId) (w : Work) (xs ys : List ModeEvent) → mine m w (xs ++ ys) ≡ mine m w xs ++ ys
mine-push m w xs ys = search rules

-- one event more waits
pub waiting_of-push : (plan : PlanView) (m : ModeId) (ps : List Posted) (p : Posted)
    → waiting_of plan m (ps ++ p ∷ []) ≡ waiting_of plan m ps ++ mine m (work_of plan p.event) []
waiting_of-push plan m [] p = refl
waiting_of-push plan m (q ∷ ps) p = search (rules, mine-push, waiting_of-push plan m ps p)

-- ---- from one phase to the next

pub turn-start : (l : List ModeEvent) → IsTurn phases.Idle l → IsTurn phases.Starting (l ++ WillStart ∷ [])
turn-start l idle = first
turn-start l ends = again

pub turn-stop : (l : List ModeEvent) → IsTurn phases.Active l → IsTurn phases.Stopping (l ++ Stopping ∷ [])
turn-stop l active = stops

pub turn-will_start : (p : Phase) (q : List ModeEvent) → IsTurn p (WillStart ∷ q) → IsTurn p (q ++ Starting ∷ [])
turn-will_start p q first = second

pub turn-starting : (p : Phase) (q : List ModeEvent) → IsTurn p (Starting ∷ q) → IsTurn p (q ++ Started ∷ [])
turn-starting p q second = third

pub turn-started : (p : Phase) (q : List ModeEvent) → IsTurn p (Started ∷ q) → IsTurn phases.Active q
turn-started p q third = active

pub turn-stopping : (p : Phase) (q : List ModeEvent) → IsTurn p (Stopping ∷ q) → IsTurn phases.Idle (q ++ Stopped ∷ [])
turn-stopping p q stops = ends

pub turn-stopped : (p : Phase) (q : List ModeEvent) → IsTurn p (Stopped ∷ q) → IsTurn p q
turn-stopped p q ends = idle
turn-stopped p q again = first

pub stopping-runs : (p : Phase) (q : List ModeEvent) → IsTurn p (Stopping ∷ q) → is_running p ≡ true
stopping-runs p q stops = refl

-- an event that is not the last of a mode's
abbrev pub IsNoEnd : ModeEvent → Type 0
IsNoEnd Stopped = ⊥
IsNoEnd _ = Unit {0}
