-- The events that wait.
use Rattle.std.specs.Prelude.{ℕ, ◌≡◌, ◌<◌, List, [], ◌∷◌, ◌++◌, length, Option, Some, None, Result, Ok, Err}
use Rattle.event_queue.specs.declared.queue.{Posted.Posted, Full.Full}

-- how many events may wait, and those that do, first posted first
pub record QueueView : Type 0 where
  pub size : ℕ
  pub waiting : List Posted

-- no event waits
abbrev pub empty : ℕ → QueueView
empty size = record { size = size; waiting = [] }

-- an event is added after all others, unless as many wait as may
abbrev pub IsPushed : Posted → Result Unit Full → QueueView → QueueView → Type 0
IsPushed event (Ok unit) old new = (length old.waiting < old.size)
    × (new ≡ record { size = old.size; waiting = old.waiting ++ event ∷ [] })
IsPushed event (Err full) old new = (length old.waiting ≡ old.size) × (new ≡ old)

-- the event that waits first is taken, if one waits
abbrev pub IsTaken : Option Posted → QueueView → QueueView → Type 0
IsTaken None old new = (old.waiting ≡ []) × (new ≡ old)
IsTaken (Some first) old new = (old.waiting ≡ first ∷ new.waiting) × (new.size ≡ old.size)
