-- Lists of calls, and the law that they keep.
use Rattle.std.specs.Prelude.{◌≡◌, ℕ, ◌≤◌, List, [], ◌∷◌, ◌++◌, length, Option, Some, None, Result, Ok, Err}
use Rattle.event_queue.specs.{declared.queue.{Posted.Posted, Full.Full}, Queue.{QueueView, empty, IsPushed, IsTaken}}

-- a call of `push` or of `take`, with what it answered
pub data QueueCall : Type 0 where
  Push : (event : Posted) (answer : Result Unit Full) → QueueCall
  Take : (answer : Option Posted) → QueueCall

-- the call leads from the old queue to the new one
abbrev pub IsCall : QueueCall → QueueView → QueueView → Type 0
IsCall (Push event answer) old new = IsPushed event answer old new
IsCall (Take answer) old new = IsTaken answer old new

-- calls do, one after the other
abbrev pub AreCalls : List QueueCall → QueueView → QueueView → Type 0
AreCalls [] old new = new ≡ old
AreCalls (call ∷ calls) old new = (mid : QueueView) × IsCall call old mid × AreCalls calls mid new

-- what was pushed, in order: the calls that found room
abbrev pub posted_events : List QueueCall → List Posted
posted_events [] = []
posted_events (Push event (Ok done) ∷ calls) = event ∷ posted_events calls
posted_events (Push event (Err full) ∷ calls) = posted_events calls
posted_events (Take answer ∷ calls) = posted_events calls

-- what `take` gave, in order
abbrev pub taken_out : List QueueCall → List Posted
taken_out [] = []
taken_out (Push event answer ∷ calls) = taken_out calls
taken_out (Take None ∷ calls) = taken_out calls
taken_out (Take (Some first) ∷ calls) = first ∷ taken_out calls

-- After every list of calls on a new queue: what was given, and after it what waits, is what was pushed.
abbrev pub IsFirstInFirstOut : Type 0
IsFirstInFirstOut = (size : ℕ) (calls : List QueueCall) (queue : QueueView) → AreCalls calls (empty size) queue
    → taken_out calls ++ queue.waiting ≡ posted_events calls

-- It keeps its size, and no more events wait than that.
abbrev pub IsWithinSize : Type 0
IsWithinSize = (size : ℕ) (calls : List QueueCall) (queue : QueueView) → AreCalls calls (empty size) queue
    → (queue.size ≡ size) × (length queue.waiting ≤ size)
