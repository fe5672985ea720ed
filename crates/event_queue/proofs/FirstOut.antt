-- What waited, and after it what is pushed, is what is given, and after it what waits.
use Rattle.std.proofs.Common.{◌≡◌, ◌≤◌, List, [], ◌∷◌, ◌++◌, length, Some, None, Ok, Err, ap, sym, ◌∙◌, append-nil}
use Rattle.std.proofs.Common.{append_assoc, length-append, arith}
use Rattle.event_queue.specs.{declared.queue.Posted.Posted, Queue.{QueueView, empty}, Calls.IsWithinSize}
use Rattle.event_queue.specs.Calls.{QueueCall, Push, Take, AreCalls, posted_events, taken_out, IsFirstInFirstOut}

first_out : (calls : List QueueCall) (old new : QueueView) → AreCalls calls old new
    → taken_out calls ++ new.waiting ≡ old.waiting ++ posted_events calls
first_out [] old new same = ap (λ (q : QueueView). q.waiting) same ∙ sym (append-nil old.waiting)
first_out (Push event (Ok done) ∷ calls) old new (mid, (less, added), more) =
    first_out calls mid new more ∙ ap (λ (q : QueueView). q.waiting ++ posted_events calls) added
    ∙ append_assoc old.waiting (event ∷ []) (posted_events calls)
first_out (Push event (Err full) ∷ calls) old new (mid, (all, same), more) = first_out calls mid new more
    ∙ ap (λ (q : QueueView). q.waiting ++ posted_events calls) same
first_out (Take None ∷ calls) old new (mid, (none, same), more) = first_out calls mid new more
    ∙ ap (λ (q : QueueView). q.waiting ++ posted_events calls) same
first_out (Take (Some first) ∷ calls) old new (mid, (front, size), more) =
    ap (λ (events : List Posted). first ∷ events) (first_out calls mid new more)
    ∙ sym (ap (λ (events : List Posted). events ++ posted_events calls) front)

pub first_in_first_out : IsFirstInFirstOut
first_in_first_out size calls queue are = first_out calls (empty size) queue are

within : (calls : List QueueCall) (old new : QueueView) → AreCalls calls old new → length old.waiting ≤ old.size
    → (new.size ≡ old.size) × (length new.waiting ≤ old.size)
within [] old new same fits = let size = ap (λ (q : QueueView). q.size) same in let waiting =
    ap (λ (q : QueueView). length q.waiting) same in (size, omega arith)
within (Push event (Ok done) ∷ calls) old new (mid, (less, added), more) fits =
    let size = ap (λ (q : QueueView). q.size) added in
    let waiting = ap (λ (q : QueueView). length q.waiting) added in
    let longer = length-append old.waiting (event ∷ []) in
    let rest = within calls mid new more (omega arith) in
    (rest.0 ∙ size, omega (arith, rest.1))
within (Push event (Err full) ∷ calls) old new (mid, (all, same), more) fits =
    let size = ap (λ (q : QueueView). q.size) same in
    let waiting = ap (λ (q : QueueView). length q.waiting) same in
    let rest = within calls mid new more (omega arith) in
    (rest.0 ∙ size, omega (arith, rest.1))
within (Take None ∷ calls) old new (mid, (none, same), more) fits =
    let size = ap (λ (q : QueueView). q.size) same in
    let waiting = ap (λ (q : QueueView). length q.waiting) same in
    let rest = within calls mid new more (omega arith) in
    (rest.0 ∙ size, omega (arith, rest.1))
within (Take (Some first) ∷ calls) old new (mid, (front, size), more) fits =
    let longer = ap length front in
    let rest = within calls mid new more (omega arith) in
    (rest.0 ∙ size, omega (arith, rest.1))

pub within_size : IsWithinSize
within_size size calls queue are = within calls (empty size) queue are (omega arith)
