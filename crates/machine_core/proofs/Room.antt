-- A machine that is sound in the end was sound before.
use Rattle.std.proofs.Common.{rules, ◌≡◌, ℕ, ℤ, zero, suc, ◌+◌, ◌<◌, Option, Some, List, [], ◌∷◌, length, drop}
use Rattle.std.{proofs.Common.{length-append, ap, sym, ◌∙◌, subst, arith}, specs.Prelude.slice_get}
use Rattle.plan_tables.specs.declared.entries.{EventId.EventId, Owner.Owner, GameEvent.GameEvent, VariableId.VariableId}
use Rattle.plan_tables.specs.declared.entries.Owner.TheVariants as owners
use Rattle.machine_settings.specs.declared.words.VariableAction.{VariableAction}
use Rattle.plan_tables.specs.PlanView.{PlanView, game_event}
use Rattle.player_game.specs.Players.{changed_to, after_change as players_after_change, score_of}
use Rattle.written_machine.specs.declared.line.Happening.TheVariants as lines
use Rattle.written_machine.{specs.{Moves.Grows, Machine.write_final}, proofs.Growth.{all_do-grows, post-grows}}
use Rattle.written_machine.specs.Machine.{Machine, post, set_players, all_do, tell_change, change_variable, post_game}
use Rattle.event_queue.specs.{declared.queue.Posted.Posted, Queue.{QueueView, IsTaken}}
use Rattle.machine_core.specs.Core.{CoreView, TakesFirst, IsWithin, after}

pub room-before : (room : ℕ) (s t : Machine) → Grows s t → IsWithin room t → IsWithin room s
room-before room s t g h = record {
  waiting = let a = g.waiting in let b = h.waiting in omega (arith, a, b);
  lines = let a = g.lines in let b = h.lines in omega (arith, a, b);
  none_left_out = let a = g.bookings in let b = h.none_left_out in omega (arith, a, b);
  few = let a = g.known in let b = h.few in omega (arith, a, b);
}

-- if all that is left to do leaves room, its first does
pub room-first : {X : Type 0} (f : PlanView → X → Machine → Machine)
    → ((plan : PlanView) (x : X) (s : Machine) → Grows s (f plan x s)) → (now all : CoreView) (x : X) (xs left : List X)
    → left ≡ x ∷ xs
    → after (all_do (f now.plan) left) now ≡ all → IsWithin all.room all.machine
    → IsWithin now.room (f now.plan x now.machine)
room-first f each now all x xs left e is h = search (rules, room-before, all_do-grows)

-- if all that is left to do comes to a state, so does the rest after the first
pub all_do-first : {X : Type 0} (f : PlanView → X → Machine → Machine) (now next all : CoreView) (x : X)
    (xs left : List X) → left ≡ x ∷ xs
    → after (all_do (f now.plan) left) now ≡ all → next ≡ after (f now.plan x) now
    → after (all_do (f next.plan) xs) next ≡ all
all_do-first f now next all x xs left e is n = search rules

-- what is at a place is the first of what is left there
pub drop-found : {X : Type 0} (xs : List X) (k : ℕ) (x : X) → slice_get xs k ≡ Some x → drop k xs ≡ x ∷ drop (k + 1) xs
drop-found [] k x h = cc
drop-found (y ∷ ys) zero x h = let same : y ≡ x = cc in ap (λ z. z ∷ ys) same
drop-found (y ∷ ys) (suc k) x h = search (rules, drop-found ys k x h)

-- what was taken from the queue was taken from the machine
pub taken-is : (result : Option Posted) (old new : QueueView) (c d : CoreView) → IsTaken result old new
    → c.machine.waiting ≡ old.waiting → c.room ≡ old.size
    → d ≡ record c { machine = record c.machine { waiting = new.waiting }; room = new.size } → TakesFirst result c d
taken-is x1 old new c d x6 waits room is = search rules

-- if all that is left to post leaves room, its first has it
pub post-room : (owner : Owner) (now all : CoreView) (e : EventId) (es left : List EventId) → left ≡ e ∷ es
    → after (all_do (post owner) left) now ≡ all → IsWithin all.room all.machine → length now.machine.waiting < now.room
post-room owner now all e es left is whole h =
    let room = room-first (λ plan. post owner) (λ plan. post-grows owner) now all e es left is whole h in
    let fits = room.waiting in
    omega (arith, fits, length-append now.machine.waiting (record { event = e; owner = owner } ∷ []))

-- a score that is told adds a line
pub final-grows : (plan : PlanView) (player : ℕ) (s : Machine) → Grows s (write_final plan player s)
final-grows plan player s = search (rules, length-append)

pub final-room : (now all : CoreView) (player : ℕ) (players left : List ℕ) → left ≡ player ∷ players
    → after (all_do (write_final now.plan) left) now ≡ all → IsWithin all.room all.machine
    → length now.machine.lines < now.room
final-room now all player players left is whole h =
    let room = room-first write_final final-grows now all player players left is whole h in
    let fits = room.lines in
    let s = now.machine in
    omega (
      arith,
      fits,
      length-append s.lines
          (record {
            moment = s.moment;
            owner = owners.Machine;
            happening = lines.Final player (score_of now.plan s.players player);
          } ∷ []),
    )

-- and an event of the game that is posted waits
pub game-grows : (plan : PlanView) (e : GameEvent) (s : Machine) → Grows s (post_game plan e s)
game-grows plan e s = post-grows owners.Machine (game_event plan e) s

pub game-room : (now all : CoreView) (e : GameEvent) (es left : List GameEvent) → left ≡ e ∷ es
    → after (all_do (post_game now.plan) left) now ≡ all → IsWithin all.room all.machine
    → length now.machine.waiting < now.room
game-room now all e es left is whole h =
    let room = room-first post_game game-grows now all e es left is whole h in
    let fits = room.waiting in
    omega (
      arith,
      fits,
      length-append now.machine.waiting
          (record { event = game_event now.plan e; owner = owners.Machine } ∷ []),
    )

-- if a change of a variable that is told leaves room, there is room for its line and its event
told-fits : (owner : Owner) (player : ℕ) (v : VariableId) (e : EventId) (value : ℤ) (room : ℕ) (s : Machine)
    → IsWithin room (tell_change owner player v e (Some value) s) → (length s.lines < room) × (length s.waiting < room)
told-fits owner player v e value room s h = search (rules, length-append)

changed-fits : (plan : PlanView) (owner : Owner) (v : VariableId) (action : VariableAction) (n : ℤ) (e : EventId)
    (value : ℤ) (room : ℕ) (s : Machine) → Some value ≡ changed_to plan v action n s.players
    → IsWithin room (change_variable plan owner v action n e s) → (length s.lines < room) × (length s.waiting < room)
changed-fits plan owner v action n e value room s is h =
    told-fits owner s.players.current v e value room
    (set_players (players_after_change plan v (Some value) s.players) s)
    (subst (λ (o : Option ℤ). IsWithin room
    (tell_change owner s.players.current v e o (set_players (players_after_change plan v o s.players) s))) (sym is)
    h)

-- so it is for the players that a core holds
pub changed-room : (seen now : CoreView) → seen ≡ now → (held : PlanView) → held ≡ seen.plan
    → (owner : Owner) (v : VariableId) (action : VariableAction) (n : ℤ) (e : EventId) (value : ℤ)
    → Some value ≡ changed_to held v action n seen.machine.players
    → IsWithin now.room (change_variable now.plan owner v action n e now.machine)
    → (length seen.machine.lines < seen.room) × (length seen.machine.waiting < seen.room)
changed-room seen now same held held_is owner v action n e value is room =
    changed-fits seen.plan owner v action n e value seen.room seen.machine
    (is ∙ ap (λ (p : PlanView). changed_to p v action n seen.machine.players) held_is)
    (subst (λ (c : CoreView). IsWithin c.room (change_variable c.plan owner v action n e c.machine)) (sym same) room)
