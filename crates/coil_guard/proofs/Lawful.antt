-- The laws over lists of calls, by what each call keeps.
use Rattle.std.proofs.Common.{rules, ℕ, List, [], ◌∷◌, ◌++◌, sym, subst, append-nil, append_assoc}
use Rattle.plan_tables.specs.declared.entries.CoilLimits.{CoilLimits}
use Rattle.coil_guard.specs.{declared.state.CoilState.CoilState, SentCommands.Sending, Calls.AreInOrder}
use Rattle.coil_guard.{specs.{Coils.all_off, Follows.Follows, Laws.LowestIsReleased}, proofs.Following.next_held-lowest}
use Rattle.coil_guard.specs.Calls.{CoilCall, moment_of, after_call, sent_by, after_calls, sent_by_calls, last_moment}
use Rattle.coil_guard.specs.Laws.{sent_from_new, state_from_new, CommandsAreWithinLimits, StretchesAreWithinLimits}
use Rattle.coil_guard.specs.Laws.{AnswersAreByCommands, StatesSayWhatIsOn, StatesSayWhoHolds, LowestIsOn}
use Rattle.coil_guard.proofs.Following.{new_follows, calls_follow, followers_send_what_is_due, next_on-lowest}

follows-calls : (limits : List CoilLimits) (calls : List CoilCall) (sent : List Sending) (s : List CoilState)
    (moment : ℕ) → AreInOrder moment calls → Follows limits sent s moment
    → Follows limits (sent ++ sent_by_calls calls s) (after_calls calls s) (last_moment moment calls)
follows-calls limits [] sent s moment order f =
    subst (λ (ss : List Sending). Follows limits ss s moment) (sym (append-nil sent)) f
follows-calls limits (call ∷ calls) sent s moment (forward, order) f =
    let after = after_call call s in
    subst (λ (ss : List Sending). Follows limits ss (after_calls calls after) (last_moment (moment_of call) calls))
    (append_assoc sent (sent_by call s) (sent_by_calls calls after))
    (follows-calls limits calls (sent ++ sent_by call s) after (moment_of call) order
    (calls_follow limits sent s moment call forward f))

follows-new : (limits : List CoilLimits) (calls : List CoilCall) → AreInOrder 0 calls
    → Follows limits (sent_from_new limits calls) (state_from_new limits calls) (last_moment 0 calls)
follows-new limits calls order = follows-calls limits calls [] (all_off limits) 0 order (new_follows limits)

pub commands_are_within_limits : CommandsAreWithinLimits
commands_are_within_limits limits calls order = (follows-new limits calls order).within

pub stretches_are_within_limits : StretchesAreWithinLimits
stretches_are_within_limits limits calls order coil barred first count all =
    (((follows-new limits calls order).each coil).apart barred).runs first count all

pub answers_are_by_commands : AnswersAreByCommands
answers_are_by_commands limits calls call order forward = search (rules, followers_send_what_is_due, follows-new)

pub states_say_what_is_on : StatesSayWhatIsOn
states_say_what_is_on limits calls order coil moment last =
    sym (((follows-new limits calls order).each coil).on moment last)

pub states_say_who_holds : StatesSayWhoHolds
states_say_who_holds limits calls order coil owner = sym (((follows-new limits calls order).each coil).held_for owner)

pub lowest_is_on : LowestIsOn
lowest_is_on limits calls order now last =
    next_on-lowest limits (sent_from_new limits calls) (state_from_new limits calls) (last_moment 0 calls)
    (follows-new limits calls order) now last

pub lowest_is_released : LowestIsReleased
lowest_is_released limits calls order owner =
    next_held-lowest limits (sent_from_new limits calls) (state_from_new limits calls) (last_moment 0 calls)
    (follows-new limits calls order) owner
