-- The coils that an owner holds are turned off, the lowest first.
use Rattle.std.proofs.Common.{rules, ◌≡◌, ℕ, zero, suc, ◌+◌, ◌-◌, ◌<◌, ◌≤◌, Bool, true, false, if◌then◌else◌, Option}
use Rattle.std.proofs.Common.{None, Some, option_map, List, [], ◌∷◌, ◌++◌, length, take, drop, get_or, refl, sym, ap}
use Rattle.std.proofs.Common.{◌∙◌, subst, length-append, arith}
use Rattle.std.proofs.lemmas.{Bool.{cond-true, cond-false}, Option.same_Some}
use Rattle.std.proofs.lemmas.List.{take-append-drop, drop_more, take_more, take_all, length-set, get_or-set_same}
use Rattle.std.proofs.lemmas.List.{get_or-set_other, FromFn.{length-map-range_with_len, get_or-map-range_with_len}}
use Rattle.plan_tables.specs.PlanView.{PlanView, coil_numbers}
use Rattle.plan_tables.specs.declared.entries.{ModeId.ModeId, CoilId.CoilId, Owner.Owner}
use Rattle.plan_tables.specs.declared.entries.{ModeEvent.TheVariants.Stopping, Work.{Work, TheVariants.Mode}}
use Rattle.device_objects.specs.declared.device.Call.TheVariants as calls
use Rattle.coil_guard.specs.declared.{command.Command.{Command, TheVariants.Disable}, state.CoilState.CoilState}
use Rattle.coil_guard.specs.{Limits.no_limits, Lowest.IsLowest, CoilStep.{off, is_on_at, is_held_by, disable_coil}}
use Rattle.coil_guard.proofs.Lowest.{lowest-is}
use Rattle.coil_guard.specs.Coils.{coil_at, set_coil, put_off, next_held, after_release, answer_release}
use Rattle.written_machine.specs.declared.line.Happening.TheVariants as lines
use Rattle.written_machine.specs.Machine.{Machine, write, set_coils, all_do, ask_coil, call_devices, release_coil}
use Rattle.written_machine.specs.{Machine.release_coils, EventStep.do_after, Moves.Grows}
use Rattle.written_machine.proofs.{Does.none-grows, Parts.does-calls, Growth.{asked-grows, all_do-grows}, Held.held-on}
use Rattle.machine_core.{specs.Core.{CoreView, CanCall, IsWithin, after}, proofs.Callable.can-does}

all_do-append : {X : Type 0} (f : X → Machine → Machine) (xs ys : List X) (s : Machine)
    → all_do f (xs ++ ys) s ≡ all_do f ys (all_do f xs s)
all_do-append f [] ys s = refl
all_do-append f (x ∷ xs) ys s = all_do-append f xs ys (f x s)

module _ (plan : PlanView) (owner : Owner) where
  abbrev all_off : Machine → Machine
  all_off = release_coils plan owner

  -- ---- coils that it does not hold stay

  not-released : (c : CoilId) (s : Machine) → is_held_by owner (coil_at s.coils c) ≡ false → release_coil owner c s ≡ s
  not-released c s not = cond-false (is_held_by owner (coil_at s.coils c)) (ask_coil owner (Disable c) s) s not

  number-at : (k : ℕ) (d : CoilId) → k < length plan.coils → get_or (coil_numbers plan) k d ≡ record { 0 = k }
  number-at k d there = get_or-map-range_with_len (λ n. record { 0 = n }) 0 (length plan.coils) k k d there
      (omega arith)

  count : length (coil_numbers plan) ≡ length plan.coils
  count = length-map-range_with_len {X = CoilId} (λ n. record { 0 = n }) 0 (length plan.coils)

  none-below : (k : ℕ) (s : Machine) → k ≤ length plan.coils
      → ((c : CoilId) → c.0 < k → is_held_by owner (coil_at s.coils c) ≡ false)
      → all_do (release_coil owner) (take k (coil_numbers plan)) s ≡ s
  none-below zero s within none = refl
  none-below (suc k) s within none =
      let ns = coil_numbers plan in
      let here : CoilId = record { 0 = k } in
      let more : take (suc k) ns ≡ take k ns ++ here ∷ [] =
      let on : suc k ≡ k + 1 = omega arith in
      ap (λ n. take n ns) on ∙ take_more ns k here (omega (arith, within, count))
      ∙ ap (λ (c : CoilId). take k ns ++ c ∷ []) (number-at k here within) in
      ap (λ cs. all_do (release_coil owner) cs s) more
      ∙ all_do-append (release_coil owner) (take k ns) (here ∷ []) s
      ∙ ap (release_coil owner here) (none-below k s (omega (arith, within)) (λ c below. none c (omega (arith, below))))
      ∙ not-released here s (none here (omega arith))

  -- ---- the lowest that it holds

  module _ (s : Machine) (all : length s.coils ≡ length plan.coils) where
    abbrev is_held : CoilId → Bool
    is_held c = is_held_by owner (coil_at s.coils c)

    lowest : (o : Option CoilId) → o ≡ next_held owner s.coils → IsLowest is_held (length s.coils) o
    lowest o first = subst (IsLowest is_held (length s.coils)) (sym first) (lowest-is is_held (length s.coils))

    -- if there is none, nothing is turned off
    pub released-end : None ≡ next_held owner s.coils → all_off s ≡ s
    released-end none =
        ap (λ cs. all_do (release_coil owner) cs s)
        (sym (take_all (length plan.coils) (coil_numbers plan) (omega (arith, count))))
        ∙ none-below (length plan.coils) s (omega arith) (λ c below. lowest None none c (omega (arith, below, all)))

    module _ (coil : CoilId) (first : Some coil ≡ next_held owner s.coils) where
      is : IsLowest is_held (length s.coils) (Some coil)
      is = lowest (Some coil) first

      there : coil.0 < length plan.coils
      there = let h = is.0 in omega (arith, h, all)

      on : is_on_at s.moment (coil_at s.coils coil) ≡ true
      on = held-on owner s.moment (coil_at s.coils coil) is.1

      abbrev let_go : Machine
      let_go = write owner (lines.Coil (Disable coil))
          (set_coils (set_coil coil (disable_coil (coil_at s.coils coil)) s.coils) s)

      asked-is : ask_coil owner (Disable coil) s ≡ let_go
      asked-is = search (rules, coil, on)

      -- others stay as they are held
      others : (c : CoilId) → c.0 < coil.0 → is_held_by owner (coil_at let_go.coils c) ≡ false
      others c below = search (rules, get_or-set_other, coil, is)

      own : is_held_by owner (coil_at let_go.coils coil) ≡ false
      own = ap (is_held_by owner) (get_or-set_same s.coils coil.0 (disable_coil (coil_at s.coils coil)) (off no_limits)
          is.0)

      split : coil_numbers plan ≡ take coil.0 (coil_numbers plan) ++ coil ∷ drop (coil.0 + 1) (coil_numbers plan)
      split =
          let ns = coil_numbers plan in
          sym (take-append-drop coil.0 ns)
          ∙ ap (λ cs. take coil.0 ns ++ cs)
          (drop_more ns coil.0 coil (omega (arith, there, count))
          ∙ ap (λ (c : CoilId). c ∷ drop (coil.0 + 1) ns) (number-at coil.0 coil there))

      -- it is turned off first, and then the others
      pub released-first : all_off s ≡ all_off let_go
      released-first =
          search
          (rules, coil, split, all_do-append, none-below, there, is, cond-true, asked-is, not-released, own, others)

  release-grows : (s : Machine) → Grows s (all_off s)
  release-grows s = all_do-grows (release_coil owner) (λ c t. by c t (is_held_by owner (coil_at t.coils c)))
      (coil_numbers plan) s
    where
      by : (c : CoilId) (t : Machine) (b : Bool) → Grows t (if b then ask_coil owner (Disable c) t else t)
      by c t true = asked-grows owner (Disable c) t
      by c t false = none-grows t

  -- ---- the code's loop

  -- the coils that are held now, turned off now, are all, turned off at the start
  pub record IsReleasing (start now : CoreView) : Type 0 where
    pub left : after all_off now ≡ after all_off start
    pub all : length now.machine.coils ≡ length plan.coils

  module _ (start now : CoreView) (h : IsReleasing start now) where
    pub releasing-end : None ≡ answer_release owner now.machine.moment now.machine.coils → (last : CoreView)
        → last ≡ after (λ s. set_coils (after_release owner s.moment s.coils) s) now
        → last ≡ after all_off start
    releasing-end none last last_is =
        by (next_held owner now.machine.coils) refl none
      where
        by : (o : Option CoilId) → o ≡ next_held owner now.machine.coils → None ≡ option_map Disable o
            → last ≡ after all_off start
        by None e n =
            last_is
            ∙ ap (λ (o : Option CoilId). after (set_coils (put_off_now o)) now) (sym e)
            ∙ ap (λ (t : Machine). record now { machine = t }) (sym (released-end now.machine h.all e))
            ∙ h.left
          where
            put_off_now : Option CoilId → List CoilState
            put_off_now o = put_off o now.machine.coils
        by (Some c) e n = cc

    -- one more is turned off
    module _ (command : Command) (answer : Some command ≡ answer_release owner now.machine.moment now.machine.coils)
        (released : CoreView) (released_is : released
        ≡ after (λ s. set_coils (after_release owner s.moment s.coils) s) now) where
      record IsNext : Type 0 where
        coil : CoilId
        first : Some coil ≡ next_held owner now.machine.coils
        command_is : command ≡ Disable coil

      next : IsNext
      next = by (next_held owner now.machine.coils) refl answer
        where
          by : (o : Option CoilId) → o ≡ next_held owner now.machine.coils → Some command ≡ option_map Disable o
              → IsNext
          by None e a = cc
          by (Some coil) e a = record { coil = coil; first = e; command_is = same_Some command (Disable coil) a }

      abbrev gone : Machine
      gone = let_go now.machine h.all next.coil next.first

      module _ (written : CoreView) (written_is : written ≡ after (write owner (lines.Coil command)) released) where
        gone-is : written ≡ after (λ s. gone) now
        gone-is =
            written_is
            ∙ ap (after (write owner (lines.Coil command))) released_is
            ∙ (λ i. record now {
              machine = write owner (lines.Coil (next.command_is i))
                  (set_coils (put_off (sym next.first i) now.machine.coils) now.machine);
            })

        pub releasing-next : IsReleasing start written
        releasing-next = record {
          left =
              ap (after all_off) gone-is
              ∙ ap (λ (t : Machine). record now { machine = t })
              (sym (released-first now.machine h.all next.coil next.first))
              ∙ h.left;
          all = ap (λ (v : CoreView). length v.machine.coils) gone-is
              ∙ length-set now.machine.coils next.coil.0 (disable_coil (coil_at now.machine.coils next.coil)) ∙ h.all;
        }

        one-more : length gone.lines ≡ length now.machine.lines + 1
        one-more = length-append now.machine.lines
            (record { moment = now.machine.moment; owner = owner; happening = lines.Coil (Disable next.coil) } ∷ [])

        module _ (room : IsWithin start.room (all_off start.machine)) where
          room-next : length now.machine.lines < now.room
          room-next =
              let same : IsWithin now.room (all_off now.machine) =
              subst (λ (v : CoreView). IsWithin v.room v.machine) (sym h.left) room in
              let fits = same.lines in
              let grown = (release-grows gone).lines in
              let one = ap (λ (t : Machine). length t.lines) (released-first now.machine h.all next.coil next.first) in
              omega (arith, fits, grown, one, one-more)

          pub releasing-room : length released.machine.lines < released.room
          releasing-room = subst (λ (v : CoreView). length v.machine.lines < v.room) (sym released_is) room-next

          pub releasing-smaller : written.room - length written.machine.lines < now.room - length now.machine.lines
          releasing-smaller =
              let fits = room-next in
              subst (λ (v : CoreView). v.room - length v.machine.lines < now.room - length now.machine.lines)
              (sym gone-is) (omega (arith, fits, one-more))

-- ---- a mode stops

-- if all that is done leaves room, the stop of its devices does
pub stopped-room : (plan : PlanView) (kept : Bool) (m : ModeId) (work : Work) (room : ℕ) (s : Machine)
    → work ≡ Mode m Stopping → IsWithin room (do_after plan kept work s)
    → IsWithin room (call_devices plan calls.ModeStop m s)
stopped-room plan kept m work room s is h = search (rules, is, release-grows, length-append)

-- and there are all coils after it
pub stopped-coils : (m : ModeId) (old stopped : CoreView) → stopped ≡ after (call_devices old.plan calls.ModeStop m) old
    → CanCall old → length stopped.machine.coils ≡ length stopped.plan.coils
stopped-coils m old stopped is h =
    let can = can-does old old.running (call_devices old.plan calls.ModeStop m old.machine)
    (does-calls old.plan (λ owner. Unit {0}) tt calls.ModeStop m tt old.machine) h in
    subst (λ (v : CoreView). length v.machine.coils ≡ length v.plan.coils) (sym is) can.coils
