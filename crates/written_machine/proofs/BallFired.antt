-- What the alarm of a ball device does with its ball switches.
use Rattle.std.proofs.Common.{rules, ◌≡◌, ℕ, inl, inr, ◌⊎◌, false, Option, Some, None, slice_set, get_or, option_map}
use Rattle.std.proofs.{Common.{refl, ap, ◌∙◌, subst, arith}, lemmas.Bool.cond_both}
use Rattle.plan_tables.specs.declared.devices.BallSettings.{BallSettings}
use Rattle.device_objects.{specs.declared.state.{BallState.BallState, Eject.Eject}, proofs.BallDue.first_due-is_due}
use Rattle.device_objects.specs.BallDevice.{empty, switch_at, first_due, timeout_of, earlier, is_timeout_first}
use Rattle.device_objects.specs.BallDevice.{time_out, turn_over, count, count_due, fire, due_of}

-- one ball switch, which was due at this moment, has turned
pub record HasTurned (b t : BallState) (at : ℕ) : Type 0 where
  pub place : ℕ
  pub due : (get_or b.switches place empty).due ≡ Some at
  pub switches : t.switches ≡ slice_set b.switches place (turn_over (get_or b.switches place empty))

-- or all are the same
abbrev pub IsFired : BallState → ℕ → BallState → Type 0
IsFired b at t = (t.switches ≡ b.switches) ⊎ HasTurned b t at

module _ (d : BallSettings) where
  time_out-switches : (now : ℕ) (eject : Eject) (b : BallState) → (time_out d now eject b).0.switches ≡ b.switches
  time_out-switches now eject b = search rules

  count-switches : (now i : ℕ) (b : BallState)
      → (count d now i b).0.switches ≡ slice_set b.switches i (turn_over (switch_at b i))
  count-switches now i b = search rules

  -- the ball switch that is due first is due at the device's moment
  first-moment : (at : ℕ) (a : ℕ × ℕ) (timeout : Option ℕ) → is_timeout_first (Some a) timeout ≡ false
      → earlier (Some a.0) timeout ≡ Some at → a.0 ≡ at
  first-moment at a timeout not is = search rules

  counted-fired : (now at : ℕ) (b : BallState) (first : Option (ℕ × ℕ)) → first_due b ≡ first
      → is_timeout_first first (timeout_of b.eject) ≡ false
      → earlier (option_map (λ a. a.0) first) (timeout_of b.eject) ≡ Some at → IsFired b at (count_due d now first b).0
  counted-fired now at b None is not due = inl refl
  counted-fired now at b (Some a) is not due =
      let its = first_due-is_due 0 b.switches a is in
      let moment = first-moment at a (timeout_of b.eject) not due in
      let place : its.0 ≡ a.1 = omega (arith, its.1) in
      inr (record {
        place = a.1;
        due = subst (λ (k : ℕ). (get_or b.switches k empty).due ≡ Some at) place
            (its.2 ∙ ap (λ (k : ℕ). Some k) moment);
        switches = count-switches now a.1 b;
      })

  pub fire-fired : (now at : ℕ) (b : BallState) → due_of b ≡ Some at → IsFired b at (fire d now b).0
  fire-fired now at b due = search (rules, cond_both, time_out-switches, counted-fired)
