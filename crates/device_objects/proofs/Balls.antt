-- Ball devices are lawful.
use Rattle.std.proofs.Common.{rules, ℕ, ◌<◌, Bool, Option, List, [], if◌then◌else◌, refl}
use Rattle.std.{specs.List.All, proofs.lemmas.List.Elements.{All-nil, All-cons, All-append}}
use Rattle.plan_tables.specs.declared.devices.{Act.Act, BallSettings.BallSettings, Settings.TheVariants.BallDevice}
use Rattle.plan_tables.specs.Devices.{IsWithinLimits, list_count}
use Rattle.device_objects.specs.declared.{device.Call.Call, state.{BallState.BallState, Eject.Eject}}
use Rattle.device_objects.specs.declared.state.DeviceState.TheVariants as states
use Rattle.device_objects.specs.{Kinds.moments_of, Laws.IsLawful, BallDevice.{moments, time_out}}
use Rattle.device_objects.specs.BallDevice.{act_step, ball_device, ball_devices, ball_state, ball_step, count_due, fire}
use Rattle.device_objects.proofs.{Among.contains, BallAnswers.ball-in, BallMoments.ball-stopped_quiet}
use Rattle.device_objects.proofs.BallShapes.{first_ball-shape, ball_step-shape}
use Rattle.device_objects.proofs.{BallAttained.ball-comes, InStates.in_states-lawful}
use Rattle.device_objects.proofs.BallMoments.{ball-arms_later, ball-fired, ball-fires_first, ball-parts_few}

-- ---- each effect list that a ball device answers is one of its seven

abbrev AreLists : List ℕ → Type 0
AreLists lists = All (λ k. k < 7) lists

no_list : AreLists []
no_list = All-nil (λ k. k < 7)

module _ (d : BallSettings) where
  either : (test : Bool) (x y : BallState × List ℕ) → AreLists x.1 → AreLists y.1 → AreLists (if test then x else y).1
  either test x y first second = search rules

  time_out-lists : (now : ℕ) (eject : Eject) (s : BallState) → AreLists (time_out d now eject s).1
  time_out-lists now eject s = search rules

  count_due-lists : (now : ℕ) (first : Option (ℕ × ℕ)) (s : BallState) → AreLists (count_due d now first s).1
  count_due-lists now first s = search rules

  fire-lists : (now : ℕ) (s : BallState) → AreLists (fire d now s).1
  fire-lists now s = search (rules, either, time_out-lists, count_due-lists)

  act-lists : (act : Act) (now : ℕ) (s : BallState) → AreLists (act_step d act now s).1
  act-lists act now s = search rules

  ball_step-lists : (call : Call) (now : ℕ) (s : BallState) → AreLists (ball_step d call now s).1
  ball_step-lists call now s = search (rules, fire-lists, act-lists, no_list)

-- ---- the law

pub ball_devices-lawful : (d : BallSettings)
    → IsLawful (ball_devices d) moments_of (IsWithinLimits (BallDevice d)) (list_count (BallDevice d))
ball_devices-lawful d =
    in_states-lawful states.BallDevice ball_state (ball_device d) moments (IsWithinLimits (BallDevice d)) 7 (λ s. refl)
    (λ state s is. search rules) (λ s. refl)
    (record {
      first = first_ball-shape d;
      step = λ call now world s shape. ball_step-shape d call now s shape;
      answers = λ call now world s shape may. contains (ball-in d call now s shape may);
      comes = ball-comes d;
      of_row = λ call. search rules;
      answers_of_row = λ call now world s. ball_step-lists d call now s;
      short = λ call. search (rules, All-nil, All-cons, All-append);
      silent_stop = refl;
      quiet = refl;
      stop = λ now world s shape. ball-stopped_quiet s;
      arms = λ limits call now world s part due is. ball-arms_later d call now s limits part due is;
      fires = λ now world s shape. ball-fires_first d now world s;
      later_part = λ limits now world s shape. ball-fired d now s limits;
      few = λ s part shape past. ball-parts_few s part shape.switches past;
    })
