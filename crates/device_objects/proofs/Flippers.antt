-- Flippers are lawful.
use Rattle.std.proofs.Common.{rules, ◌≡◌, ℕ, ◌==◌, true, false, List, [], ◌∷◌, refl}
use Rattle.std.{specs.List.All, proofs.lemmas.List.Elements.{All-nil, All-cons, All-append}}
use Rattle.plan_tables.specs.declared.devices.{Act.Act, Settings.TheVariants.Flipper}
use Rattle.plan_tables.specs.Devices.{IsWithinLimits, list_count}
use Rattle.plan_tables.specs.declared.devices.Act.TheVariants as acts
use Rattle.device_objects.specs.declared.state.FlipperState.{FlipperState}
use Rattle.device_objects.specs.{Kinds.moments_of, Laws.IsLawful, Flipper.{off_list, on_list}}
use Rattle.device_objects.specs.Flipper.{act_step, first_state, flipper, flipper_state, flippers, of_flipper}
use Rattle.device_objects.proofs.Among.{In, here, there, either, switch-in, switch_comes, one, two, if_true}
use Rattle.device_objects.proofs.Calm.{IsActAnswer, calm-lawful, someone}
use Rattle.device_objects.specs.declared.state.DeviceState.TheVariants as states

act-in : (act : Act) (s : FlipperState) → In (act_step act s).1 (of_flipper act)
act-in acts.Disable s =
    either s.on (record s { enabled = false; on = false }, off_list ∷ []) (record s { enabled = false }, [])
    (λ is. there here) (λ not. here)
act-in (acts.SwitchOn i) s = switch-in s.enabled i on_list (record s { on = true }) s
act-in (acts.SwitchOff i) s = switch-in s.on i off_list (record s { on = false }) s
act-in _ s = here

answered : (act : Act) (ls : List ℕ) (s : FlipperState) → (act_step act s).1 ≡ ls → IsActAnswer flipper act ls
answered act ls s is = record { now = 0; world = someone; state = s; shape = tt; may_come = tt; answer = is }

-- a flipper that is enabled and on
abbrev up : FlipperState
up = record { enabled = true; on = true }

come : (act : Act) → All (IsActAnswer flipper act) (of_flipper act)
come acts.Disable =
    two (IsActAnswer flipper acts.Disable) [] (off_list ∷ []) (answered acts.Disable [] first_state refl)
    (answered acts.Disable (off_list ∷ []) up refl)
come (acts.SwitchOn i) =
    switch_comes (IsActAnswer flipper (acts.SwitchOn i)) i on_list (answered (acts.SwitchOn i) [] first_state refl)
    (λ is. answered (acts.SwitchOn i) (on_list ∷ []) up (if_true (i == 0) (up, on_list ∷ []) (up, []) is))
come (acts.SwitchOff i) =
    switch_comes (IsActAnswer flipper (acts.SwitchOff i)) i off_list (answered (acts.SwitchOff i) [] first_state refl)
    (λ is. answered (acts.SwitchOff i) (off_list ∷ []) up
    (if_true (i == 0) (record up { on = false }, off_list ∷ []) (up, []) is))
come act = one (IsActAnswer flipper act) [] (answered act [] first_state refl)

pub flippers-lawful : IsLawful flippers moments_of (IsWithinLimits Flipper) (list_count Flipper)
flippers-lawful =
    calm-lawful states.Flipper flipper_state flipper (IsWithinLimits Flipper) 2 (λ s. refl) (λ state s is. search rules)
    (λ s. refl) tt (λ s shape. tt) (λ s shape. tt) (λ act now world s shape. tt) (λ act now world s shape. act-in act s)
    (λ within. come) (λ act now world s. search rules) (λ act. search rules)
    (λ act. search (rules, All-nil, All-cons, All-append))
