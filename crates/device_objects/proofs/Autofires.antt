-- Autofire coils are lawful.
use Rattle.std.proofs.Common.{rules, ◌≡◌, ℕ, ◌==◌, true, List, [], ◌∷◌, refl}
use Rattle.std.{specs.List.All, proofs.lemmas.List.Elements.{All-nil, All-cons, All-append}}
use Rattle.plan_tables.specs.declared.devices.{Act.Act, Settings.TheVariants.Autofire}
use Rattle.plan_tables.specs.Devices.{IsWithinLimits, list_count}
use Rattle.plan_tables.specs.declared.devices.Act.TheVariants as acts
use Rattle.device_objects.specs.declared.state.AutofireState.{AutofireState}
use Rattle.device_objects.specs.{Kinds.moments_of, Laws.IsLawful, Autofire.of_autofire}
use Rattle.device_objects.specs.Autofire.{act_step, autofire, autofire_state, autofires, fire_list, first_state}
use Rattle.device_objects.proofs.Among.{In, here, switch-in, switch_comes, one, if_true}
use Rattle.device_objects.proofs.Calm.{IsActAnswer, calm-lawful, someone}
use Rattle.device_objects.specs.declared.state.DeviceState.TheVariants as states

act-in : (act : Act) (s : AutofireState) → In (act_step act s).1 (of_autofire act)
act-in (acts.SwitchOn i) s = switch-in s.enabled i fire_list s s
act-in _ s = here

answered : (act : Act) (ls : List ℕ) (s : AutofireState) → (act_step act s).1 ≡ ls → IsActAnswer autofire act ls
answered act ls s is = record { now = 0; world = someone; state = s; shape = tt; may_come = tt; answer = is }

-- an autofire coil that is enabled
abbrev enabled : AutofireState
enabled = record { enabled = true }

come : (act : Act) → All (IsActAnswer autofire act) (of_autofire act)
come (acts.SwitchOn i) =
    switch_comes (IsActAnswer autofire (acts.SwitchOn i)) i fire_list (answered (acts.SwitchOn i) [] first_state refl)
    (λ is. answered (acts.SwitchOn i) (fire_list ∷ []) enabled
    (if_true (i == 0) (enabled, fire_list ∷ []) (enabled, []) is))
come act = one (IsActAnswer autofire act) [] (answered act [] first_state refl)

pub autofires-lawful : IsLawful autofires moments_of (IsWithinLimits Autofire) (list_count Autofire)
autofires-lawful =
    calm-lawful states.Autofire autofire_state autofire (IsWithinLimits Autofire) 1 (λ s. refl)
    (λ state s is. search rules) (λ s. refl) tt (λ s shape. tt) (λ s shape. tt) (λ act now world s shape. tt)
    (λ act now world s shape. act-in act s)
    (λ within. come) (λ act now world s. search rules) (λ act. search rules)
    (λ act. search (rules, All-nil, All-cons, All-append))
