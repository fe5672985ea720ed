-- Multiballs are lawful.
use Rattle.std.proofs.Common.{rules, ◌≡◌, ℕ, Bool, true, false, List, [], ◌∷◌, refl}
use Rattle.std.{specs.List.All, proofs.lemmas.List.Elements.{All-nil, All-cons, All-append}}
use Rattle.plan_tables.specs.declared.devices.{Act.Act, Settings.TheVariants.Multiball}
use Rattle.plan_tables.specs.Devices.{IsWithinLimits, list_count}
use Rattle.plan_tables.specs.declared.devices.Act.TheVariants as acts
use Rattle.machine_settings.specs.declared.settings.MultiballSettings.{MultiballSettings}
use Rattle.device_objects.specs.declared.state.{MultiballState.MultiballState, World.World}
use Rattle.device_objects.specs.{Kinds.moments_of, Laws.IsLawful, Multiball.start_list}
use Rattle.device_objects.specs.Multiball.{act_step, end_list, multiball, multiball_state, multiballs, of_multiball}
use Rattle.device_objects.proofs.{Among.{In, here, there, one, two}, Calm.{IsActAnswer, calm-lawful}}
use Rattle.device_objects.specs.declared.state.DeviceState.TheVariants as states

act-in : (act : Act) (world : World) (s : MultiballState) → In (act_step act world s).1 (of_multiball act)
act-in act world s = search (rules, here, there)

-- a ball is in play
abbrev in_play : World
in_play = record { games = 0; player = 1; in_play = 1 }

answered : (act : Act) (ls : List ℕ) (b : Bool) → (act_step act in_play (record { running = b })).1 ≡ ls
    → IsActAnswer multiball act ls
answered act ls b is =
    record { now = 0; world = in_play; state = record { running = b }; shape = tt; may_come = tt; answer = is }

come : (act : Act) → All (IsActAnswer multiball act) (of_multiball act)
come acts.Start =
    two (IsActAnswer multiball acts.Start) [] (start_list ∷ []) (answered acts.Start [] true refl)
    (answered acts.Start (start_list ∷ []) false refl)
come acts.End =
    two (IsActAnswer multiball acts.End) [] (end_list ∷ []) (answered acts.End [] false refl)
    (answered acts.End (end_list ∷ []) true refl)
come act = one (IsActAnswer multiball act) [] (answered act [] false refl)

pub multiballs-lawful : (m : MultiballSettings)
    → IsLawful multiballs moments_of (IsWithinLimits (Multiball m)) (list_count (Multiball m))
multiballs-lawful m =
    calm-lawful states.Multiball multiball_state multiball (IsWithinLimits (Multiball m)) 2 (λ s. refl)
    (λ state s is. search rules) (λ s. refl) tt (λ s shape. tt) (λ s shape. tt) (λ act now world s shape. tt)
    (λ act now world s shape. act-in act world s)
    (λ within. come) (λ act now world s. search rules) (λ act. search rules)
    (λ act. search (rules, All-nil, All-cons, All-append))
