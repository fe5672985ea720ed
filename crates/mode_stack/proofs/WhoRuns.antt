-- Being told to start or to stop changes no mode from one that runs to one that does not, or back.
use Rattle.std.proofs.{Common.{◌≡◌, Bool, true, false, if◌then◌else◌, refl, sym}, Math.Seq.map-set_same}
use Rattle.mode_stack.specs.declared.phase.{Phase.{Phase, TheVariants.{Idle, Starting}}, ModeState.ModeState}
use Rattle.mode_stack.specs.ModeStep.{in_phase, is_running, starts, after_start, after_stop}
use Rattle.mode_stack.specs.Modes.{mode_state, StartingKeepsWhoRuns}

started-by : (starts : Bool) (s : ModeState) → is_running s.phase ≡ false
    → is_running (if starts then in_phase Starting else s).phase ≡ is_running s.phase
started-by true s idle = sym idle
started-by false s idle = refl

started-runs : (needs game : Bool) (phase : Phase) (kept : Bool)
    → is_running (after_start needs game (record { phase = phase; keeps_stop = kept })).phase ≡ is_running phase
started-runs needs game Idle kept = started-by (starts needs game Idle) (record { phase = Idle; keeps_stop = kept })
    refl
started-runs needs game _ kept = refl

stopped-runs : (phase : Phase) (kept : Bool)
    → is_running (after_stop (record { phase = phase; keeps_stop = kept })).phase ≡ is_running phase
stopped-runs Idle kept = refl
stopped-runs _ kept = refl

pub starting_keeps_who_runs : StartingKeepsWhoRuns
starting_keeps_who_runs = record {
  start = λ modes m needs game. map-set_same (λ (s : ModeState). is_running s.phase) modes m.0
      (after_start needs game (mode_state modes m)) (in_phase Idle)
      (started-runs needs game (mode_state modes m).phase (mode_state modes m).keeps_stop);
  stop = λ modes m. map-set_same (λ (s : ModeState). is_running s.phase) modes m.0 (after_stop (mode_state modes m))
      (in_phase Idle) (stopped-runs (mode_state modes m).phase (mode_state modes m).keeps_stop);
}
