use Rattle.std.proofs.Common.{◌≡◌, ◌||◌, map, drop}
use Rattle.machine_definitions.specs.Found.{is_found}
use Rattle.mpf_sections.specs.View.{name_view}
use Rattle.row_faults.specs.Routes.{all_taken, is_one_taken}
use Rattle.row_faults.proofs.routes.take_switches.Given as goal

abbrev pub invariant-loop-switch : goal.invariant-loop-switch
invariant-loop-switch l =
    record {
      again : (l.again || is_one_taken (map (λ w. w.text) (map name_view (drop l.switch-index l.switches)))
          (is_found l.names_before)) ≡ is_one_taken (map (λ w. w.text) (map name_view l.switches))
          (is_found l.initial.names_before);
      taken : all_taken (map (λ w. w.text) (map name_view (drop l.switch-index l.switches))) (is_found l.names_before)
          ≡ all_taken (map (λ w. w.text) (map name_view l.switches)) (is_found l.initial.names_before);
    }
