use Rattle.std.{proofs.Common.{◌≡◌, ◌++◌, ℕ, Bool, List, map, ap, ◌∙◌}, specs.{Borrow.Bor, List.list_any}}
use Rattle.mpf_sections.specs.View.{section_view}
use Rattle.mpf_config.specs.{BundleText.machine_name, View.{mode_view, rows_view}}
use Rattle.machine_definitions.specs.Found.{has_bytes, is_found}
use Rattle.row_faults.specs.{FaultView.RowFaultView, ShotFaults.{listed_of, taken_after}, View.events_view}
use Rattle.row_faults.specs.RowFaults.{text_faults, mode_faults, is_none_taken}
use Rattle.row_faults.proofs.rows.faults_of_texts.Goals as goal

pub returns : goal.returns
returns c =
    let modes = events_view c.args.modes.now in
    let given = c.args.definitions.now in
    let machine = c.as_slice-machine.result.now in
    let texts = c.as_slice-texts.result.now in
    let nothing = is_found c.with_hasher-shots_before.result in
    let none : nothing ≡ is_none_taken = λ i name. ap (λ (keys : List (Bor (List ℕ))). list_any (has_bytes name) keys)
    c.with_hasher-shots_before.ensures.empty i in
    let is : given ≡ rows_view c.args.config.now = c.requires in
    c.in_ok-add_modes.ensures
    ∙ ap (λ (fs : List RowFaultView). fs ++ mode_faults modes given (is_found c.faults_of_text.new.shots_before)
    (map mode_view texts)) c.in_ok-faults.ensures.faults
    ∙ ap (λ (test : List ℕ → Bool). text_faults modes given nothing machine_name (map section_view machine)
    ++ mode_faults modes given test (map mode_view texts)) c.in_ok-faults.ensures.takes
    ∙ (λ i. text_faults modes (is i) (none i) machine_name (map section_view (c.as_slice-machine.ensures.value i))
    ++ mode_faults modes (is i) (taken_after (none i)
    (listed_of (is i) (map section_view (c.as_slice-machine.ensures.value i))))
    (map mode_view (c.as_slice-texts.ensures.value i)))
