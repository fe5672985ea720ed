use Rattle.std.proofs.{Common.{◌≡◌, ℕ, List, map, ◌++◌, [], sym, ap, ◌∙◌}, lemmas.Result.IfOk-weaker}
use Rattle.yaml_subset.specs.Keys.{is_among}
use Rattle.mpf_sections.specs.{View.section_view, Typed.listed_modes}
use Rattle.mpf_config.specs.View.{rows_view, mode_view}
use Rattle.row_faults.specs.Reserved.{events_of_modes, mode_names}
use Rattle.row_faults.specs.{RowFaults.{listed_once, row_faults}, View.{events_view, row_faults_view}}
use Rattle.row_faults.proofs.{Sound.no_faults_sound, RowFaults.{same_faults, joined-events}}
use Rattle.row_faults.proofs.rows.faults_of_rows.Goals as goal

pub returns-clause-exact : goal.returns-clause-exact
unfolding row_faults
returns-clause-exact c =
    let rows = rows_view c.config-config.result.now in
    let modes = c.listed_modes.ensures ∙ ap (λ sections. listed_modes (map section_view sections)) c.deref.ensures.value
    in
    let names = map (λ w. w.text) (listed_modes rows.machine) in
    let more = map (λ m. m.name) rows.modes in
    let listed : (q : List ℕ) → is_among (events_view c.in_ok-modes.modes) q ≡ is_among (events_of_modes names) q =
    λ q. c.in_ok-modes.ensures q ∙ ap (λ ws. is_among (events_of_modes (map (λ w. w.text) ws)) q) modes in
    let same : (q : List ℕ) → is_among (events_view c.add_texts.new.events) q
    ≡ is_among (events_of_modes (mode_names rows)) q =
    λ q. c.in_ok-add_texts.ensures q ∙ ap (λ ts. is_among
    (events_view c.in_ok-modes.modes ++ events_of_modes (map (λ m. m.name) (map mode_view ts))) q)
    c.deref-2.ensures.value ∙ joined-events names more (events_view c.in_ok-modes.modes) q (listed q) in
    IfOk-weaker c.listed_once.result _ _ (λ once e. e
    ∙ ap (listed_once []) (c.in_ok-faults.ensures
    ∙ same_faults (events_view c.add_texts.new.events) (events_of_modes (mode_names rows)) rows same)
    ∙ ap row_faults c.config-config.ensures) c.listed_once.ensures

pub returns-clause-sound : goal.returns-clause-sound
returns-clause-sound c =
    IfOk-weaker c.listed_once.result _ _ (λ once exact none. no_faults_sound c.args.definitions.now
    (sym exact ∙ ap row_faults_view none)) (returns-clause-exact c)
