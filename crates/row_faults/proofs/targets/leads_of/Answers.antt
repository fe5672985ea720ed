use Rattle.std.proofs.Common.{◌≡◌, ℕ, ◌==◌, List, length, map, sym, ap, ◌∙◌}
use Rattle.std.proofs.lemmas.{Result.IfOk-weaker, List.length-map}
use Rattle.mpf_sections.specs.{Rows.BallDeviceEntry, View.ball_device_view}
use Rattle.row_faults.{specs.{View.devices_view, Numbers.{number_found, number_of}}, proofs.Leads.leads-by-ends}
use Rattle.row_faults.proofs.targets.leads_of.Goals as goal

pub returns : goal.returns
returns c =
    let given = c.args.devices.now in
    let devices = devices_view given in
    let found = number_found c.in_ok-numbers.numbers in
    let long : length given ≡ length devices = sym (length-map given ball_device_view) in
    let targets = c.deref.ensures.value ∙ c.in_ok-targets.ensures
    ∙ ap (λ (n : ℕ). map (λ (d : BallDeviceEntry). number_of found n d.target.text) devices) long in
    let leads = leads-by-ends devices found c.in_ok-numbers.ensures c.deref.result.now c.in_ok-ends.ends.items
    (length given) targets long c.in_ok-ends.ensures in
    IfOk-weaker c.are_playfield.result _ _
    (λ flags e. e ∙ ap (λ (ends : List ℕ). map (λ (n : ℕ). n == length ends) ends) c.deref-2.ensures.value ∙ leads)
    c.are_playfield.ensures
