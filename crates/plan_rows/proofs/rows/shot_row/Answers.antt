use Rattle.std.proofs.Common.{◌≡◌, option_map, ap, ◌∙◌}
use Rattle.mpf_sections.specs.{Rows.Shot, TypedShots.shot_of, View.entry_view}
use Rattle.machine_definitions.specs.{Found.profile_view, Shots.{has_profile, profile_of_name}}
use Rattle.machine_definitions.proofs.Finding.{value-found}
use Rattle.plan_rows.specs.{Rows.shot, View.{seat_view, found_seat}}
use Rattle.plan_rows.proofs.rows.shot_row.Goals as goal

pub returns : goal.returns
returns c =
    let rows = c.args.definitions.now in
    let seats = c.args.seats.now.shots in
    let s = shot_of (entry_view c.args.entry.now) in
    let name = c.as_slice.ensures ∙ ap (λ (x : Shot). x.name.text) c.as_shot-shot.ensures in
    let profile = ap (λ (x : Shot). x.profile.text) c.as_shot-shot.ensures in
    let seat : option_map seat_view c.copied.result ≡ found_seat seats s.name.text =
    ap (option_map seat_view) (c.copied.ensures ∙ c.get.ensures.value)
    ∙ value-found seat_view seats c.as_slice.result.now ∙ ap (found_seat seats) name in
    let known : c.has_profile.result ≡ has_profile rows s.profile.text = c.has_profile.ensures
    ∙ ap (has_profile rows) profile in
    let its : profile_view c.profile.result.now ≡ profile_of_name rows s.profile.text = c.profile.ensures
    ∙ ap (profile_of_name rows) profile in
    λ i. shot c.args.place s (seat i) (known i) (its i)
