use Rattle.std.proofs.Common.{◌≡◌, Bool, true, [], ◌∷◌, fold, Some, ap, sym, ◌∙◌}
use Rattle.std.{specs.{Prelude.if◌then◌else◌, Str.bytes_eq}, proofs.lemmas.Iterator.Adapters.option_map_id}
use Rattle.mpf_sections.specs.{TypedBalls.{ball_devices_name, ball_device_of}, View.entry_view}
use Rattle.machine_definitions.proofs.Finding.{took-value}
use Rattle.plan_rows.specs.{Seats.latest, View.found_row}
use Rattle.plan_rows.proofs.seats.add_ball_device.Goals as goal

pub returns-in_ok-insert : goal.returns-in_ok-insert
unfolding ball_device_of
returns-in_ok-insert c = λ name.
    let old = c.args.rows.now in
    let new = c.insert.new.self in
    let before = c.args.before in
    let own = (ball_device_of (entry_view c.args.entry.now)).name.text in
    let key : c.deref.result.now ≡ own = c.deref.ensures in
    let named : bytes_eq c.args.section.now ball_devices_name ≡ true = sym c.eq.ensures ∙ c.if-eq.true in
    sym (option_map_id (found_row new name))
    ∙ took-value (λ n. n) old new c.deref.result before own key c.in_ok-insert.ensures.updates name
    ∙ (λ i. if bytes_eq name own then Some before else option_map_id (found_row old name) i)
    ∙ ap (λ (b : Bool). fold (latest name) (found_row old name) (if b then (own, before) ∷ [] else [])) (sym named)
