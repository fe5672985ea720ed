use Rattle.std.proofs.Common.{◌≡◌, ◌++◌, ◌||◌, ◌+◌, ◌<◌, ℕ, Bool, false, not, List, drop, length, get_or, sym, ap, ◌∙◌}
use Rattle.std.proofs.{Common.arith, lemmas.List.{length-map, get_or-map}}
use Rattle.mpf_sections.specs.{View.ball_device_view, Rows.BallDeviceEntry}
use Rattle.machine_definitions.{specs.Found.is_found, proofs.Finding.next-is}
use Rattle.row_faults.{specs.declared.fault.RowFaultKind.TheVariants.BallRoute, proofs.Collected.with-more}
use Rattle.row_faults.specs.{Collected.{FaultsView, with_faults}, CoilFaults.fault_if, View.devices_view}
use Rattle.row_faults.specs.{Routes.{leads_to_playfield, lacks_coil}, BallFaults.{is_route_wrong, rest_faults}}
use Rattle.row_faults.proofs.routes.add_faults.Goals as goal

pub loop-number-preserved : goal.loop-number-preserved
loop-number-preserved c =
    let l = c.loop-number in
    let given = c.args.devices.now in
    let devices = devices_view given in
    let item = c.index-devices-number.result in
    let d = ball_device_view item in
    let n = l.number in
    let f = l.faults in
    let before = is_found l.names_before in
    let after = is_found c.take_switches.new.names_before in
    let less : n < length given = c.loop-number-test.true in
    let within : n < length devices = omega (arith, less, length-map given ball_device_view) in
    let here : get_or devices n d ≡ d = get_or-map ball_device_view given n item d less
    ∙ ap ball_device_view (sym c.index-devices-number.is) in
    let ways : (e : Bool) → get_or c.args.leads.now n e ≡ leads_to_playfield devices d =
    λ e. ap (λ (flags : List Bool). get_or flags n e) c.requires
    ∙ get_or-map (leads_to_playfield devices) devices n d e within ∙ ap (leads_to_playfield devices) here in
    let wrong : c.is_wrong-wrong.result ≡ is_route_wrong devices before d = c.is_wrong-wrong.ensures
    ∙ (λ i. not (ways false i) || c.in_ok-again.ensures.again i || lacks_coil d) in
    let rest = drop (n + 1) devices in
    let fault = fault_if (is_route_wrong devices before d) BallRoute f.text d.name in
    let found : c.add_if.new.faults ≡ with_faults f fault = c.in_ok-add_if.ensures
    ∙ (λ i. with_faults f (fault_if (wrong i) BallRoute f.text (c.at-name.ensures i))) in
    ap (λ (g : FaultsView). with_faults g (rest_faults devices after g.text rest)) found
    ∙ with-more f fault (rest_faults devices after f.text rest)
    ∙ ap (λ (test : List ℕ → Bool). with_faults f (fault ++ rest_faults devices test f.text rest))
    c.in_ok-again.ensures.takes
    ∙ next-is (λ (ds : List BallDeviceEntry). with_faults f (rest_faults devices before f.text ds)) devices n d within
    (sym here)
    ∙ l.invariant
