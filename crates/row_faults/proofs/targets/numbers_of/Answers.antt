use Rattle.std.proofs.Common.{rules, ◌≡◌, ℕ, ◌+◌, ◌<◌, Bool, if◌then◌else◌, List, [], ◌∷◌, ◌++◌, length, take, Option}
use Rattle.std.proofs.Common.{Some, IfSome, option_map, sym, ap, subst, ◌∙◌, arith}
use Rattle.std.specs.{List.slice_get, Str.bytes_eq}
use Rattle.std.proofs.lemmas.List.{take_more, length-map, get_or-map, Sums.fold_push}
use Rattle.std.proofs.lemmas.{Iterator.Adapters.option_map_id, Option.{slice_get-map, slice_get-get_or}}
use Rattle.mpf_sections.specs.{Rows.BallDeviceEntry, View.ball_device_view}
use Rattle.row_faults.specs.{View.devices_view, Numbers.{number_found, device_at}}
use Rattle.machine_definitions.proofs.Finding.{took-value}
use Rattle.row_faults.proofs.targets.numbers_of.Goals as goal

-- a number is found, or what was found before
within-more : (count n : ℕ) (b : Bool) (found : Option ℕ) → n < count → IfSome found (λ m. m < count)
    → IfSome (if b then Some n else found) (λ m. m < count)
within-more count n x3 found less h = search rules

called-more : (devices : List BallDeviceEntry) (name : List ℕ) (n : ℕ) (d : BallDeviceEntry) (b : Bool)
    (found : Option ℕ) (e : Option BallDeviceEntry) → slice_get devices n ≡ Some d → device_at devices found ≡ e
    → device_at devices (if b then Some n else found) ≡ (if b then Some d else e)
called-more devices name n d x5 found e is h = search rules

pub loop-number-preserved : goal.loop-number-preserved
loop-number-preserved c =
    let l = c.loop-number in
    let given = c.args.devices.now in
    let devices = devices_view given in
    let item = c.index-devices-number.result in
    let d = ball_device_view item in
    let n = l.number in
    let less : n < length given = c.loop-number-test.true in
    let took : (name : List ℕ) → number_found c.insert.new.self name
    ≡ (if bytes_eq name d.name.text then Some n else number_found l.numbers name) =
    λ name. sym (option_map_id _) ∙ took-value (λ n. n) l.numbers c.insert.new.self c.deref.result n d.name.text
    c.deref.ensures c.in_ok-insert.ensures.updates name
    ∙ ap (λ (o : Option ℕ). if bytes_eq name d.name.text then Some n else o)
    (option_map_id (number_found l.numbers name)) in
    let here : slice_get devices n ≡ Some d = slice_get-map ball_device_view given n
    ∙ ap (option_map ball_device_view)
    (slice_get-get_or given n item less ∙ ap (λ (x : _). Some x) (sym c.index-devices-number.is)) in
    let more : take (n + 1) devices ≡ take n devices ++ d ∷ [] =
    take_more devices n d (omega (arith, less, length-map given ball_device_view))
    ∙ ap (λ (x : BallDeviceEntry). take n devices ++ x ∷ [])
    (get_or-map ball_device_view given n item d less ∙ ap ball_device_view (sym c.index-devices-number.is)) in
    record {
      within = λ name. subst (λ (o : Option ℕ). IfSome o (λ m. m < length given)) (sym (took name))
          (within-more (length given) n (bytes_eq name d.name.text) (number_found l.numbers name) less
          (l.invariant.within name));
      by_name = search (rules, called-more, fold_push);
    }
