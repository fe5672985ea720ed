use Rattle.std.{proofs.Common.{◌≡◌, ◌++◌, ◌∷◌, ◌||◌, ℕ, Bool, List, codes, OnOk, subst, ap, ◌∙◌}, specs.Str.bytes_eq}
use Rattle.yaml_subset.specs.Keys.{is_among}
use Rattle.row_faults.specs.View.{events_view}
use Rattle.row_faults.proofs.reserved.add_mode.Goals as goal

-- Each event is one of those that there are, or one of the events that were added before it.
pub returns : goal.returns
returns c =
    let event : List ℕ → List ℕ = λ end. codes "mode_" ++ c.args.mode.now ++ end in
    let one = event (codes "_stopped") ∷ events_view c.args.events.now in
    let two = event (codes "_stopping") ∷ one in
    let three = event (codes "_started") ∷ two in
    let four = event (codes "_starting") ∷ three in
    let last = event (codes "_will_start") in
    let has_one : (q : List ℕ) → is_among (events_view c.add_event.new.events) q ≡ is_among one q =
    c.in_ok-add_event.ensures in
    let has_two : (q : List ℕ) → is_among (events_view c.add_event-2.new.events) q ≡ is_among two q =
    λ q. c.in_ok-add_event-2.ensures q ∙ ap (λ (b : Bool). bytes_eq (event (codes "_stopping")) q || b) (has_one q) in
    let has_three : (q : List ℕ) → is_among (events_view c.add_event-3.new.events) q ≡ is_among three q =
    λ q. c.in_ok-add_event-3.ensures q ∙ ap (λ (b : Bool). bytes_eq (event (codes "_started")) q || b) (has_two q) in
    let has_four : (q : List ℕ) → is_among (events_view c.add_event-4.new.events) q ≡ is_among four q =
    λ q. c.in_ok-add_event-4.ensures q ∙ ap (λ (b : Bool). bytes_eq (event (codes "_starting")) q || b) (has_three q) in
    let all : is_among (last ∷ events_view c.add_event-4.new.events) ≡ is_among (last ∷ four) =
    λ i q. bytes_eq last q || has_four q i in
    subst (λ (has : List ℕ → Bool). OnOk c.add_event-5.result
    ((q : List ℕ) → is_among (events_view c.add_event-5.new.events) q ≡ has q)) all c.add_event-5.ensures
