-- Each device of a list of them stops.
use Rattle.std.proofs.Common.{rules, ◌≡◌, ℕ, ◌+◌, ◌<◌, ◌≤◌, List, [], ◌∷◌, ◌++◌, length, map, set, get_or, take, drop}
use Rattle.std.proofs.{Common.{zip, refl, ap, sym, ◌∙◌, arith}, lemmas.Simd.map-map}
use Rattle.std.proofs.lemmas.List.{append-nil, drop_all, get_or-map, length-map, map-set, take_all, Edits.map_over_more}
use Rattle.plan_tables.specs.{PlanView.PlanView, declared.devices.DeviceRow.DeviceRow}
use Rattle.device_objects.specs.declared.state.{DeviceState.DeviceState, World.World}
use Rattle.written_machine.specs.Machine.{Machine, world_of}
use Rattle.machine_core.specs.Stopping.{AreStopped, stopped_state}

module _ {A : Type 0} (row : A → DeviceRow) (state : A → DeviceState) (moment : ℕ) (world : World) where
  -- what is known of a device, and what of one that has stopped
  abbrev seen : A → DeviceRow × DeviceState
  seen d = (row d, state d)

  abbrev stopped : DeviceRow × DeviceState → DeviceRow × DeviceState
  stopped d = (d.0, stopped_state moment world d.0 d.1)

  -- so many of the devices have stopped, and the others are as they were
  pub record HaveStopped (old new : List A) (count : ℕ) : Type 0 where
    pub seen_is : map seen new ≡ map stopped (take count (map seen old)) ++ drop count (map seen old)

  pub none-stopped : (devices : List A) → HaveStopped devices devices 0
  none-stopped devices = record { seen_is = refl }

  -- one more stops
  pub one-stopped : (old new : List A) (i : ℕ) (was is : A) → length new ≡ length old → i < length new
      → HaveStopped old new i → was ≡ get_or new i was → row is ≡ row was
      → state is ≡ stopped_state moment world (row was) (state was)
      → HaveStopped old (set new i is) (i + 1)
  one-stopped old new i was is same within before read row_is state_is =
      let there : i < length (map seen old) = omega (arith, within, same, length-map old seen) in
      let was_is : seen was ≡ get_or (map seen new) i (seen was) = ap seen read
      ∙ sym (get_or-map seen new i was (seen was) within) in
      let stops : seen is ≡ stopped (seen was) = λ j. (row_is j, state_is j) in
      record {
        seen_is = map-set seen new i is ∙ ap (set (map seen new) i) stops
            ∙ map_over_more stopped (map seen old) (map seen new) i (seen was) there before.seen_is was_is;
      }

  -- in the end all have stopped
  module _ (old new : List A) (count : ℕ) (all : length old ≤ count) (have : HaveStopped old new count) where
    every-one : map seen new ≡ map stopped (map seen old)
    every-one =
        let past : length (map seen old) ≤ count = omega (arith, all, length-map old seen) in
        have.seen_is
        ∙ ap (λ ds. map stopped ds ++ drop count (map seen old)) (take_all count (map seen old) past)
        ∙ ap (λ ds. map stopped (map seen old) ++ ds) (drop_all count (map seen old) past)
        ∙ append-nil (map stopped (map seen old))

    pub rows-stay : map row new ≡ map row old
    rows-stay =
        let first : DeviceRow × DeviceState → DeviceRow = λ d. d.0 in
        sym (map-map first seen new) ∙ ap (map first) every-one ∙ map-map first stopped (map seen old)
        ∙ map-map first seen old

    pub states-stopped : map state new ≡ map (λ d. stopped_state moment world (row d) (state d)) old
    states-stopped =
        let second : DeviceRow × DeviceState → DeviceState = λ d. d.1 in
        sym (map-map second seen new) ∙ ap (map second) every-one ∙ map-map second stopped (map seen old)
        ∙ map-map (λ d. second (stopped d)) seen old

  -- the same, by the rows and the states of the devices
  stopped-by-row : (devices : List A) → map (λ d. stopped_state moment world d.0 d.1)
      (zip (map row devices) (map state devices)) ≡ map (λ d. stopped_state moment world (row d) (state d)) devices
  stopped-by-row [] = refl
  stopped-by-row (d ∷ devices) = ap (λ ds. stopped_state moment world (row d) (state d) ∷ ds) (stopped-by-row devices)

-- the devices of a machine have stopped
pub machine-stopped : {A : Type 0} (row : A → DeviceRow) (state : A → DeviceState) (plan : PlanView) (s : Machine)
    (items lent new : List A) (world : World) → map row items ≡ plan.rows → map state items ≡ s.devices
    → world ≡ world_of s → lent ≡ items
    → map row new ≡ map row lent → map state new ≡ map (λ d. stopped_state s.moment world (row d) (state d)) lent
    → AreStopped plan s (map row new) (map state new)
machine-stopped row state plan s items lent new world rows states world_is lent_is stay stop = record {
  rows_are = stay ∙ ap (map row) lent_is ∙ rows;
  states_are =
      stop ∙ ap (map (λ d. stopped_state s.moment world (row d) (state d))) lent_is
      ∙ sym (stopped-by-row row state s.moment world items)
      ∙ (λ i. map (λ d. stopped_state s.moment (world_is i) d.0 d.1) (zip (rows i) (states i)));
}

-- a list that was lent whole and keeps its length is what it was written to
pub lent-whole : {A : Type 0} (count : ℕ) (items new : List A) → count ≡ length items → length new ≡ length items
    → take count (new ++ drop (length new) items) ≡ new
lent-whole count items new all same = search (rules, drop_all, append-nil, take_all)
