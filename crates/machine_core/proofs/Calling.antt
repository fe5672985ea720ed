-- One device of a list of them is called.
use Rattle.std.proofs.Common.{◌≡◌, ℕ, ◌<◌, List, length, map, set, get_or, ap, sym, ◌∙◌}
use Rattle.std.proofs.{Math.Seq.map-set_same, lemmas.List.{get_or-map, map-set}}
use Rattle.plan_tables.specs.{PlanView.{PlanView, no_row, row_at}, declared.devices.{DeviceRow.DeviceRow, RowId.RowId}}
use Rattle.device_objects.specs.declared.{device.Call.Call, state.{DeviceState.DeviceState, World.World}}
use Rattle.device_objects.specs.DeviceStep.{device_step, first_state}
use Rattle.written_machine.specs.Machine.{device_state}

module _ {A : Type 0} (row : A → DeviceRow) (state : A → DeviceState) (plan : PlanView) (items : List A) (at : RowId)
    (old new : A)
    (rows : map row items ≡ plan.rows) (read : old ≡ get_or items at.0 old) (within : at.0 < length items) where
  -- it is the device of its row, in the state that the machine has
  pub row-is : row old ≡ row_at plan at
  row-is = ap row read ∙ sym (get_or-map row items at.0 old no_row within)
      ∙ ap (λ (rs : List DeviceRow). get_or rs at.0 no_row) rows

  pub state-is : state old ≡ device_state (map state items) at
  state-is = ap state read ∙ sym (get_or-map state items at.0 old (first_state no_row.settings) within)

  module _ (call : Call) (moment : ℕ) (world : World) where
    pub step-is : device_step (row old).settings call moment world (state old)
        ≡ device_step (row_at plan at).settings call moment world (device_state (map state items) at)
    step-is = λ i. device_step (row-is i).settings call moment world (state-is i)

    -- the states after the call
    pub states-turned : state new ≡ (device_step (row old).settings call moment world (state old)).0
        → map state (set items at.0 new) ≡ set (map state items) at.0
        (device_step (row_at plan at).settings call moment world (device_state (map state items) at)).0
    states-turned is = map-set state items at.0 new ∙ ap (set (map state items) at.0) (is ∙ ap (λ p. p.0) step-is)

  -- rows stay
  pub rows-kept : row new ≡ row old → map row (set items at.0 new) ≡ plan.rows
  rows-kept is = map-set_same row items at.0 new old (is ∙ ap row read) ∙ rows
