-- A device takes the place of one of the same row, in the same state.
use Rattle.std.{proofs.Common.{◌≡◌, ℕ, ◌<◌, Some, List, length, map, set, get_or, ap, sym, ◌∙◌}, specs.List.slice_get}
use Rattle.std.proofs.{Math.Seq.map-set_same, lemmas.Option.{slice_get_within, get_or_from_slice_get}}
use Rattle.plan_tables.specs.{PlanView.{PlanView, row_at}, declared.devices.{DeviceRow.DeviceRow, RowId.RowId}}
use Rattle.device_objects.specs.declared.state.{DeviceState.DeviceState, World.World}
use Rattle.written_machine.specs.Machine.{device_state}
use Rattle.machine_core.{specs.Stopping.stopped_state, proofs.Calling.{row-is, state-is, rows-kept}}

module _ {A : Type 0} (row : A → DeviceRow) (state : A → DeviceState) (plan : PlanView) (items : List A) (at : RowId)
    (old new : A)
    (rows : map row items ≡ plan.rows) (there : slice_get items at.0 ≡ Some old) (same_row : row new ≡ row_at plan at)
    (same_state : state new ≡ device_state (map state items) at) where
  within : at.0 < length items
  within = slice_get_within items at.0 old there

  read : old ≡ get_or items at.0 old
  read = sym (get_or_from_slice_get items at.0 old old there)

  pub old-row : row old ≡ row_at plan at
  old-row = row-is row state plan items at old new rows read within

  old-state : state old ≡ device_state (map state items) at
  old-state = state-is row state plan items at old new rows read within

  pub rows-stay : map row (set items at.0 new) ≡ plan.rows
  rows-stay = rows-kept row state plan items at old new rows read within (same_row ∙ sym old-row)

  pub states-stay : map state (set items at.0 new) ≡ map state items
  states-stay = map-set_same state items at.0 new old (same_state ∙ sym old-state ∙ ap state read)

  -- what the old device is, once it has stopped
  pub old-stopped : (moment : ℕ) (world : World)
      → stopped_state moment world (row old) (state old)
      ≡ stopped_state moment world (row_at plan at) (device_state (map state items) at)
  old-stopped moment world = λ i. stopped_state moment world (old-row i) (old-state i)
