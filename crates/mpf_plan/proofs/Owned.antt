-- Bindings act on rows of devices of their own owner alone, and only rows of the machine listen to switches.
use Rattle.std.proofs.Common.{◌≡◌, ℕ, ◌<◌, Bool, false, List, [], ◌∷◌, length, map}
use Rattle.std.proofs.Common.{filter, get_or, slice_index_or, ◌∙◌, ap, arith}
use Rattle.std.specs.{Prelude.{Some, slice_get}, Str.bytes_eq, List.{All, flat_map, range_with_len}}
use Rattle.std.proofs.lemmas.Option.{slice_get_within, get_or_from_slice_get}
use Rattle.std.proofs.lemmas.List.Elements.{All-nil, All-cons, All-map}
use Rattle.mpf_values.specs.Events.{Event}
use Rattle.plan_tables.specs.declared.entries.{ListId.ListId, Owner.Owner, Target.{Target, TheVariants.Act}}
use Rattle.plan_tables.specs.declared.{entries.{Listener.Listener, Binding.Binding}, table.Table.TheVariants.Switches}
use Rattle.plan_tables.specs.declared.entries.Owner.TheVariants as owners
use Rattle.plan_tables.specs.declared.devices.{RowId.RowId, Act.Act as ActOfDevice, DeviceRow.DeviceRow}
use Rattle.plan_tables.specs.PlanView.{PlanSwitch, no_row}
use Rattle.plan_parts.specs.Parts.{Whose, Device, Reaction, act_on, Part, handler, device}
use Rattle.plan_parts.specs.{PartKinds.rows_of_parts, PartBounds.IsPart}
use Rattle.mpf_plan.specs.{Uses.Names, PlanOf.{switch_called, bindings_in}}
use Rattle.mpf_plan.specs.PlanOf.{part_places, device_row, listeners_among, listeners, target_of, binding_of}
use Rattle.mpf_plan.proofs.PlacedParts.{parts_placed, HasRow, all_home, tags_are, row_there}
use Rattle.yaml_bytes.proofs.Each.{All-flat_map}

-- an act is on a row that is there, and of this owner
abbrev pub IsOwnTarget : List DeviceRow → Owner → Target → Type 0
IsOwnTarget rows owner (Act r act) = (r.0 < length rows) × ((slice_index_or rows r.0 no_row).owner ≡ owner)
IsOwnTarget rows owner _ = Unit {0}

abbrev pub IsOwnBinding : List DeviceRow → Binding → Type 0
IsOwnBinding rows b = IsOwnTarget rows b.owner b.target

-- a row that listens is there, and the machine's
abbrev pub IsOwnListener : List DeviceRow → Listener → Type 0
IsOwnListener rows l = (l.row.0 < length rows) × ((slice_index_or rows l.row.0 no_row).owner ≡ owners.Machine)

abbrev pub IsOwnSwitch : List DeviceRow → PlanSwitch → Type 0
IsOwnSwitch rows s = All (IsOwnListener rows) s.listeners

-- the row of a device
own_row : (rows : List DeviceRow) (r : RowId) (row : DeviceRow) → slice_get rows r.0 ≡ Some row
    → (r.0 < length rows) × ((slice_index_or rows r.0 no_row).owner ≡ row.owner)
own_row rows r row there = (
  slice_get_within rows r.0 row there,
  ap (λ (x : DeviceRow). x.owner)
      (get_or_from_slice_get rows r.0 row no_row there),
)

-- who listens to a switch listens to one
some_heard : (name : List ℕ) (ns : List (List ℕ)) (i : ℕ)
    → i < length (filter (λ k. bytes_eq name (slice_index_or ns k [])) (range_with_len 0 (length ns))) → 0 < length ns
some_heard name [] i within = absurd (omega (arith, within))
some_heard name (n ∷ ns) i within = omega arith

module _ (S Short : Type 0) (names : Names) (ps : List Part) (modes : ℕ) (has : Bool)
    (are : All (IsPart S Short modes (rows_of_parts ps) has) ps) where
  abbrev rows : List DeviceRow
  rows = flat_map (λ x. device_row x.row x.part) (part_places ps)

  -- each part, where it is placed
  placed_are : All (λ x. IsPart S Short modes (rows_of_parts ps) has x.part) (part_places ps)
  placed_are = parts_placed (IsPart S Short modes (rows_of_parts ps) has) ps are

  -- ---- listeners

  heard : (name : List ℕ) (whose : Whose) (d : Device) (r : RowId)
      → IsPart S Short modes (rows_of_parts ps) has (device whose d) → HasRow rows r (device whose d)
      → All (IsOwnListener rows) (listeners_among name r d.listens)
  heard name whose d r is home =
      let own = own_row rows r (record { number = r; owner = whose.owner; settings = d.settings }) home in
      let test : ℕ → Bool = λ k. bytes_eq name (slice_index_or d.listens k []) in
      All-map (IsOwnListener rows) (λ k. record { row = r; switch = k })
      (filter test (range_with_len 0 (length d.listens)))
      (λ i k within. (own.0, own.1 ∙ is.listens (some_heard name d.listens i within)))

  own_listeners : (name : List ℕ) → All (IsOwnListener rows)
      (flat_map (λ x. listeners name x.row x.part) (part_places ps))
  own_listeners name =
      All-flat_map (IsOwnListener rows) (λ x. listeners name x.row x.part) (part_places ps)
      (λ i x within. of_part (get_or (part_places ps) i x).part (get_or (part_places ps) i x).row
      (placed_are i x within) (all_home ps i x within))
    where
      of_part : (p : Part) (r : RowId) → IsPart S Short modes (rows_of_parts ps) has p → HasRow rows r p
          → All (IsOwnListener rows) (listeners name r p)
      of_part (device whose d) r is home = heard name whose d r is home
      of_part _ r is home = All-nil (IsOwnListener rows)

  -- only rows of the machine listen to switches
  pub own_switches : All (IsOwnSwitch rows) (map (switch_called names ps) (names Switches))
  own_switches =
      All-map (IsOwnSwitch rows) (switch_called names ps) (names Switches)
      (λ i n within. own_listeners (get_or (names Switches) i n))

  -- ---- bindings

  pub own_bindings : All (IsOwnBinding rows) (flat_map (λ x. bindings_in names x.row x.list x.part) (part_places ps))
  own_bindings =
      All-flat_map (IsOwnBinding rows) (λ x. bindings_in names x.row x.list x.part) (part_places ps)
      (λ i x within. let y = get_or (part_places ps) i x
      in of_part y.part y.row y.list (placed_are i x within) (all_home ps i x within))
    where
      reached : (reaction : Reaction) (whose : Whose) (e : Event) (list : ListId)
          → IsPart S Short modes (rows_of_parts ps) has (handler whose e reaction)
          → IsOwnTarget rows whose.owner (target_of list reaction)
      reached (act_on r act) whose e list is =
          let there = row_there rows (rows_of_parts ps) (tags_are ps) r.0 whose false is.1 in (there.0, there.1)
      reached _ whose e list is = tt

      of_part : (p : Part) (r : RowId) (list : ListId) → IsPart S Short modes (rows_of_parts ps) has p
          → HasRow rows r p → All (IsOwnBinding rows) (bindings_in names r list p)
      of_part (handler whose e reaction) r list is home =
          All-cons (IsOwnBinding rows) (binding_of names whose e (target_of list reaction)) []
          (reached reaction whose e list is) (All-nil (IsOwnBinding rows))
      of_part (device whose d) r list is home =
          let own = own_row rows r (record { number = r; owner = whose.owner; settings = d.settings }) home in
          All-map (IsOwnBinding rows) (λ (h : Event × ActOfDevice). binding_of names whose h.0 (Act r h.1)) d.event_acts
          (λ i h within. own)
      of_part _ r list is home = All-nil (IsOwnBinding rows)
