-- Parts with the numbers of their rows and effect lists: what holds of each part holds of it where it is placed, and
-- its
-- numbers are below how many there are.
use Rattle.std.proofs.Common.{rules, ◌≡◌, ℕ, zero, suc, ◌+◌, ◌<◌, ◌≤◌, Bool, List, [], ◌∷◌, ◌++◌, length, map, get_or}
use Rattle.std.proofs.Common.{refl, sym, ◌∙◌, ap, subst, append_assoc, length-append, arith}
use Rattle.std.specs.{Prelude.{Some, slice_get, option_map}, List.{All, flat_map}}
use Rattle.std.proofs.lemmas.Option.{slice_get-map, slice_get_within, slice_get-get_or, same_Some}
use Rattle.std.proofs.lemmas.List.{length-map, Sums.sum_by-cons}
use Rattle.std.proofs.lemmas.List.Elements.{All-nil, All-cons, All-head, All-tail, All-weaker}
use Rattle.plan_tables.specs.{declared.entries.{ListId.ListId, Owner.Owner}, PlanView.no_row}
use Rattle.plan_tables.specs.declared.devices.{RowId.RowId, DeviceRow.DeviceRow, Settings.Settings}
use Rattle.plan_parts.specs.{Parts.{Whose, Device, Part, device}, PartKinds.{is_ball, rows_of_parts, IsRowOf}}
use Rattle.mpf_plan.specs.PlanOf.{PartPlace, row_count, lists_in, placed_from, part_places, device_row, first_list}
use Rattle.mpf_plan.proofs.Laws.{list_count, rows_of_all, lists_of_all}

-- ---- each part where it is placed

-- its row, if it has one, is among so many rows, and its effect lists are among so many lists
pub record IsPlacedIn (rows lists : ℕ) (x : PartPlace) : Type 0 where
  pub row : x.row.0 + row_count x.part ≤ rows
  pub list : x.list.0 + length (lists_in x.part) ≤ lists

module _ (R : Part → Type 0) where
  -- R holds of the part, and it is placed so
  abbrev pub IsSited : (rows lists : ℕ) → PartPlace → Type 0
  IsSited rows lists x = IsPlacedIn rows lists x × R x.part

  all_from : (ps : List Part) (r l rows lists : ℕ) → r + rows_of_all ps ≡ rows → l + lists_of_all ps ≡ lists
      → All R ps → All (IsSited rows lists) (placed_from r l ps)
  all_from [] r l rows lists there too h = All-nil (IsSited rows lists)
  all_from (p ∷ ps) r l rows lists there too h =
      let more = sum_by-cons row_count p ps in
      let longer = sum_by-cons list_count p ps in
      All-cons (IsSited rows lists) (record { row = record { 0 = r }; list = record { 0 = l }; part = p })
      (placed_from (r + row_count p) (l + length (lists_in p)) ps)
      (record { row = omega (arith, there, more); list = omega (arith, too, longer) }, All-head R p ps h)
      (all_from ps (r + row_count p) (l + length (lists_in p)) rows lists (omega (arith, there, more))
      (omega (arith, too, longer)) (All-tail R p ps h))

  pub all_placed : (ps : List Part) → All R ps → All (IsSited (rows_of_all ps) (lists_of_all ps)) (part_places ps)
  unfolding part_places
  all_placed ps h = all_from ps 0 0 (rows_of_all ps) (lists_of_all ps) (omega arith) (omega arith) h

  pub parts_placed : (ps : List Part) → All R ps → All (λ x. R x.part) (part_places ps)
  parts_placed ps h =
      All-weaker (IsSited (rows_of_all ps) (lists_of_all ps)) (λ (x : PartPlace). R x.part) (λ x sited. sited.1)
      (part_places ps) (all_placed ps h)

-- ---- rows of devices

-- the device of a row: it has this number, and its effect lists are among so many
pub record IsRowOfDevice (R : Part → Type 0) (lists : ℕ) (number : ℕ) (row : DeviceRow) (first : ListId) : Type 0 where
  pub whose : Whose
  pub d : Device
  pub is : R (device whose d)
  pub row_is : row ≡ record { number = record { 0 = number }; owner = whose.owner; settings = d.settings }
  pub room : first.0 + length d.lists ≤ lists

abbrev pub rows_from : (r l : ℕ) → List Part → List DeviceRow
rows_from r l ps = flat_map (λ x. device_row x.row x.part) (placed_from r l ps)

abbrev pub firsts_from : (r l : ℕ) → List Part → List ListId
firsts_from r l ps = flat_map (λ x. first_list x.list x.part) (placed_from r l ps)

module _ (R : Part → Type 0) where
  row_from : (ps : List Part) (r l lists : ℕ) → l + lists_of_all ps ≡ lists → All R ps
      → (k : ℕ) (d : DeviceRow) (first : ListId) → k < length (rows_from r l ps)
      → IsRowOfDevice R lists (r + k) (get_or (rows_from r l ps) k d) (get_or (firsts_from r l ps) k first)
  row_from [] r l lists too h k d first within = absurd (omega (arith, within))
  row_from (device whose own ∷ ps) r l lists too h zero d first within =
      let same : r ≡ r + 0 = omega arith in
      record {
        whose = whose;
        d = own;
        is = All-head R (device whose own) ps h;
        row_is = λ i. record { number = record { 0 = same i }; owner = whose.owner; settings = own.settings };
        room = omega (arith, too, sum_by-cons list_count (device whose own) ps);
      }
  row_from (device whose own ∷ ps) r l lists too h (suc k) d first within =
      let p = device whose own in
      let same : r + 1 + k ≡ r + suc k = omega arith in
      subst
      (λ n. IsRowOfDevice R lists n (get_or (rows_from (r + 1) (l + length own.lists) ps) k d)
      (get_or (firsts_from (r + 1) (l + length own.lists) ps) k first)) same
      (row_from ps (r + 1) (l + length own.lists) lists (omega (arith, too, sum_by-cons list_count p ps))
      (All-tail R p ps h) k d first (omega (arith, within)))
  row_from (p ∷ ps) r l lists too h k d first within =
      let after = r + row_count p in
      let later = l + length (lists_in p) in
      let same : after + k ≡ r + k = omega arith in
      subst
      (λ n. IsRowOfDevice R lists n (get_or (rows_from after later ps) k d)
      (get_or (firsts_from after later ps) k first)) same
      (row_from ps after later lists (omega (arith, too, sum_by-cons list_count p ps)) (All-tail R p ps h) k d first
      within)

  pub row_at_number : (ps : List Part) → All R ps → (k : ℕ) (d : DeviceRow) (first : ListId)
      → k < length (rows_from 0 0 ps)
      → IsRowOfDevice R (lists_of_all ps) k (get_or (rows_from 0 0 ps) k d) (get_or (firsts_from 0 0 ps) k first)
  row_at_number ps h k d first within =
      let same : 0 + k ≡ k = omega arith in
      subst
      (λ n. IsRowOfDevice R (lists_of_all ps) n (get_or (rows_from 0 0 ps) k d) (get_or (firsts_from 0 0 ps) k first))
      same
      (row_from ps 0 0 (lists_of_all ps) (omega arith) h k d first within)

-- ---- the row of a device, where it is placed

abbrev pub HasRow : List DeviceRow → RowId → Part → Type 0
HasRow rows r (device whose d) =
    slice_get rows r.0 ≡ Some (record { number = r; owner = whose.owner; settings = d.settings })
HasRow rows r _ = Unit {0}

slice_at : {X : Type 0} (before : List X) (x : X) (rest : List X)
    → slice_get (before ++ x ∷ rest) (length before) ≡ Some x
slice_at [] x rest = refl
slice_at (y ∷ before) x rest = slice_at before x rest

row_counted : (r : RowId) (p : Part) → length (device_row r p) ≡ row_count p
row_counted r x2 = search rules

home_from : (ps : List Part) (r l : ℕ) (before : List DeviceRow) → length before ≡ r
    → All (λ x. HasRow (before ++ rows_from r l ps) x.row x.part) (placed_from r l ps)
home_from [] r l before count = All-nil (λ (x : PartPlace). HasRow (before ++ []) x.row x.part)
home_from (p ∷ ps) r l before count =
    let here = device_row (record { 0 = r }) p in
    let after = r + row_count p in
    let later = l + length (lists_in p) in
    let rest = rows_from after later ps in
    All-cons (λ (x : PartPlace). HasRow (before ++ (here ++ rest)) x.row x.part)
    (record { row = record { 0 = r }; list = record { 0 = l }; part = p }) (placed_from after later ps) (first p rest)
    (subst (λ rows. All (λ (x : PartPlace). HasRow rows x.row x.part) (placed_from after later ps))
    (append_assoc before here rest)
    (home_from ps after later (before ++ here)
    (omega (arith, count, length-append before here, row_counted (record { 0 = r }) p))))
  where
    first : (p : Part) (rest : List DeviceRow)
        → HasRow (before ++ (device_row (record { 0 = r }) p ++ rest)) (record { 0 = r }) p
    first (device whose d) rest =
        let row : DeviceRow = record { number = record { 0 = r }; owner = whose.owner; settings = d.settings } in
        ap (slice_get (before ++ row ∷ rest)) (sym count) ∙ slice_at before row rest
    first _ rest = tt

pub all_home : (ps : List Part)
    → All (λ x. HasRow (flat_map (λ y. device_row y.row y.part) (part_places ps)) x.row x.part) (part_places ps)
unfolding part_places
all_home ps = home_from ps 0 0 [] refl

-- ---- the rows of parts, as the plan has them

abbrev pub tag : DeviceRow → Owner × Settings
tag row = (row.owner, row.settings)

abbrev pub tag_of : Whose × Device → Owner × Settings
tag_of x = (x.0.owner, x.1.settings)

tags_from : (ps : List Part) (r l : ℕ) → map tag (rows_from r l ps) ≡ map tag_of (rows_of_parts ps)
tags_from [] r l = refl
tags_from (device whose d ∷ ps) r l =
    ap (λ ts. (whose.owner, d.settings) ∷ ts) (tags_from ps (r + 1) (l + length d.lists))
tags_from (p ∷ ps) r l = tags_from ps (r + row_count p) (l + length (lists_in p))

pub tags_are : (ps : List Part)
    → map tag (flat_map (λ x. device_row x.row x.part) (part_places ps)) ≡ map tag_of (rows_of_parts ps)
unfolding part_places
tags_are ps = tags_from ps 0 0

-- a row that parts say is there, and its owner
module _ (rows : List DeviceRow) (devices : List (Whose × Device)) (same : map tag rows ≡ map tag_of devices) where
  pub rows_same : length rows ≡ length devices
  rows_same = sym (length-map rows tag) ∙ ap length same ∙ length-map devices tag_of

  pub row_there : (r : ℕ) (whose : Whose) (ball : Bool) → IsRowOf devices r whose ball
      → (r < length rows) × ((get_or rows r no_row).owner ≡ whose.owner)
      × (is_ball (get_or rows r no_row).settings ≡ ball)
  row_there r whose ball is =
      let there : slice_get (map tag rows) r ≡ Some (whose.owner, is.device.settings) = ap (λ l. slice_get l r) same
      ∙ slice_get-map tag_of devices r ∙ ap (option_map tag_of) is.there in
      let within : r < length rows = omega
      (arith, slice_get_within (map tag rows) r (whose.owner, is.device.settings) there, length-map rows tag) in
      let one : tag (get_or rows r no_row) ≡ (whose.owner, is.device.settings) =
      same_Some (tag (get_or rows r no_row)) (whose.owner, is.device.settings)
      (sym (slice_get-map tag rows r ∙ ap (option_map tag) (slice_get-get_or rows r no_row within)) ∙ there) in
      (within, ap (λ t. t.0) one, ap (λ t. is_ball t.1) one ∙ is.kind)
