-- Where each part stands in the plan of all: its row and its effect lists are at the numbers with which it is placed.
use Rattle.std.proofs.Common.{rules, ◌≡◌, ℕ, zero, suc, ◌+◌, ◌-◌, ◌<◌, ◌≤◌, List, [], ◌∷◌, ◌++◌, length, map, get_or}
use Rattle.std.proofs.Common.{slice_index_or, refl, sym, ◌∙◌, ap, subst, append_assoc, length-append, arith}
use Rattle.std.specs.List.{All, flat_map}
use Rattle.std.proofs.lemmas.List.{get_or-map, get_or_append_left, get_or-append-add, length-map}
use Rattle.std.proofs.lemmas.List.Elements.{All-nil, All-cons, All-head, All-tail, All-weaker}
use Rattle.plan_tables.specs.declared.devices.{RowId.RowId, DeviceRow.DeviceRow}
use Rattle.plan_tables.specs.{declared.entries.{Action.Action, ListId.ListId}, PlanView.{no_row, PlanView}}
use Rattle.plan_parts.specs.{Effects.Effect, Parts.{run, start, stop, act_on}}
use Rattle.plan_parts.specs.Parts.{Whose, Device, Part, switch, coil, game, mode, handler, device, mention, unknown}
use Rattle.mpf_plan.specs.{Uses.Names, ByNumber.action_of, PlanOf.{actions_in, plan_by}}
use Rattle.mpf_plan.specs.PlanOf.{lists_in, PartPlace, part_places, placed_from, row_count, device_row, first_list}

-- an item that comes after so many
at_end : {X : Type 0} (xs ys : List X) (y : X) (n : ℕ) (d : X) → length xs ≡ n → get_or (xs ++ y ∷ ys) n d ≡ y
at_end [] ys y zero d is = refl
at_end [] ys y (suc n) d is = absurd (omega (arith, is))
at_end (x ∷ xs) ys y zero d is = absurd (omega (arith, is))
at_end (x ∷ xs) ys y (suc n) d is = at_end xs ys y n d (omega (arith, is))

-- the items that come after so many
in_middle : {X : Type 0} (xs ys zs : List X) (n k : ℕ) (d : X) → length xs ≡ n → k < length ys
    → get_or (xs ++ (ys ++ zs)) (n + k) d ≡ get_or ys k d
in_middle xs ys zs n k d is within =
    ap (λ m. get_or (xs ++ (ys ++ zs)) (m + k) d) (sym is) ∙ get_or-append-add xs (ys ++ zs) k d
    ∙ get_or_append_left ys zs d k within

-- the switches to which the rows listen, row by row
abbrev pub listens_of : Part → List (List (List ℕ))
listens_of (device whose d) = d.listens ∷ []
listens_of _ = []

module _ (names : Names) where
  -- Here `rows` are the rows of the plan, `firsts` the first lists of each, `lists` its effect lists, and `heard` the
  -- switches to which each row listens.
  module _ (rows : List DeviceRow) (firsts : List ListId) (lists : List (List Action))
      (heard : List (List (List ℕ))) where
    -- the row of a device, whose lists begin there
    pub record IsDeviceAt (row : RowId) (list : ListId) (whose : Whose) (d : Device) : Type 0 where
      pub row_is : get_or rows row.0 no_row ≡ record { number = row; owner = whose.owner; settings = d.settings }
      pub list_is : get_or firsts row.0 (record { 0 = 0 }) ≡ list
      pub heard_is : get_or heard row.0 [] ≡ d.listens
      pub lists_are : (k : ℕ) → k < length d.lists
          → get_or lists (list.0 + k) [] ≡ map (action_of names row) (get_or d.lists k [])

    abbrev pub IsStanding : RowId → ListId → Part → Type 0
    IsStanding row list (device whose d) = IsDeviceAt row list whose d
    IsStanding row list (handler whose e (run effects)) = get_or lists list.0 [] ≡ map (action_of names row) effects
    IsStanding row list _ = Unit {0}

  -- ---- parts that come after others

  abbrev rows_from : ℕ → ℕ → List Part → List DeviceRow
  rows_from r l ps = flat_map (λ q. device_row q.row q.part) (placed_from r l ps)

  abbrev firsts_from : ℕ → ℕ → List Part → List ListId
  firsts_from r l ps = flat_map (λ q. first_list q.list q.part) (placed_from r l ps)

  abbrev lists_from : ℕ → ℕ → List Part → List (List Action)
  lists_from r l ps = flat_map (λ q. actions_in names q.row q.part) (placed_from r l ps)

  abbrev Standing : List DeviceRow → List ListId → List (List Action) → List (List (List ℕ)) → PartPlace → Type 0
  Standing rows firsts lists heard q = IsStanding rows firsts lists heard q.row q.list q.part

  rows_more : (p : Part) (rs : List DeviceRow) (r : ℕ) → length rs ≡ r
      → length (rs ++ device_row (record { 0 = r }) p) ≡ r + row_count p
  rows_more p rs r is = omega (arith, length-append rs (device_row (record { 0 = r }) p), is, one p)
    where
      one : (p : Part) → length (device_row (record { 0 = r }) p) ≡ row_count p
      one x1 = search rules

  firsts_more : (p : Part) (fs : List ListId) (r l : ℕ) → length fs ≡ r
      → length (fs ++ first_list (record { 0 = l }) p) ≡ r + row_count p
  firsts_more p fs r l is = omega (arith, length-append fs (first_list (record { 0 = l }) p), is, one p)
    where
      one : (p : Part) → length (first_list (record { 0 = l }) p) ≡ row_count p
      one x1 = search rules

  heard_more : (p : Part) (hs : List (List (List ℕ))) (r : ℕ) → length hs ≡ r
      → length (hs ++ listens_of p) ≡ r + row_count p
  heard_more p hs r is = omega (arith, length-append hs (listens_of p), is, one p)
    where
      one : (p : Part) → length (listens_of p) ≡ row_count p
      one x1 = search rules

  lists_more : (p : Part) (row : RowId) (ls : List (List Action)) (l : ℕ) → length ls ≡ l
      → length (ls ++ actions_in names row p) ≡ l + length (lists_in p)
  lists_more p row ls l is =
      omega (arith, length-append ls (actions_in names row p), is, length-map (lists_in p) (map (action_of names row)))

  -- where a part stands that comes after these, and before those
  first_stands : (p : Part) (r l : ℕ) (rs ro : List DeviceRow) (fs fo : List ListId) (ls lo : List (List Action))
      (hs ho : List (List (List ℕ)))
      → length rs ≡ r → length fs ≡ r → length ls ≡ l → length hs ≡ r
      → IsStanding (rs ++ (device_row (record { 0 = r }) p ++ ro)) (fs ++ (first_list (record { 0 = l }) p ++ fo))
      (ls ++ (actions_in names (record { 0 = r }) p ++ lo)) (hs ++ (listens_of p ++ ho)) (record { 0 = r })
      (record { 0 = l }) p
  first_stands (device whose d) r l rs ro fs fo ls lo hs ho count first listed hearing = record {
    row_is = at_end rs ro (record { number = record { 0 = r }; owner = whose.owner; settings = d.settings }) r no_row
        count;
    list_is = at_end fs fo (record { 0 = l }) r (record { 0 = 0 }) first;
    heard_is = at_end hs ho d.listens r [] hearing;
    lists_are = λ k within.
        in_middle ls (map (map (action_of names (record { 0 = r }))) d.lists) lo l k [] listed
        (omega (arith, within, length-map d.lists (map (action_of names (record { 0 = r })))))
        ∙ get_or-map (map (action_of names (record { 0 = r }))) d.lists k [] [] within;
  }
  first_stands (handler whose e (run effects)) r l rs ro fs fo ls lo hs ho count first listed hearing =
      at_end ls lo (map (action_of names (record { 0 = r })) effects) l [] listed
  first_stands (handler whose e (start m)) r l rs ro fs fo ls lo hs ho count first listed hearing = tt
  first_stands (handler whose e (stop m)) r l rs ro fs fo ls lo hs ho count first listed hearing = tt
  first_stands (handler whose e (act_on row act)) r l rs ro fs fo ls lo hs ho count first listed hearing = tt
  first_stands _ r l rs ro fs fo ls lo hs ho count first listed hearing = tt

  stand_after : (ps : List Part) (r l : ℕ) (rs : List DeviceRow) (fs : List ListId) (ls : List (List Action))
      (hs : List (List (List ℕ)))
      → length rs ≡ r → length fs ≡ r → length ls ≡ l → length hs ≡ r
      → All (Standing (rs ++ rows_from r l ps) (fs ++ firsts_from r l ps) (ls ++ lists_from r l ps)
      (hs ++ flat_map listens_of ps)) (placed_from r l ps)
  stand_after [] r l rs fs ls hs count first listed hearing =
      All-nil (Standing (rs ++ []) (fs ++ []) (ls ++ []) (hs ++ []))
  stand_after (p ∷ ps) r l rs fs ls hs count first listed hearing =
      let row : RowId = record { 0 = r } in
      let list : ListId = record { 0 = l } in
      let next = r + row_count p in
      let after = l + length (lists_in p) in
      let ro = rows_from next after ps in
      let fo = firsts_from next after ps in
      let lo = lists_from next after ps in
      let ho = flat_map listens_of ps in
      let rest = stand_after ps next after (rs ++ device_row row p) (fs ++ first_list list p)
      (ls ++ actions_in names row p) (hs ++ listens_of p)
      (rows_more p rs r count) (firsts_more p fs r l first) (lists_more p row ls l listed) (heard_more p hs r hearing)
      in
      let by_rows = subst (λ (x : List DeviceRow). All
      (Standing x ((fs ++ first_list list p) ++ fo) ((ls ++ actions_in names row p) ++ lo)
      ((hs ++ listens_of p) ++ ho)) (placed_from next after ps)) (append_assoc rs (device_row row p) ro) rest in
      let by_firsts = subst (λ (x : List ListId). All
      (Standing (rs ++ (device_row row p ++ ro)) x ((ls ++ actions_in names row p) ++ lo)
      ((hs ++ listens_of p) ++ ho)) (placed_from next after ps)) (append_assoc fs (first_list list p) fo) by_rows in
      let by_lists = subst (λ (x : List (List Action)). All
      (Standing (rs ++ (device_row row p ++ ro)) (fs ++ (first_list list p ++ fo)) x ((hs ++ listens_of p) ++ ho))
      (placed_from next after ps)) (append_assoc ls (actions_in names row p) lo) by_firsts in
      let by_heard = subst (λ (x : List (List (List ℕ))). All
      (Standing (rs ++ (device_row row p ++ ro)) (fs ++ (first_list list p ++ fo))
      (ls ++ (actions_in names row p ++ lo)) x) (placed_from next after ps)) (append_assoc hs (listens_of p) ho)
      by_lists in
      All-cons (Standing (rs ++ (device_row row p ++ ro)) (fs ++ (first_list list p ++ fo))
      (ls ++ (actions_in names row p ++ lo)) (hs ++ (listens_of p ++ ho)))
      (record { row = row; list = list; part = p }) (placed_from next after ps)
      (first_stands p r l rs ro fs fo ls lo hs ho count first listed hearing) by_heard

  -- ---- all parts

  -- each part stands where it is placed
  pub all_stand : (ps : List Part)
      → All (Standing (plan_by names ps).rows (plan_by names ps).row_lists (plan_by names ps).lists
      (flat_map listens_of ps)) (part_places ps)
  unfolding plan_by part_places
  all_stand ps = stand_after ps 0 0 [] [] [] [] refl refl refl refl

  -- what holds of the number of each device's row holds of all numbers of rows
  module _ (G : ℕ → Type 0) where
    abbrev pub OfRow : ℕ → Part → Type 0
    OfRow r (device whose d) = G r
    OfRow r _ = Unit {0}

    rows_each_from : (ps : List Part) (r l : ℕ) → All (λ (q : PartPlace). OfRow q.row.0 q.part) (placed_from r l ps)
        → (k : ℕ) → k < length (rows_from r l ps) → G (r + k)
    rows_each_from [] r l h k within = absurd (omega (arith, within))
    rows_each_from (device whose d ∷ ps) r l h zero within =
        subst G (omega arith) (h 0 (record { row = record { 0 = r }; list = record { 0 = l }; part = device whose d })
        (omega arith))
    rows_each_from (device whose d ∷ ps) r l h (suc k) within =
        let own : PartPlace = record { row = record { 0 = r }; list = record { 0 = l }; part = device whose d } in
        let after = l + length d.lists in
        subst G (omega arith) (rows_each_from ps (r + 1) after
        (All-tail (λ (q : PartPlace). OfRow q.row.0 q.part) own (placed_from (r + 1) after ps) h) k
        (omega (arith, within)))
    rows_each_from (p ∷ ps) r l h k within =
        let own : PartPlace = record { row = record { 0 = r }; list = record { 0 = l }; part = p } in
        let next = r + row_count p in
        let after = l + length (lists_in p) in
        subst G (omega arith) (rows_each_from ps next after
        (All-tail (λ (q : PartPlace). OfRow q.row.0 q.part) own (placed_from next after ps) h) k within)

    pub rows_each : (ps : List Part) → All (λ (q : PartPlace). OfRow q.row.0 q.part) (part_places ps) → (k : ℕ)
        → k < length (plan_by names ps).rows → G k
    unfolding plan_by part_places
    rows_each ps h k within = subst G (omega arith) (rows_each_from ps 0 0 h k within)
