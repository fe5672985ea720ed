-- What listens to the switches of a plan: each listener is of a row that listens to the switch at its number, and no
-- row
-- listens to one switch twice.
use Rattle.std.proofs.Common.{rules, ◌≡◌, ◌≢◌, ℕ, zero, suc, ◌+◌, ◌<◌, ◌≤◌, Bool, true, List, [], ◌∷◌, ◌++◌, length}
use Rattle.std.proofs.Common.{map, filter, get_or, refl, sym, ◌∙◌, ap, subst, arith}
use Rattle.std.specs.{Prelude.slice_index_or, Str.bytes_eq, List.{All, AllPairs, flat_map, range_with_len}}
use Rattle.std.proofs.lemmas.{Slice.Eq.bytes_eq-Decides, List.Kept.{AllPairs-cons, AllPairs-filter}}
use Rattle.std.proofs.lemmas.List.{get_or-map, length-map, Elements.{All-weaker, filter_passes}}
use Rattle.std.proofs.lemmas.List.Elements.{All-nil, All-cons, All-head, All-tail, All-append, All-map, All-filter}
use Rattle.plan_tables.specs.declared.devices.{RowId.RowId, DeviceRow.DeviceRow, Settings.Settings}
use Rattle.plan_tables.specs.declared.entries.{Action.Action, Listener.Listener, ListId.ListId}
use Rattle.plan_tables.specs.declared.devices.Settings.TheVariants as kinds
use Rattle.plan_tables.specs.{PlanView.{no_row, PlanSwitch}, BallRows.{IsSwitchOf, AreApart, AreOfTwoRows}}
use Rattle.plan_parts.specs.Parts.{Whose, Device, Part, switch, coil, game, mode, handler, device, mention, unknown}
use Rattle.plan_parts.specs.{PartBalls.{IsRightDevice, IsRight}, Doing.IsHeardOnce}
use Rattle.mpf_plan.{specs.{Uses.Names, PlanOf.switch_called}, proofs.RowActions.{IsDeviceAt, IsStanding}}
use Rattle.mpf_plan.specs.PlanOf.{lists_in, PartPlace, part_places, placed_from, row_count, listeners_among, listeners}
use Rattle.mpf_plan.proofs.Apart as names_apart
use Rattle.yaml_bytes.proofs.Each.{All-flat_map}

-- ---- lists

pairs_append : {X : Type 0} (R : X → X → Type 0) (xs ys : List X) → AllPairs R xs → AllPairs R ys
    → All (λ x. All (R x) ys) xs → AllPairs R (xs ++ ys)
pairs_append R [] ys a b c = b
pairs_append R (x ∷ xs) ys a b c =
    let first : All (R x) xs = λ k d within. a zero (suc k) d (omega arith) (omega (arith, within)) in
    let rest : AllPairs R xs = λ i j d less within. a (suc i) (suc j) d (omega (arith, less)) (omega (arith, within)) in
    AllPairs-cons R x (xs ++ ys) (All-append (R x) xs ys first (All-head (λ z. All (R z) ys) x xs c))
    (pairs_append R xs ys rest b (All-tail (λ z. All (R z) ys) x xs c))

none_paired : {X : Type 0} (R : X → X → Type 0) → AllPairs R []
none_paired R i j d less within = absurd (omega (arith, within))

range_below : (a n m : ℕ) → a + n ≤ m → All (λ k. k < m) (range_with_len a n)
range_below a zero m few = All-nil (λ k. k < m)
range_below a (suc n) m few = All-cons (λ k. k < m) a (range_with_len (a + 1) n) (omega (arith, few))
    (range_below (a + 1) n m (omega (arith, few)))

range_from : (a n m : ℕ) → m ≤ a → All (λ k. m ≤ k) (range_with_len a n)
range_from a zero m from = All-nil (λ k. m ≤ k)
range_from a (suc n) m from = All-cons (λ k. m ≤ k) a (range_with_len (a + 1) n) from
    (range_from (a + 1) n m (omega (arith, from)))

range_rises : (a n : ℕ) → AllPairs (λ x y. x < y) (range_with_len a n)
range_rises a zero = none_paired (λ x y. x < y)
range_rises a (suc n) =
    AllPairs-cons (λ x y. x < y) a (range_with_len (a + 1) n)
    (All-weaker (λ k. a + 1 ≤ k) (λ k. a < k) (λ k h. omega (arith, h)) (range_with_len (a + 1) n)
    (range_from (a + 1) n (a + 1) (omega arith)))
    (range_rises (a + 1) n)

-- ---- the listeners of one device

module _ (name : List ℕ) (row : RowId) (ns : List (List ℕ)) where
  abbrev is_it : ℕ → Bool
  is_it k = bytes_eq name (slice_index_or ns k [])

  abbrev heard_at : List ℕ
  heard_at = filter is_it (range_with_len 0 (length ns))

  abbrev as_listener : ℕ → Listener
  as_listener k = record { row = row; switch = k }

  -- they are at numbers of the name
  named_at : All (λ k. (get_or ns k [] ≡ name) × (k < length ns)) heard_at
  named_at =
      let passes = filter_passes is_it (range_with_len 0 (length ns)) in
      let below = All-filter is_it (λ k. k < length ns) (range_with_len 0 (length ns))
      (range_below 0 (length ns) (length ns) (omega arith)) in
      λ i d within.
      (sym ((bytes_eq-Decides name (get_or ns (get_or heard_at i d) [])).0 (passes i d within)), below i d within)

  -- so there is one at most, if the names are apart
  heard_once : AllPairs (λ m n. m ≢ n) ns → AllPairs AreOfTwoRows (listeners_among name row ns)
  heard_once apart i j d less within =
      let many : j < length heard_at = omega (arith, within, length-map heard_at as_listener) in
      let first = named_at i 0 (omega (arith, less, many)) in
      let second = named_at j 0 many in
      let rises = AllPairs-filter (λ x y. x < y) is_it (range_with_len 0 (length ns)) (range_rises 0 (length ns)) in
      absurd (apart (get_or heard_at i 0) (get_or heard_at j 0) [] (rises i j 0 less many) second.1
      (first.0 ∙ sym second.0))

-- ---- the listeners of parts

-- Here `rows` are the rows of the plan, and `heard` the switches to which each listens.
module _ (rows : List DeviceRow) (heard : List (List (List ℕ))) where
  -- the switch of this name is the one to which its row listens at its number, and which its row has
  pub record IsHeardAs (name : List ℕ) (l : Listener) : Type 0 where
    pub name_is : get_or (get_or heard l.row.0 []) l.switch [] ≡ name
    pub within : IsSwitchOf (get_or rows l.row.0 no_row).settings l.switch

  module _ (names : Names) (firsts : List ListId) (lists : List (List Action)) where
    switch_of : (s : Settings) (d : Device) (k : ℕ) → IsRightDevice s d → k < length d.listens → IsSwitchOf s k
    switch_of (kinds.BallDevice b) d k right below = omega (arith, below, right.listens)
    switch_of _ d k right below = tt

    part_heard : (name : List ℕ) (row : RowId) (list : ListId) (p : Part)
        → IsStanding names rows firsts lists heard row list p → IsRight p
        → All (IsHeardAs name) (listeners name row p)
    part_heard name row list (device whose d) stands right =
        let named = named_at name row d.listens in
        All-map (IsHeardAs name) (as_listener name row d.listens) (heard_at name row d.listens)
        (λ i x within. record {
          name_is = ap (λ ns. get_or ns (get_or (heard_at name row d.listens) i x) []) stands.heard_is
              ∙ (named i x within).0;
          within = subst (λ (r : DeviceRow). IsSwitchOf r.settings (get_or (heard_at name row d.listens) i x))
              (sym stands.row_is)
              (switch_of d.settings d (get_or (heard_at name row d.listens) i x) right (named i x within).1);
        })
    part_heard name row list _ stands right = All-nil (IsHeardAs name)

    pub all_heard : (name : List ℕ) (qs : List PartPlace)
        → All (λ q. IsStanding names rows firsts lists heard q.row q.list q.part) qs → All (λ q. IsRight q.part) qs
        → All (IsHeardAs name) (flat_map (λ q. listeners name q.row q.part) qs)
    all_heard name qs stand right =
        All-flat_map (IsHeardAs name) (λ q. listeners name q.row q.part) qs
        (λ i d within. part_heard name (get_or qs i d).row (get_or qs i d).list (get_or qs i d).part (stand i d within)
        (right i d within))

-- ---- each row once

-- the listeners of parts are of rows from this one on
of_row : (name : List ℕ) (row : RowId) (p : Part) → All (λ l. l.row ≡ row) (listeners name row p)
of_row name row (device whose d) = All-map (λ l. l.row ≡ row) (as_listener name row d.listens)
    (heard_at name row d.listens) (λ i x within. refl)
of_row name row _ = All-nil (λ l. l.row ≡ row)

rows_above : (name : List ℕ) (ps : List Part) (r l n : ℕ) → n ≤ r
    → All (λ x. n ≤ x.row.0) (flat_map (λ q. listeners name q.row q.part) (placed_from r l ps))
rows_above name [] r l n from = All-nil (λ (x : Listener). n ≤ x.row.0)
rows_above name (p ∷ ps) r l n from =
    let Above : Listener → Type 0 = λ x. n ≤ x.row.0 in
    let next = placed_from (r + row_count p) (l + length (lists_in p)) ps in
    All-append Above (listeners name (record { 0 = r }) p) (flat_map (λ q. listeners name q.row q.part) next)
    (All-weaker (λ x. x.row ≡ record { 0 = r }) Above (λ x is. omega (arith, from, ap (λ (y : RowId). y.0) is))
    (listeners name (record { 0 = r }) p) (of_row name (record { 0 = r }) p))
    (rows_above name ps (r + row_count p) (l + length (lists_in p)) n (omega (arith, from)))

once_from : (name : List ℕ) (ps : List Part) (r l : ℕ) → All IsHeardOnce ps
    → AllPairs AreOfTwoRows (flat_map (λ q. listeners name q.row q.part) (placed_from r l ps))
once_from name [] r l once = none_paired AreOfTwoRows
once_from name (device whose d ∷ ps) r l once =
    let row : RowId = record { 0 = r } in
    let after = l + length d.lists in
    let later = flat_map (λ q. listeners name q.row q.part) (placed_from (r + 1) after ps) in
    let above = rows_above name ps (r + 1) after (r + 1) (omega arith) in
    pairs_append AreOfTwoRows (listeners_among name row d.listens) later
    (heard_once name row d.listens (All-head IsHeardOnce (device whose d) ps once))
    (once_from name ps (r + 1) after (All-tail IsHeardOnce (device whose d) ps once))
    (All-weaker (λ a. a.row ≡ row) (λ a. All (AreOfTwoRows a) later)
    (λ a is j e inside same. absurd (omega
    (arith, above j e inside, ap (λ (y : RowId). y.0) is, ap (λ (y : RowId). y.0) same)))
    (listeners_among name row d.listens) (of_row name row (device whose d)))
once_from name (p ∷ ps) r l once = once_from name ps (r + row_count p) (l + length (lists_in p))
    (All-tail IsHeardOnce p ps once)

module _ (names : Names) (ps : List Part) where
  -- what listens to the switch of this name
  abbrev pub listening : List ℕ → List Listener
  listening name = flat_map (λ q. listeners name q.row q.part) (part_places ps)

  pub once_listening : All IsHeardOnce ps → (name : List ℕ) → AllPairs AreOfTwoRows (listening name)
  unfolding part_places
  once_listening once name = once_from name ps 0 0 once

  -- ---- all switches

  pub flat_listening : (ns : List (List ℕ))
      → flat_map (λ (s : PlanSwitch). s.listeners) (map (switch_called names ps) ns) ≡ flat_map listening ns
  flat_listening [] = refl
  flat_listening (n ∷ ns) = ap (λ l. listening n ++ l) (flat_listening ns)

  module _ (rows : List DeviceRow) (heard : List (List (List ℕ)))
      (as_named : (name : List ℕ) → All (IsHeardAs rows heard name) (listening name))
      (once : (name : List ℕ) → AllPairs AreOfTwoRows (listening name)) where
    apart_named : (m n : List ℕ) (a b : Listener) → m ≢ n → IsHeardAs rows heard m a → IsHeardAs rows heard n b
        → AreApart a b
    apart_named m n a b differ of_a of_b same_row same_switch =
        differ (sym of_a.name_is ∙ (λ i. get_or (get_or heard (same_row i).0 []) (same_switch i) []) ∙ of_b.name_is)

    pub all_listen_apart : (ns : List (List ℕ)) → names_apart.AreApart ns → AllPairs AreApart (flat_map listening ns)
    all_listen_apart [] apart = none_paired AreApart
    all_listen_apart (n ∷ ns) apart =
        pairs_append AreApart (listening n) (flat_map listening ns)
        (λ i j d less within same_row same_switch. once n i j d less within same_row) (all_listen_apart ns apart.1)
        (λ i d within.
        All-flat_map (AreApart (get_or (listening n) i d)) listening ns
        (λ j m inside k e there. apart_named n (get_or ns j m) (get_or (listening n) i d)
        (get_or (listening (get_or ns j m)) k e) (apart.0 j m inside) (as_named n i d within)
        (as_named (get_or ns j m) k e there)))
