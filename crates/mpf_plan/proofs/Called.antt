-- What parts say of a switch, and of a coil, by its name: nothing if none of them uses the name; and what one part more
-- says.
use Rattle.std.proofs.Common.{rules, arith, append_assoc, ◌≡◌, ℕ, suc, ◌+◌, Bool, true, false, cond, if◌then◌else◌, not}
use Rattle.std.proofs.Common.{◌||◌, List, [], ◌∷◌, ◌++◌, length, map, filter, get_or, slice_index_or, refl, sym, ap}
use Rattle.std.proofs.Common.{ap₂, ◌∙◌, append-nil, Option, None, Some}
use Rattle.std.specs.{Prelude.unwrap_or, Str.bytes_eq, List.{All, flat_map, list_any, last_or, range_with_len}}
use Rattle.std.proofs.lemmas.{Grind.flat_map-append, List.{get_or_at, length_push, map-append, Folds.list_any-append}}
use Rattle.std.proofs.lemmas.List.Elements.{All-nil, All-cons, All-append, All-head, All-tail}
use Rattle.plan_tables.specs.declared.entries.{EventId.EventId, SwitchKind.SwitchKind, ListId.ListId}
use Rattle.plan_tables.specs.declared.{entries.{Listener.Listener, CoilLimits.CoilLimits}, devices.RowId.RowId}
use Rattle.plan_tables.specs.declared.table.Table.{Table, TheVariants.{Events, Switches, Coils}}
use Rattle.plan_tables.specs.PlanView.{PlanSwitch, no_switch, PlanCoil, no_coil}
use Rattle.plan_parts.specs.Parts.{Part, switch, coil, device}
use Rattle.mpf_plan.specs.{Uses.Names, ByNumber.event_of, PlanOf.{switch_called, coil_called}}
use Rattle.mpf_plan.specs.Drafting.{named_switch, named_coil, with_listeners}
use Rattle.mpf_plan.specs.PlanOf.{Use, uses_of, in_table, part_uses, event_uses, effect_uses, row_count, lists_in}
use Rattle.mpf_plan.specs.PlanOf.{placed_from, part_places, listeners_among, listeners, limits_for, switch_for}
use Rattle.mpf_plan.proofs.{Named.in_table-append, Laws.{rows_of_all, lists_of_all, pushed, one_more, last_or-append}}

-- ---- uses of one table

pub own_uses : (t : Table) (names : List (List ℕ)) → in_table t (uses_of t names) ≡ names
own_uses t [] = refl
own_uses Events (n ∷ names) = ap (λ ns. n ∷ ns) (own_uses Events names)
own_uses Switches (n ∷ names) = ap (λ ns. n ∷ ns) (own_uses Switches names)
own_uses Coils (n ∷ names) = ap (λ ns. n ∷ ns) (own_uses Coils names)
own_uses x1 (n ∷ names) = ap (λ ns. n ∷ ns) (own_uses x1 names)

pub left_false : (a b : Bool) → (a || b) ≡ false → a ≡ false
left_false x1 x2 is = search rules

pub right_false : (a b : Bool) → (a || b) ≡ false → b ≡ false
right_false x1 x2 is = search rules

-- Here `n` is a name that is not used.
module _ (n : List ℕ) where
  abbrev pub Unused : Table → List Use → Type 0
  Unused t us = list_any (bytes_eq n) (in_table t us) ≡ false

  unused-append : (t : Table) (us vs : List Use) → Unused t (us ++ vs) → Unused t us × Unused t vs
  unused-append t us vs unused =
      let both = sym (list_any-append (bytes_eq n) (in_table t us) (in_table t vs))
      ∙ ap (list_any (bytes_eq n)) (sym (in_table-append t us vs)) ∙ unused in (
        left_false _ (list_any (bytes_eq n) (in_table t vs)) both,
        right_false (list_any (bytes_eq n) (in_table t us)) _ both,
      )

  -- the numbers, from this one on, by which these listen to the switch of the name
  abbrev pub heard_from : ℕ → List (List ℕ) → List ℕ
  heard_from first [] = []
  heard_from first (m ∷ ms) = if bytes_eq n m then first ∷ heard_from (first + 1) ms else heard_from (first + 1) ms

  heard_numbers : (first : ℕ) (before listens : List (List ℕ)) → length before ≡ first
      → filter (λ k. bytes_eq n (slice_index_or (before ++ listens) k [])) (range_with_len first (length listens))
      ≡ heard_from first listens
  heard_numbers first before [] count = refl
  heard_numbers first before (m ∷ ms) count =
      let numbers : List (List ℕ) → List ℕ =
      λ all. filter (λ k. bytes_eq n (get_or all k [])) (range_with_len (first + 1) (length ms)) in
      ap (λ b. cond b (first ∷ numbers (before ++ m ∷ ms)) (numbers (before ++ m ∷ ms)))
      (ap (bytes_eq n) (get_or_at before m ms [] first count))
      ∙ ap (λ rest. cond (bytes_eq n m) (first ∷ rest) rest)
      (ap numbers (sym (append_assoc before (m ∷ []) ms))
      ∙ heard_numbers (first + 1) (before ++ m ∷ []) ms (length_push before m ∙ ap (λ k. k + 1) count))

  -- those that listen to it
  pub listeners_numbered : (row : RowId) (listens : List (List ℕ))
      → listeners_among n row listens ≡ map (λ k. record { row = row; switch = k }) (heard_from 0 listens)
  listeners_numbered row listens = ap (map (λ k. record { row = row; switch = k })) (heard_numbers 0 [] listens refl)

  unheard : (first : ℕ) (listens : List (List ℕ)) → list_any (bytes_eq n) listens ≡ false
      → heard_from first listens ≡ []
  unheard first [] none = refl
  unheard first (m ∷ ms) none =
      ap (λ b. if b then first ∷ heard_from (first + 1) ms else heard_from (first + 1) ms)
      (left_false (bytes_eq n m) (list_any (bytes_eq n) ms) none)
      ∙ unheard (first + 1) ms (right_false (bytes_eq n m) (list_any (bytes_eq n) ms) none)

  pub none_heard : (row : RowId) (listens : List (List ℕ)) → list_any (bytes_eq n) listens ≡ false
      → listeners_among n row listens ≡ []
  none_heard row listens none = listeners_numbered row listens
      ∙ ap (map (λ k. record { row = row; switch = k })) (unheard 0 listens none)

  -- one more
  heard_more : (first : ℕ) (ms : List (List ℕ)) (m : List ℕ)
      → heard_from first (ms ++ m ∷ []) ≡ heard_from first ms ++ (if bytes_eq n m then (first + length ms) ∷ [] else [])
  heard_more first [] m = by (bytes_eq n m)
    where
      by : (b : Bool) → (if b then first ∷ [] else []) ≡ (if b then (first + 0) ∷ [] else [])
      by true = ap (λ k. k ∷ []) (omega arith)
      by false = refl
  heard_more first (x ∷ ms) m =
      let more = if bytes_eq n m then (first + suc (length ms)) ∷ [] else [] in
      let count : first + 1 + length ms ≡ first + suc (length ms) = omega arith in
      ap (λ rest. if bytes_eq n x then first ∷ rest else rest)
      (heard_more (first + 1) ms m ∙ ap (λ k. heard_from (first + 1) ms ++ (if bytes_eq n m then k ∷ [] else []))
      count)
      ∙ by (bytes_eq n x) (heard_from (first + 1) ms) more
    where
      by : (b : Bool) (rest more : List ℕ)
          → (if b then first ∷ (rest ++ more) else rest ++ more) ≡ (if b then first ∷ rest else rest) ++ more
      by true rest more = refl
      by false rest more = refl

  pub listeners_more : (row : RowId) (ms : List (List ℕ)) (m : List ℕ)
      → listeners_among n row (ms ++ m ∷ [])
      ≡ listeners_among n row ms ++ (if bytes_eq n m then record { row = row; switch = length ms } ∷ [] else [])
  listeners_more row ms m =
      listeners_numbered row (ms ++ m ∷ [])
      ∙ ap (map by_number) (heard_more 0 ms m)
      ∙ map-append by_number (heard_from 0 ms) (if bytes_eq n m then (0 + length ms) ∷ [] else [])
      ∙ ap₂ (λ xs ys. xs ++ ys) (sym (listeners_numbered row ms)) (by (bytes_eq n m))
    where
      by_number : ℕ → Listener
      by_number k = record { row = row; switch = k }

      by : (b : Bool) → map by_number (if b then (0 + length ms) ∷ [] else [])
          ≡ (if b then by_number (length ms) ∷ [] else [])
      by true = ap (λ k. by_number k ∷ []) (omega arith)
      by false = refl

  -- what a part says of a switch that it does not use
  unused_switch : (names : Names) (p : Part) → Unused Switches (part_uses p) → switch_for names n p ≡ []
  unused_switch names (switch m kind confirms a i) unused =
      ap (λ b. if b then
      record {
        name = n;
        kind = kind;
        listeners = [];
        confirms_playfield = confirms;
        active = map (event_of (names Events)) a;
        inactive = map (event_of (names Events)) i;
      } ∷ [] else [])
      (left_false (bytes_eq n m) _ unused)
  unused_switch names x1 unused = refl

  unused_listeners : (r : RowId) (p : Part) → Unused Switches (part_uses p) → listeners n r p ≡ []
  unused_listeners r (device w d) unused =
      let heard = uses_of Switches d.listens in
      let event_acts = flat_map (λ h. event_uses h.0) d.event_acts in
      let settings = unused-append Switches (heard ++ event_acts ++ uses_of Events d.other_mentions)
      (flat_map (flat_map effect_uses) d.lists) unused in
      let events = unused-append Switches (heard ++ event_acts) (uses_of Events d.other_mentions) settings.0 in
      let first = unused-append Switches heard event_acts events.0 in
      none_heard r d.listens (ap (list_any (bytes_eq n)) (sym (own_uses Switches d.listens)) ∙ first.0)
  unused_listeners r x1 unused = refl

  unused_coil : (p : Part) → Unused Coils (part_uses p) → limits_for n p ≡ []
  unused_coil (coil m limits) unused = ap (λ b. if b then limits ∷ [] else []) (left_false (bytes_eq n m) _ unused)
  unused_coil x1 unused = refl

  none_say : {X : Type 0} (t : Table) (give : Part → List X) → ((p : Part) → Unused t (part_uses p) → give p ≡ [])
      → (ps : List Part) → Unused t (flat_map part_uses ps) → flat_map give ps ≡ []
  none_say t give each [] unused = refl
  none_say t give each (p ∷ ps) unused =
      let both = unused-append t (part_uses p) (flat_map part_uses ps) unused in
      ap₂ (λ xs ys. xs ++ ys) (each p both.0) (none_say t give each ps both.1)

  none_listen : (ps : List Part) (r l : ℕ) → Unused Switches (flat_map part_uses ps)
      → flat_map (λ p. listeners n p.row p.part) (placed_from r l ps) ≡ []
  none_listen [] r l unused = refl
  none_listen (p ∷ ps) r l unused =
      let both = unused-append Switches (part_uses p) (flat_map part_uses ps) unused in
      ap₂ (λ xs ys. xs ++ ys) (unused_listeners (record { 0 = r }) p both.0)
      (none_listen ps (r + row_count p) (l + length (lists_in p)) both.1)

  -- no more is known of such a switch than its name, and of such a coil
  pub switch_unused : (names : Names) (ps : List Part) → Unused Switches (flat_map part_uses ps)
      → switch_called names ps n ≡ named_switch n
  unfolding part_places
  switch_unused names ps unused =
      ap₂ (λ said heard. record (unwrap_or (last_or None said) (record no_switch { name = n })) { listeners = heard })
      (none_say Switches (switch_for names n) (unused_switch names) ps unused) (none_listen ps 0 0 unused)

  pub coil_unused : (names : Names) (ps : List Part) → Unused Coils (flat_map part_uses ps)
      → coil_called names ps n ≡ named_coil n
  coil_unused names ps unused =
      ap (λ said. record { name = n; limits = unwrap_or (last_or None said) no_coil.limits })
      (none_say Coils (limits_for n) unused_coil ps unused)

-- ---- one part more

-- what a part says of a switch, if it stands in this row, and of a coil
abbrev pub with_part : Names → RowId → Part → PlanSwitch → PlanSwitch
with_part names row (switch n kind confirms active inactive) s =
    if bytes_eq s.name n
    then record s {
      kind = kind;
      confirms_playfield = confirms;
      active = map (event_of (names Events)) active;
      inactive = map (event_of (names Events)) inactive;
    }
    else s
with_part names row (device whose d) s = with_listeners row d.listens s
with_part names row _ s = s

abbrev pub coil_with : Part → PlanCoil → PlanCoil
coil_with (coil n limits) c = if bytes_eq c.name n then record c { limits = limits } else c
coil_with _ c = c

module _ (names : Names) (n : List ℕ) where
  -- a switch has its name
  named_so : (ps : List Part) → All (λ s. s.name ≡ n) (flat_map (switch_for names n) ps)
  named_so [] = All-nil (λ s. s.name ≡ n)
  named_so (p ∷ ps) = All-append (λ s. s.name ≡ n) (switch_for names n p) (flat_map (switch_for names n) ps) (by p)
      (named_so ps)
    where
      one : (b : Bool) (s : PlanSwitch) → s.name ≡ n → All (λ x. x.name ≡ n) (if b then s ∷ [] else [])
      one true s is = All-cons (λ x. x.name ≡ n) s [] is (All-nil (λ x. x.name ≡ n))
      one false s is = All-nil (λ x. x.name ≡ n)

      by : (p : Part) → All (λ s. s.name ≡ n) (switch_for names n p)
      by (switch m kind confirms a i) = one (bytes_eq n m) _ refl
      by x1 = All-nil (λ s. s.name ≡ n)

  last_named : (found : Option PlanSwitch) (xs : List PlanSwitch)
      → (unwrap_or found (record no_switch { name = n })).name ≡ n → All (λ s. s.name ≡ n) xs
      → (unwrap_or (last_or found xs) (record no_switch { name = n })).name ≡ n
  last_named found [] is all = is
  last_named found (x ∷ xs) is all = last_named (Some x) xs (All-head (λ s. s.name ≡ n) x xs all)
      (All-tail (λ s. s.name ≡ n) x xs all)

  pub called_name : (ps : List Part) → (switch_called names ps n).name ≡ n
  called_name ps = last_named None (flat_map (switch_for names n) ps) refl (named_so ps)

  module _ (ps : List Part) where
    abbrev said : List PlanSwitch
    said = flat_map (switch_for names n) ps

    abbrev hears : List Listener
    hears = flat_map (λ p. listeners n p.row p.part) (part_places ps)

    abbrev made : List PlanSwitch → List Listener → PlanSwitch
    made xs ls = record (unwrap_or (last_or None xs) (record no_switch { name = n })) { listeners = ls }

    abbrev row : RowId
    row = record { 0 = rows_of_all ps }

    more : (p : Part) → switch_called names (ps ++ p ∷ []) n
        ≡ made (said ++ switch_for names n p) (hears ++ listeners n row p)
    more p = ap₂ made (one_more (switch_for names n) ps p) (pushed (λ r l q. listeners n r q) ps p)

    its_name : (switch_called names ps n).name ≡ n
    its_name = called_name ps

    pub switch_called-more : (p : Part) → switch_called names (ps ++ p ∷ []) n
        ≡ with_part names row p (switch_called names ps n)
    switch_called-more p = more p ∙ by p
      where
        by : (p : Part) → made (said ++ switch_for names n p) (hears ++ listeners n row p)
            ≡ with_part names row p (made said hears)
        by (switch m kind confirms a i) = named (bytes_eq n m)
            ∙ ap (λ k. if bytes_eq k m then changed else made said hears) (sym its_name)
          where
            on : List EventId
            on = map (event_of (names Events)) a

            off : List EventId
            off = map (event_of (names Events)) i

            own : PlanSwitch
            own =
                record {
                  name = n;
                  kind = kind;
                  listeners = [];
                  confirms_playfield = confirms;
                  active = on;
                  inactive = off;
                }

            changed : PlanSwitch
            changed = record (made said hears)
                { kind = kind; confirms_playfield = confirms; active = on; inactive = off }

            named : (b : Bool) → made (said ++ (if b then own ∷ [] else [])) (hears ++ [])
                ≡ (if b then changed else made said hears)
            named true =
                ap₂ (λ o ls. record (unwrap_or o (record no_switch { name = n })) { listeners = ls })
                (last_or-append None said (own ∷ [])) (append-nil hears)
                ∙ ap (λ k.
                record {
                  name = k;
                  kind = kind;
                  listeners = hears;
                  confirms_playfield = confirms;
                  active = on;
                  inactive = off;
                }) (sym its_name)
            named false = ap₂ made (append-nil said) (append-nil hears)
        by (device w d) = ap₂ (λ xs k. record (made xs hears) { listeners = hears ++ listeners_among k row d.listens })
            (append-nil said) (sym its_name)
        by x1 = ap₂ made (append-nil said) (append-nil hears)

    pub coil_called-more : (p : Part) → coil_called names (ps ++ p ∷ []) n ≡ coil_with p (coil_called names ps n)
    coil_called-more p = ap of (one_more (limits_for n) ps p) ∙ by p
      where
        limits : List CoilLimits
        limits = flat_map (limits_for n) ps

        of : List CoilLimits → PlanCoil
        of ls = record { name = n; limits = unwrap_or (last_or None ls) no_coil.limits }

        by : (p : Part) → of (limits ++ limits_for n p) ≡ coil_with p (of limits)
        by (coil m own) = named (bytes_eq n m)
          where
            named : (b : Bool) → of (limits ++ (if b then own ∷ [] else []))
                ≡ (if b then record (of limits) { limits = own } else of limits)
            named true = ap (λ o. record { name = n; limits = unwrap_or o no_coil.limits })
                (last_or-append None limits (own ∷ []))
            named false = ap of (append-nil limits)
        by x1 = ap of (append-nil limits)
