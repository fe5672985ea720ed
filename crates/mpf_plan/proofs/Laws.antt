-- One part more adds its own to each table, and the numbers that it takes are how many rows and effect lists there are.
use Rattle.std.proofs.Common.{rules, ◌≡◌, ℕ, ◌+◌, List, [], ◌∷◌, ◌++◌, length, map, refl, sym, ap, ap₂, ◌∙◌, append-nil}
use Rattle.std.{proofs.Common.{length-append, arith, Option, None, Some}, specs.List.{flat_map, sum_by, last_or}}
use Rattle.std.proofs.lemmas.{Grind.flat_map-append, List.{length-map, Sums.sum_by-cons}}
use Rattle.plan_tables.specs.declared.{entries.{ListId.ListId, GameRules.GameRules}, devices.RowId.RowId}
use Rattle.plan_tables.specs.declared.entries.Target.TheVariants as targets
use Rattle.plan_parts.specs.Parts.{Part, handler, device}
use Rattle.mpf_plan.specs.{Uses.Names, ByNumber.action_of}
use Rattle.mpf_plan.specs.PlanOf.{row_count, lists_in, placed_from, part_places, plan_by, binding_of, bindings_in}
use Rattle.mpf_plan.specs.PlanOf.{actions_in, device_row, first_list, plan_mode, rules_in}

-- ---- how many there are

abbrev pub list_count : Part → ℕ
list_count p = length (lists_in p)

abbrev pub binding_count : Part → ℕ
binding_count (handler whose e reaction) = 1
binding_count (device whose d) = length d.event_acts
binding_count _ = 0

abbrev pub rows_of_all : List Part → ℕ
rows_of_all ps = sum_by row_count ps

abbrev pub lists_of_all : List Part → ℕ
lists_of_all ps = sum_by list_count ps

-- parts after others have the next numbers
pub placed-append : (ps qs : List Part) (r l : ℕ)
    → placed_from r l (ps ++ qs) ≡ placed_from r l ps ++ placed_from (r + rows_of_all ps) (l + lists_of_all ps) qs
placed-append [] qs r l = ap₂ (λ a b. placed_from a b qs) (omega arith) (omega arith)
placed-append (p ∷ ps) qs r l =
    ap (λ rest. record { row = record { 0 = r }; list = record { 0 = l }; part = p } ∷ rest)
    (placed-append ps qs (r + row_count p) (l + list_count p)
    ∙ ap₂ (λ a b. placed_from (r + row_count p) (l + list_count p) ps ++ placed_from a b qs)
    (let is = sum_by-cons row_count p ps in omega (arith, is))
    (let is = sum_by-cons list_count p ps in omega (arith, is)))

module _ {X : Type 0} (give : RowId → ListId → Part → List X) where
  abbrev pub given : List Part → List X
  given ps = flat_map (λ x. give x.row x.list x.part) (part_places ps)

  -- a table of placed parts grows by what one part more gives
  pub pushed : (ps : List Part) (p : Part)
      → given (ps ++ p ∷ []) ≡ given ps ++ give (record { 0 = rows_of_all ps }) (record { 0 = lists_of_all ps }) p
  unfolding part_places
  pushed ps p =
      ap (flat_map (λ x. give x.row x.list x.part)) (placed-append ps (p ∷ []) 0 0)
      ∙ flat_map-append (λ x. give x.row x.list x.part) (placed_from 0 0 ps)
      (placed_from (0 + rows_of_all ps) (0 + lists_of_all ps) (p ∷ []))
      ∙ ap (λ more. flat_map (λ x. give x.row x.list x.part) (placed_from 0 0 ps) ++ more)
      (append-nil (give (record { 0 = 0 + rows_of_all ps }) (record { 0 = 0 + lists_of_all ps }) p)
      ∙ ap₂ (λ r l. give (record { 0 = r }) (record { 0 = l }) p) (omega arith) (omega arith))

  -- so its size is a count of parts
  sized : (count : Part → ℕ) → ((r : RowId) (l : ListId) (p : Part) → length (give r l p) ≡ count p)
      → (ps : List Part) (r l : ℕ) → length (flat_map (λ x. give x.row x.list x.part) (placed_from r l ps))
      ≡ sum_by count ps
  sized count each [] r l = refl
  sized count each (p ∷ ps) r l =
      length-append (give (record { 0 = r }) (record { 0 = l }) p)
      (flat_map (λ x. give x.row x.list x.part) (placed_from (r + row_count p) (l + list_count p) ps))
      ∙ ap₂ (λ a b. a + b) (each (record { 0 = r }) (record { 0 = l }) p)
      (sized count each ps (r + row_count p) (l + list_count p))
      ∙ sym (sum_by-cons count p ps)

-- what parts give one after the other, wherever they stand
pub one_more : {X : Type 0} (give : Part → List X) (ps : List Part) (p : Part)
    → flat_map give (ps ++ p ∷ []) ≡ flat_map give ps ++ give p
one_more give ps p = flat_map-append give ps (p ∷ []) ∙ ap (λ more. flat_map give ps ++ more) (append-nil (give p))

pub last_or-append : {X : Type 0} (none : Option X) (xs ys : List X)
    → last_or none (xs ++ ys) ≡ last_or (last_or none xs) ys
last_or-append o [] ys = refl
last_or-append o (x ∷ xs) ys = last_or-append (Some x) xs ys

module _ (names : Names) where
  -- bindings, rows and effect lists by pushing
  pub bindings_pushed : (ps : List Part) (p : Part) → (plan_by names (ps ++ p ∷ [])).bindings
      ≡ (plan_by names ps).bindings ++ bindings_in names (record { 0 = rows_of_all ps })
      (record { 0 = lists_of_all ps }) p
  unfolding plan_by
  bindings_pushed ps p = pushed (bindings_in names) ps p

  pub lists_pushed : (ps : List Part) (p : Part)
      → (plan_by names (ps ++ p ∷ [])).lists
      ≡ (plan_by names ps).lists ++ actions_in names (record { 0 = rows_of_all ps }) p
  unfolding plan_by
  lists_pushed ps p = pushed (λ row list part. actions_in names row part) ps p

  pub rows_pushed : (ps : List Part) (p : Part)
      → (plan_by names (ps ++ p ∷ [])).rows ≡ (plan_by names ps).rows ++ device_row (record { 0 = rows_of_all ps }) p
  unfolding plan_by
  rows_pushed ps p = pushed (λ row list part. device_row row part) ps p

  pub row_lists_pushed : (ps : List Part) (p : Part) → (plan_by names (ps ++ p ∷ [])).row_lists
      ≡ (plan_by names ps).row_lists ++ first_list (record { 0 = lists_of_all ps }) p
  unfolding plan_by
  row_lists_pushed ps p = pushed (λ row list part. first_list list part) ps p

  -- modes and the game
  pub modes_pushed : (ps : List Part) (p : Part)
      → (plan_by names (ps ++ p ∷ [])).modes ≡ (plan_by names ps).modes ++ plan_mode names p
  unfolding plan_by
  modes_pushed ps p = one_more (plan_mode names) ps p

  pub game_pushed : (ps : List Part) (p : Part)
      → (plan_by names (ps ++ p ∷ [])).game ≡ last_or (plan_by names ps).game (rules_in names p)
  unfolding plan_by
  game_pushed ps p = ap (last_or None) (one_more (rules_in names) ps p)
      ∙ last_or-append None (flat_map (rules_in names) ps) (rules_in names p)

  -- so the next number of a row, and of an effect list, is how many the plan so far has
  pub bindings_counted : (ps : List Part) → length (plan_by names ps).bindings ≡ sum_by binding_count ps
  unfolding plan_by part_places
  bindings_counted ps = sized (bindings_in names) binding_count one ps 0 0
    where
      one : (r : RowId) (l : ListId) (p : Part) → length (bindings_in names r l p) ≡ binding_count p
      one r l (handler whose e reaction) = refl
      one r l (device whose d) = length-map d.event_acts (λ h. binding_of names whose h.0 (targets.Act r h.1))
      one r l x2 = refl

  pub rows_counted : (ps : List Part) → length (plan_by names ps).rows ≡ rows_of_all ps
  unfolding plan_by part_places
  rows_counted ps = sized (λ row list part. device_row row part) row_count one ps 0 0
    where
      one : (r : RowId) (l : ListId) (p : Part) → length (device_row r p) ≡ row_count p
      one r l p = search rules

  pub lists_counted : (ps : List Part) → length (plan_by names ps).lists ≡ lists_of_all ps
  unfolding plan_by part_places
  lists_counted ps = sized (λ row list part. actions_in names row part) list_count
      (λ r l p. length-map (lists_in p) (map (action_of names r))) ps 0 0
