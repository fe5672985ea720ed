-- The tables of the plan of rows have the names that its parts use.
use Rattle.std.proofs.Common.{rules, ◌≡◌, ◌≢◌, ℕ, Bool, true, false, if◌then◌else◌, List, [], ◌∷◌, map, refl, ap, ap₂}
use Rattle.std.specs.{Prelude.None, Str.bytes_eq, List.{All, AllPairs, flat_map, last_or}}
use Rattle.std.proofs.lemmas.List.Elements.{All-nil, All-cons}
use Rattle.mpf_config.specs.Rows.{Rows}
use Rattle.plan_tables.specs.declared.table.Table.{Table, TheVariants.{Bindings, Switches, Coils, Rows as RowTable}}
use Rattle.plan_tables.specs.{Limits.entry_names, PlanView.{PlanSwitch, no_switch, PlanCoil}}
use Rattle.plan_parts.specs.Parts.{Part, switch, parts_of}
use Rattle.mpf_plan.specs.{Uses.Names, PlanOf.{names_of, switch_for, switch_called, coil_called, plan_by, plan_of}}
use Rattle.mpf_plan.proofs.{Apart.{AreApart, AreApart-first_uses, all_apart}, PlanEntries.{last_such, unwrap_such}}
use Rattle.yaml_bytes.proofs.Each.{All-flat_map}

-- the names of a table's entries, if they have names
abbrev pub named_of : List Part → Table → List (List ℕ)
named_of ps Bindings = []
named_of ps RowTable = []
named_of ps t = names_of ps t

pub named_apart : (ps : List Part) (t : Table) → AllPairs (λ x y. x ≢ y) (named_of ps t)
unfolding names_of
named_apart ps t = all_apart (named_of ps t) (by t)
  where
    by : (t : Table) → AreApart (named_of ps t)
    by x1 = search (rules, AreApart-first_uses)

module _ (names : Names) (ps : List Part) where
  -- a switch of the plan has its name
  switch_name : (name : List ℕ) → (switch_called names ps name).name ≡ name
  switch_name name =
      unwrap_such Named (last_or None (flat_map (switch_for names name) ps)) (record no_switch { name = name })
      (last_such Named None (flat_map (switch_for names name) ps) tt
      (All-flat_map Named (switch_for names name) ps (λ i p within. of_part _))) refl
    where
      Named : PlanSwitch → Type 0
      Named s = s.name ≡ name

      where_it : (b : Bool) (s : PlanSwitch) → s.name ≡ name
          → All (λ (x : PlanSwitch). x.name ≡ name) (if b then s ∷ [] else [])
      where_it true s is =
          All-cons (λ (x : PlanSwitch). x.name ≡ name) s [] is (All-nil (λ (x : PlanSwitch). x.name ≡ name))
      where_it false s is = All-nil (λ (x : PlanSwitch). x.name ≡ name)

      of_part : (p : Part) → All (λ (x : PlanSwitch). x.name ≡ name) (switch_for names name p)
      of_part (switch n kind confirms active inactive) = where_it (bytes_eq name n) _ refl
      of_part _ = All-nil (λ (x : PlanSwitch). x.name ≡ name)

  switch_names : (ns : List (List ℕ)) → map (λ (s : PlanSwitch). s.name) (map (switch_called names ps) ns) ≡ ns
  switch_names [] = refl
  switch_names (n ∷ ns) = ap₂ (λ m ms. m ∷ ms) (switch_name n) (switch_names ns)

  coil_names : (ns : List (List ℕ)) → map (λ (c : PlanCoil). c.name) (map (coil_called names ps) ns) ≡ ns
  coil_names [] = refl
  coil_names (n ∷ ns) = ap (λ ms. n ∷ ms) (coil_names ns)

pub names-by : (ps : List Part) (t : Table) → entry_names (plan_by (names_of ps) ps) t ≡ named_of ps t
unfolding plan_by
names-by ps Switches = switch_names (names_of ps) ps (names_of ps Switches)
names-by ps Coils = coil_names (names_of ps) ps (names_of ps Coils)
names-by ps _ = refl

pub plan-names : (rows : Rows) (t : Table) → entry_names (plan_of rows) t ≡ named_of (parts_of rows) t
unfolding plan_of
plan-names rows t = names-by (parts_of rows) t
