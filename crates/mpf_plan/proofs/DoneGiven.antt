-- The switches and the coils that the parts of rows give are those that the machine text defines.
use Rattle.std.proofs.Common.{rules, ◌≡◌, ℕ, Bool, true, false, ◌||◌, if◌then◌else◌, List, [], ◌∷◌, ◌++◌, map, fold}
use Rattle.std.proofs.Common.{Option, None, Some, refl, sym, ◌∙◌, ap}
use Rattle.std.specs.{Prelude.{is_some, option_map}, Str.bytes_eq, List.{flat_map, list_any, last_or}}
use Rattle.mpf_sections.specs.{Rows.{Switch, Coil}, Typed.switches_in, TypedCoils.coils_in}
use Rattle.mpf_config.specs.Rows.{Rows}
use Rattle.machine_definitions.specs.Definitions.{latest_coil, coil_called, has_switch}
use Rattle.plan_tables.specs.declared.{entries.CoilLimits.CoilLimits, table.Table.TheVariants.{Switches, Coils}}
use Rattle.plan_parts.specs.{CoilEntries.limits_of_coil, PartKinds.{given_switch, given_coil}}
use Rattle.plan_parts.specs.Parts.{Part, switch, coil, game, mode, handler, device, mention, unknown, parts_of}
use Rattle.plan_parts.proofs.DoingGiven.{switches_given, coils_given}
use Rattle.mpf_plan.specs.{PlanOf.{in_table, part_gives, limits_for}, ByName.limits_called}
use Rattle.yaml_bytes.proofs.Each.{any_mapped}

-- ---- the names that are given

gives_switches : (ps : List Part) → in_table Switches (flat_map part_gives ps) ≡ flat_map given_switch ps
gives_switches [] = refl
gives_switches (switch n kind confirms on off ∷ ps) = ap (λ l. n ∷ l) (gives_switches ps)
gives_switches (p ∷ ps) = gives_switches ps

abbrev coil_name : List ℕ × CoilLimits → List ℕ
coil_name g = g.0

gives_coils : (ps : List Part) → in_table Coils (flat_map part_gives ps) ≡ map coil_name (flat_map given_coil ps)
gives_coils [] = refl
gives_coils (coil n limits ∷ ps) = ap (λ l. n ∷ l) (gives_coils ps)
gives_coils (p ∷ ps) = gives_coils ps

-- ---- coils by name

abbrev as_given : Coil → List ℕ × CoilLimits
as_given c = (c.name.text, limits_of_coil c)

module _ (name : List ℕ) where
  abbrev is_called : Coil → Bool
  is_called c = bytes_eq name c.name.text

  -- a coil is found if there is one
  found_some : (cs : List Coil) (o : Option Coil)
      → is_some (fold (latest_coil name) o cs) ≡ (is_some o || list_any is_called cs)
  found_some [] o = by (is_some o)
    where
      by : (b : Bool) → b ≡ (b || false)
      by x1 = search rules
  found_some (c ∷ cs) o = found_some cs (latest_coil name o c) ∙ by (is_called c) o
    where
      by : (b : Bool) (o : Option Coil)
          → (is_some (if b then Some c else o) || list_any is_called cs) ≡ (is_some o || (b || list_any is_called cs))
      by true None = refl
      by true (Some x) = refl
      by false o = refl

  -- the limits that are given under the name
  abbrev limits_in : List ℕ × CoilLimits → List CoilLimits
  limits_in g = if bytes_eq name g.0 then g.1 ∷ [] else []

  limits_given : (ps : List Part) → flat_map (limits_for name) ps ≡ flat_map limits_in (flat_map given_coil ps)
  limits_given [] = refl
  limits_given (coil n limits ∷ ps) = ap (λ l. limits_in (n, limits) ++ l) (limits_given ps)
  limits_given (p ∷ ps) = limits_given ps

  last_limits : (cs : List Coil) (o : Option Coil)
      → last_or (option_map limits_of_coil o) (flat_map limits_in (map as_given cs))
      ≡ option_map limits_of_coil (fold (latest_coil name) o cs)
  last_limits [] o = refl
  last_limits (c ∷ cs) o = by (is_called c) (last_limits cs (latest_coil name o c))
    where
      by : (b : Bool)
          → last_or (option_map limits_of_coil (if b then Some c else o)) (flat_map limits_in (map as_given cs))
          ≡ option_map limits_of_coil (fold (latest_coil name) (latest_coil name o c) cs)
          → last_or (option_map limits_of_coil o)
          ((if b then limits_of_coil c ∷ [] else []) ++ flat_map limits_in (map as_given cs))
          ≡ option_map limits_of_coil (fold (latest_coil name) (latest_coil name o c) cs)
      by true rest = rest
      by false rest = rest

-- ---- the rows

module _ (rows : Rows) (name : List ℕ) where
  -- a switch of this name is given if the machine text has one
  pub switch_is_given : list_any (bytes_eq name) (in_table Switches (flat_map part_gives (parts_of rows)))
      ≡ has_switch rows.machine name
  switch_is_given =
      ap (list_any (bytes_eq name)) (gives_switches (parts_of rows) ∙ switches_given rows)
      ∙ any_mapped (bytes_eq name) (λ (s : Switch). s.name.text) (flat_map switches_in rows.machine)

  -- and so is a coil
  pub coil_is_given : list_any (bytes_eq name) (in_table Coils (flat_map part_gives (parts_of rows)))
      ≡ is_some (coil_called rows.machine name)
  coil_is_given =
      let cs = flat_map coils_in rows.machine in
      ap (list_any (bytes_eq name)) (gives_coils (parts_of rows) ∙ ap (map coil_name) (coils_given rows))
      ∙ any_mapped (bytes_eq name) coil_name (map as_given cs)
      ∙ any_mapped (λ g. bytes_eq name (coil_name g)) as_given cs
      ∙ sym (found_some name cs None)

  -- what parts say of its limits is what its entry says
  pub limits_are_given : limits_called (parts_of rows) name ≡ option_map limits_of_coil (coil_called rows.machine name)
  limits_are_given = ap (last_or None) (limits_given name (parts_of rows)
      ∙ ap (flat_map (limits_in name)) (coils_given rows)) ∙ last_limits name (flat_map coils_in rows.machine) None
