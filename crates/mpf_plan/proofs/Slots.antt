-- The slot of a name that was just noted: it stands at the name's number, and is the only one of the name.
use Rattle.std.proofs.Common.{rules, ◌≡◌, ℕ, ◌<◌, List, [], ◌∷◌, ◌++◌, length, map, set, get_or, refl, sym, ap, ◌∙◌}
use Rattle.std.proofs.{Common.{subst, arith}, lemmas.List.length-map}
use Rattle.plan_tables.specs.declared.{table.Table.Table, entries.{CoilLimits.CoilLimits, SwitchEntry.SwitchEntry}}
use Rattle.plan_tables.specs.{PlanView.{PlanSwitch, PlanCoil}, PlanFields.{coils_view, switches_view}}
use Rattle.mpf_plan.specs.{Uses.number_among, PlanOf.{Use, in_table}, Drafting.names_by}
use Rattle.mpf_plan.proofs.Named.{are_named, named_within}
use Rattle.mpf_plan.proofs.Apart.{AreApart, AreApart-first_uses, where_named, slot_named}

-- the names of switches, if there is one for each; and those of coils
pub switch_names : (ns : List (List ℕ)) (entries : List SwitchEntry) → length entries ≡ length ns
    → map (λ s. s.name) (switches_view ns entries) ≡ ns
switch_names [] x1 same = refl
switch_names (n ∷ ns) [] same = absurd (omega (arith, same))
switch_names (n ∷ ns) (e ∷ es) same = ap (λ rest. n ∷ rest) (switch_names ns es (omega (arith, same)))

pub coil_names : (ns : List (List ℕ)) (entries : List CoilLimits) → length entries ≡ length ns
    → map (λ c. c.name) (coils_view ns entries) ≡ ns
coil_names [] x1 same = refl
coil_names (n ∷ ns) [] same = absurd (omega (arith, same))
coil_names (n ∷ ns) (e ∷ es) same = ap (λ rest. n ∷ rest) (coil_names ns es (omega (arith, same)))

-- Here `us` is used before, and `m` last, in the table `t`. The entries of that table have the names that are used
-- then.
module _ {X : Type 0} (name : X → List ℕ) (d : X) (t : Table) (us : List Use) (m : List ℕ) (view : List X) (number : ℕ)
    (names : map name view ≡ names_by (us ++ (t, m) ∷ []) t)
    (numbered : number ≡ number_among (names_by (us ++ (t, m) ∷ []) t) m) where
  abbrev all : List Use
  all = us ++ (t, m) ∷ []

  same_number : number ≡ number_among (map name view) m
  same_number = numbered ∙ ap (λ ns. number_among ns m) (sym names)

  pub slot_within : number < length view
  slot_within =
      let inside = named_within all (t, m) (are_named us ((t, m) ∷ [])).0 in
      omega (arith, inside, numbered, ap length names, length-map view name)

  pub slot_changed : (f : X → X) → set view number (f (get_or view number d)) ≡ map (where_named name d f m) view
  slot_changed f =
      let inside = slot_within in
      ap (λ n. set view n (f (get_or view n d))) same_number
      ∙ slot_named name d f view m (subst AreApart (sym names) (AreApart-first_uses (in_table t all)))
      (omega (arith, inside, same_number))
