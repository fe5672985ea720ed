-- What each coil of the plan of parts may be sent: what the last part says that is this coil, if no name is lacking.
use Rattle.std.proofs.Common.{rules, ◌≡◌, ℕ, ◌<◌, ◌⊎◌, inl, inr, Bool, true, false, not, if◌then◌else◌, ◌||◌, List}
use Rattle.std.proofs.Common.{[], ◌∷◌, ◌++◌, length, get_or, Option, None, Some, refl, sym, ◌∙◌, subst}
use Rattle.std.proofs.{Common.{true≢false, arith}, lemmas.{Bool.or_parts, Slice.Eq.bytes_eq-Decides}}
use Rattle.std.specs.{Prelude.{unwrap_or, is_some, IfSome}, Str.bytes_eq, List.{All, flat_map, list_any, last_or}}
use Rattle.std.proofs.lemmas.List.{length-map, get_or-map, Elements.All-from_get_or}
use Rattle.plan_tables.specs.declared.entries.{CoilId.CoilId, CoilLimits.CoilLimits}
use Rattle.plan_tables.specs.declared.table.Table.{Table, TheVariants.Coils}
use Rattle.plan_tables.specs.{PlanView.{PlanCoil, no_coil, coil_at}, Valid.IsCoilWithin}
use Rattle.plan_parts.specs.{Parts.{Part, coil}, PartBounds.AreLimits}
use Rattle.mpf_plan.specs.{Uses.{Names, is_lacking}, PlanOf.{coil_called, plan_by}}
use Rattle.mpf_plan.specs.ByName.{limits_called, AreLimitsByName}
use Rattle.mpf_plan.specs.PlanOf.{Use, part_uses, in_table, names_of, part_gives, is_unknown, lacks_name, limits_for}
use Rattle.mpf_plan.proofs.{Named.any_first, Among.name_at, PlanEntries.last_such}

-- ---- a name that is used is given

module _ (n : List ℕ) (there : Names) where
  given_among : (us : List Use) → list_any (is_lacking there) us ≡ false
      → list_any (bytes_eq n) (in_table Coils us) ≡ true → list_any (bytes_eq n) (there Coils) ≡ true
  given_among [] has is = absurd (true≢false (sym is))
  given_among (u ∷ us) has is =
      by u.0 u.1 (given_among us) (or_parts (is_lacking there u) (list_any (is_lacking there) us) has) is
    where
      by : (t : Table) (m : List ℕ)
          → (list_any (is_lacking there) us ≡ false → list_any (bytes_eq n) (in_table Coils us) ≡ true
          → list_any (bytes_eq n) (there Coils) ≡ true)
          → (is_lacking there (t, m) ≡ false) × (list_any (is_lacking there) us ≡ false)
          → list_any (bytes_eq n) (in_table Coils ((t, m) ∷ us)) ≡ true → list_any (bytes_eq n) (there Coils) ≡ true
      by Coils m rest has is = of_coil (bytes_eq n m) refl is
        where
          not_false : (b : Bool) → not b ≡ false → b ≡ true
          not_false x1 none = search rules

          of_coil : (b : Bool) → bytes_eq n m ≡ b → (b || list_any (bytes_eq n) (in_table Coils us)) ≡ true
              → list_any (bytes_eq n) (there Coils) ≡ true
          of_coil true same used =
              subst (λ x. list_any (bytes_eq x) (there Coils) ≡ true) (sym ((bytes_eq-Decides n m).0 same))
              (not_false (list_any (bytes_eq m) (there Coils)) has.0)
          of_coil false other used = rest has.1 used
      by _ m rest has is = rest has.1 is

-- ---- what is given of a name

module _ (n : List ℕ) where
  -- something is found, or there is a coil of the name
  abbrev IsThere : Option CoilLimits → List Part → Type 0
  IsThere o ps = (is_some o ≡ true) ⊎ (list_any (bytes_eq n) (in_table Coils (flat_map part_gives ps)) ≡ true)

  found : (ps : List Part) (o : Option CoilLimits) → IsThere o ps
      → is_some (last_or o (flat_map (limits_for n) ps)) ≡ true
  found [] o (inl is) = is
  found [] o (inr is) = absurd (true≢false (sym is))
  found (coil m limits ∷ ps) o is = by (bytes_eq n m) (found ps) is
    where
      by : (b : Bool)
          → ((q : Option CoilLimits) → IsThere q ps → is_some (last_or q (flat_map (limits_for n) ps)) ≡ true)
          → (is_some o ≡ true) ⊎ ((b || list_any (bytes_eq n) (in_table Coils (flat_map part_gives ps))) ≡ true)
          → is_some (last_or o ((if b then limits ∷ [] else []) ++ flat_map (limits_for n) ps)) ≡ true
      by true rest is = rest (Some limits) (inl refl)
      by false rest is = rest o is
  found (p ∷ ps) o is = found ps o is

some_there : (o : Option CoilLimits) (d : CoilLimits) → is_some o ≡ true → o ≡ Some (unwrap_or o d)
some_there None d is = absurd (true≢false (sym is))
some_there (Some x) d is = refl

-- ---- the plan of parts

module _ (ps : List Part) where
  abbrev names : Names
  names = names_of ps

  given : lacks_name ps ≡ false → (k : ℕ) → k < length (names Coils)
      → is_some (limits_called ps (get_or (names Coils) k [])) ≡ true
  unfolding lacks_name names_of
  given none k inside =
      let us = flat_map part_uses ps in
      let there : Names = λ t. in_table t (flat_map part_gives ps) in
      let name = get_or (names Coils) k [] in
      found name ps None
      (inr (given_among name there us (or_parts (list_any is_unknown ps) (list_any (is_lacking there) us) none).1
      (sym (any_first name (in_table Coils us)) ∙ name_at (names Coils) k inside)))

  pub limits_by_name : lacks_name ps ≡ false → AreLimitsByName ps (plan_by names ps)
  unfolding plan_by
  limits_by_name none c within =
      let name = get_or (names Coils) c.0 [] in
      let inside : c.0 < length (names Coils) = omega
      (arith, within, length-map (names Coils) (coil_called names ps)) in
      let at : coil_at (plan_by names ps) c ≡ coil_called names ps name = get_or-map (coil_called names ps)
      (names Coils) c.0 [] no_coil inside in
      subst (λ (x : PlanCoil). limits_called ps x.name ≡ Some x.limits) (sym at)
      (some_there (limits_called ps name) no_coil.limits (given none c.0 inside))

  -- if all limits that parts say are within bounds of their own, those of each coil are
  pub coils_within : ((name : List ℕ) → All AreLimits (flat_map (limits_for name) ps)) → lacks_name ps ≡ false
      → All IsCoilWithin (plan_by names ps).coils
  coils_within each none =
      All-from_get_or IsCoilWithin (plan_by names ps).coils no_coil (λ i inside.
      let c : CoilId = record { 0 = i } in
      let said = limits_by_name none c inside in
      let name = (coil_at (plan_by names ps) c).name in
      let limits = subst (λ o. IfSome o AreLimits) said
      (last_such AreLimits None (flat_map (limits_for name) ps) tt (each name)) in
      record {
        some_pulse = limits.some_pulse;
        pulse = limits.pulse;
        pulse_power = limits.pulse_power;
        hold_power = limits.hold_power;
      })
