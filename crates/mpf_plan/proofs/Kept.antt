-- What parts give to the tables stays as more names come, since it depends on the numbers of the names that they use.
use Rattle.std.proofs.Common.{◌≡◌, ℕ, ◌+◌, List, [], ◌∷◌, ◌++◌, length, refl, ap, ap₂, Option, None}
use Rattle.std.specs.{Prelude.unwrap_or, List.{flat_map, last_or}}
use Rattle.plan_tables.specs.{declared.{entries.ListId.ListId, devices.RowId.RowId}, PlanView.no_switch}
use Rattle.plan_parts.specs.Parts.{Part}
use Rattle.mpf_plan.specs.{Uses.Names, Drafting.names_by, PlanOf.{switch_called, listeners}}
use Rattle.mpf_plan.specs.PlanOf.{Use, part_uses, settings_uses, lists_in, effect_uses, row_count, placed_from}
use Rattle.mpf_plan.specs.PlanOf.{part_places, plan_by, bindings_in, actions_in, plan_mode, rules_in, switch_for}
use Rattle.mpf_plan.proofs.Numbered.{Stay, split, DependsOn, numbers_stay, settings_stay, actions_stay, bindings_stay}
use Rattle.mpf_plan.proofs.Numbered.{mode_stays, rules_stay, switch_stays}

-- what is said by parts, one after the other
pub parts_stay : {X : Type 0} (give : Names → Part → List X) → ((p : Part) → DependsOn (part_uses p) (λ ns. give ns p))
    → (ps : List Part) → DependsOn (flat_map part_uses ps) (λ ns. flat_map (give ns) ps)
parts_stay give each [] old new stay = refl
parts_stay give each (p ∷ ps) old new stay =
    let both = split old new (part_uses p) (flat_map part_uses ps) stay in
    ap₂ (λ xs ys. xs ++ ys) (each p old new both.0) (parts_stay give each ps old new both.1)

-- and by placed parts
pub placed_stay : {X : Type 0} (give : Names → RowId → ListId → Part → List X)
    → ((r : RowId) (l : ListId) (p : Part) → DependsOn (part_uses p) (λ ns. give ns r l p))
    → (ps : List Part) (r l : ℕ) → DependsOn (flat_map part_uses ps)
    (λ ns. flat_map (λ x. give ns x.row x.list x.part) (placed_from r l ps))
placed_stay give each [] r l old new stay = refl
placed_stay give each (p ∷ ps) r l old new stay =
    let both = split old new (part_uses p) (flat_map part_uses ps) stay in
    ap₂ (λ xs ys. xs ++ ys) (each (record { 0 = r }) (record { 0 = l }) p old new both.0)
    (placed_stay give each ps (r + row_count p) (l + length (lists_in p)) old new both.1)

module _ (ps : List Part) where
  pub bindings_kept : DependsOn (flat_map part_uses ps) (λ ns. (plan_by ns ps).bindings)
  unfolding plan_by part_places
  bindings_kept old new stay =
      placed_stay bindings_in (λ r l p a b more. bindings_stay r l p a b (settings_stay a b p more)) ps 0 0 old new stay

  pub lists_kept : DependsOn (flat_map part_uses ps) (λ ns. (plan_by ns ps).lists)
  unfolding plan_by part_places
  lists_kept old new stay = placed_stay (λ ns row list part. actions_in ns row part) (λ r l p. actions_stay r p) ps 0 0
      old new stay

  pub modes_kept : DependsOn (flat_map part_uses ps) (λ ns. (plan_by ns ps).modes)
  unfolding plan_by
  modes_kept old new stay = parts_stay plan_mode (λ p a b more. mode_stays p a b (settings_stay a b p more)) ps old new
      stay

  pub game_kept : DependsOn (flat_map part_uses ps) (λ ns. (plan_by ns ps).game)
  unfolding plan_by
  game_kept old new stay = ap (last_or None)
      (parts_stay rules_in (λ p a b more. rules_stay p a b (settings_stay a b p more)) ps old new stay)

  pub rows_kept : (old new : Names) → (plan_by old ps).rows ≡ (plan_by new ps).rows
  unfolding plan_by
  rows_kept old new = refl

  pub row_lists_kept : (old new : Names) → (plan_by old ps).row_lists ≡ (plan_by new ps).row_lists
  unfolding plan_by
  row_lists_kept old new = refl

-- uses more leave the numbers of those before
pub uses_stay : (us vs : List Use) → Stay (names_by us) (names_by (us ++ vs)) us
uses_stay us vs = numbers_stay [] us vs

-- what is said of a switch
pub switches_stay : (n : List ℕ) (ps : List Part) → DependsOn (flat_map part_uses ps) (λ ns. switch_called ns ps n)
switches_stay n ps old new stay =
    ap (λ said. record (unwrap_or (last_or None said) (record no_switch { name = n }))
    { listeners = flat_map (λ p. listeners n p.row p.part) (part_places ps) })
    (parts_stay (λ ns p. switch_for ns n p) (λ p a b more. switch_stays n p a b (settings_stay a b p more)) ps old new
    stay)
