-- One entry of a table that is written: the view of it changes at the same place.
use Rattle.std.proofs.Common.{rules, ◌≡◌, ℕ, zero, suc, ◌<◌, ◌≤◌, List, [], ◌∷◌, ◌++◌, length, set, get_or, refl, ap}
use Rattle.std.proofs.Common.{sym, ◌∙◌, arith}
use Rattle.plan_tables.specs.declared.entries.{CoilLimits.CoilLimits, SwitchEntry.SwitchEntry}
use Rattle.plan_tables.specs.PlanView.{PlanSwitch, no_switch, PlanCoil, no_coil}
use Rattle.plan_tables.specs.PlanFields.{switch_entry_view, switches_view, coils_view}
use Rattle.mpf_plan.specs.Drafting.{with_limits}

pub switch_set : (ns : List (List ℕ)) (es : List SwitchEntry) (k : ℕ) (now : SwitchEntry) (f : PlanSwitch → PlanSwitch)
    → k < length es
    → ((n : List ℕ) → switch_entry_view (n, now) ≡ f (switch_entry_view (n, get_or es k now)))
    → switches_view ns (set es k now) ≡ set (switches_view ns es) k (f (get_or (switches_view ns es) k no_switch))
switch_set [] es k now f within same = refl
switch_set (n ∷ ns) [] k now f within same = absurd (omega (arith, within))
switch_set (n ∷ ns) (e ∷ es) zero now f within same = ap (λ s. s ∷ switches_view ns es) (same n)
switch_set (n ∷ ns) (e ∷ es) (suc k) now f within same =
    ap (λ rest. switch_entry_view (n, e) ∷ rest) (switch_set ns es k now f (omega (arith, within)) same)

pub coil_set : (ns : List (List ℕ)) (xs : List CoilLimits) (k : ℕ) (limits : CoilLimits) → k < length xs
    → coils_view ns (set xs k limits) ≡ set (coils_view ns xs) k
    (with_limits limits (get_or (coils_view ns xs) k no_coil))
coil_set [] xs k limits within = refl
coil_set (n ∷ ns) [] k limits within = absurd (omega (arith, within))
coil_set (n ∷ ns) (x ∷ xs) zero limits within = refl
coil_set (n ∷ ns) (x ∷ xs) (suc k) limits within =
    ap (λ rest. record { name = n; limits = x } ∷ rest) (coil_set ns xs k limits (omega (arith, within)))

-- there are no more switches than entries
pub view_short : (ns : List (List ℕ)) (es : List SwitchEntry) → length (switches_view ns es) ≤ length es
view_short [] es = omega arith
view_short (n ∷ ns) [] = omega arith
view_short (n ∷ ns) (e ∷ es) = let rest = view_short ns es in omega (arith, rest)
