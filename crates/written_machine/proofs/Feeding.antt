-- The ball devices that may be told of a ball that has arrived, and the first trough.
use Rattle.std.proofs.Common.{rules, ◌≡◌, suc, ◌<◌, Bool, true, false, cond, Some, List, [], ◌∷◌, length, refl, arith}
use Rattle.std.{specs.{Prelude.{Contains, find}, List.All}, proofs.lemmas.{Bool.cases_lt, Option.none-some}}
use Rattle.std.proofs.lemmas.List.{get_or_past, Elements.{All-filter, All-get_or, filter_passes, All-contains}}
use Rattle.plan_tables.specs.PlanView.{PlanView, feeders_of, feeds, first_trough, is_trough, row_at, row_numbers}
use Rattle.plan_tables.specs.{PlanView.{multiball_rows, save_rows, is_save, is_multiball}, BallRows.IsOwnBallDevice}
use Rattle.plan_tables.specs.declared.devices.{BallTarget.BallTarget, RowId.RowId, Settings.Settings}
use Rattle.plan_tables.specs.declared.{entries.Owner.Owner, devices.Telling.{Telling, TheVariants.{Arrived, Wanted}}}
use Rattle.plan_tables.specs.declared.entries.Owner.TheVariants as owners
use Rattle.plan_tables.proofs.Owners.{row_numbers-within}
use Rattle.written_machine.specs.{Devices.ActsAreOwn, Machine.{first_active_save, is_active_save}}
use Rattle.written_machine.specs.Machine.{Machine, device_at, first_away, is_device_away, told_device}

-- ---- what is found in a list

-- what is found is in the list, and passes the test
pub found : {X : Type 0} (p : X → Bool) (xs : List X) (x : X) → find p xs ≡ Some x → Contains xs x × (p x ≡ true)
found p [] x is = absurd (none-some x is)
found p (y ∷ ys) x is = by (p y) refl (found p ys x) is
  where
    by : (b : Bool) → p y ≡ b → (find p ys ≡ Some x → Contains ys x × (p x ≡ true))
        → cond b (Some y) (find p ys) ≡ Some x → Contains (y ∷ ys) x × (p x ≡ true)
    by true passes rest here = search rules
    by false passes rest later =
        let (there, passes_too) = rest later in
        ((suc there.0, let within = there.1 in omega (arith, within), there.2), passes_too)

-- ---- ball devices

-- what has a target is a ball device
feeds-own : (target : BallTarget) (settings : Settings) (owner : Owner) → feeds target settings ≡ true
    → IsOwnBallDevice settings owner → owner ≡ owners.Machine
feeds-own target settings owner is own = search rules

trough-own : (settings : Settings) (owner : Owner) → is_trough settings ≡ true → IsOwnBallDevice settings owner
    → owner ≡ owners.Machine
trough-own settings owner is own = search rules

module _ (plan : PlanView) where
  -- a ball device is the machine's
  ball_row-own : ActsAreOwn plan → (r : RowId) → IsOwnBallDevice (row_at plan r).settings (row_at plan r).owner
  ball_row-own own r = search (rules, cases_lt, All-get_or, get_or_past)

  pub feeders-within : (target : BallTarget) → All (λ r. r.0 < length plan.rows) (feeders_of plan target)
  feeders-within target = All-filter (λ r. feeds target (row_at plan r).settings) (λ r. r.0 < length plan.rows)
      (row_numbers plan) (row_numbers-within plan)

  -- the first device Away to a target is a device of the plan that ejects to it, and is Away
  pub record IsFirstAway (target : BallTarget) (s : Machine) (r : RowId) : Type 0 where
    pub membership : Contains (feeders_of plan target) r
    pub there : r.0 < length plan.rows
    pub away : is_device_away (device_at s r) ≡ true
    pub owner : ActsAreOwn plan → (row_at plan r).owner ≡ owners.Machine

  pub first_away-is : (target : BallTarget) (s : Machine) (r : RowId) → first_away plan target s ≡ Some r
      → IsFirstAway target s r
  first_away-is target s r is =
      search (rules, found, All-contains, filter_passes, feeders-within, feeds-own, ball_row-own)

  -- the first trough is a device of the plan, and the machine's
  pub record IsFirstTrough (r : RowId) : Type 0 where
    pub there : r.0 < length plan.rows
    pub trough : is_trough (row_at plan r).settings ≡ true
    pub owner : ActsAreOwn plan → (row_at plan r).owner ≡ owners.Machine

  pub first_trough-is : (r : RowId) → first_trough plan ≡ Some r → IsFirstTrough r
  first_trough-is r is = search (rules, found, All-contains, row_numbers-within, trough-own, ball_row-own)

  -- who is told something is a device of the plan, and the machine's
  pub record IsToldDevice (r : RowId) : Type 0 where
    pub there : r.0 < length plan.rows
    pub owner : ActsAreOwn plan → (row_at plan r).owner ≡ owners.Machine

  pub told_device-is : (telling : Telling) (s : Machine) (r : RowId) → told_device plan telling s ≡ Some r
      → IsToldDevice r
  told_device-is (Arrived target) s r is = let first = first_away-is target s r is
      in record { there = first.there; owner = first.owner }
  told_device-is (Wanted n) s r is = let first = first_trough-is r is
      in record { there = first.there; owner = first.owner }

  -- ball saves and multiballs are devices of the plan
  pub saves-within : All (λ r. r.0 < length plan.rows) (save_rows plan)
  saves-within = All-filter (λ r. is_save (row_at plan r).settings) (λ r. r.0 < length plan.rows) (row_numbers plan)
      (row_numbers-within plan)

  pub multiballs-within : All (λ r. r.0 < length plan.rows) (multiball_rows plan)
  multiballs-within = All-filter (λ r. is_multiball (row_at plan r).settings) (λ r. r.0 < length plan.rows)
      (row_numbers plan) (row_numbers-within plan)

  -- the first active ball save is a device of the plan, and is active; a ball is on then
  pub record IsFirstSave (s : Machine) (r : RowId) : Type 0 where
    pub membership : Contains (save_rows plan) r
    pub there : r.0 < length plan.rows
    pub active : is_active_save (device_at s r) ≡ true

  pub first_active_save-is : (s : Machine) (r : RowId) → first_active_save plan s ≡ Some r → IsFirstSave s r
  first_active_save-is s r is = search (rules, found, All-contains, saves-within, none-some)
