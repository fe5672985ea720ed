-- What holds of all that rows do holds of all that their plan does, by names.
use Rattle.std.proofs.Common.{rules, ◌≡◌, ℕ, ◌+◌, ◌<◌, Bool, true, false, if◌then◌else◌, List, [], ◌∷◌, ◌++◌, length}
use Rattle.std.proofs.Common.{map, get_or, Ok, sym, refl, ◌∙◌, ap, subst, arith}
use Rattle.std.specs.{Prelude.{Option, None, Some, IfSome, unwrap_or}, Str.bytes_eq, List.{All, flat_map, last_or}}
use Rattle.std.proofs.lemmas.List.{get_or-map, Elements.{All-nil, All-cons, All-head, All-tail, All-map, All-weaker}}
use Rattle.mpf_config.specs.Rows.{Rows}
use Rattle.machine_definitions.specs.Players.{player_event}
use Rattle.plan_tables.specs.declared.{devices.RowId.RowId, entries.Action.{Action, TheVariants.Change}}
use Rattle.plan_tables.specs.declared.entries.{EventId.EventId, CoilId.CoilId, SwitchKind.SwitchKind}
use Rattle.plan_tables.specs.declared.table.Table.TheVariants.{Events, Switches, Coils, Variables}
use Rattle.plan_tables.specs.PlanView.{PlanSwitch, no_switch, PlanCoil, no_coil, PlanView, coil_at, name_of_event}
use Rattle.plan_tables.specs.PlanView.{name_of_variable}
use Rattle.plan_parts.specs.Effects.{pulse, enable, disable, Effect, works, posts, changes, enters, leaves, loses}
use Rattle.plan_parts.specs.{Effects.{arrives, requests, adds_balls}, Parts.{act_on, parts_of}, Doing.Does}
use Rattle.plan_parts.specs.Parts.{Part, switch, coil, game, mode, handler, device, mention, unknown, run, start, stop}
use Rattle.mpf_plan.specs.{Uses.{Names, number_among}, ByNumber.{event_of, action_of}, PlanOf.{plan_of, plan_at}}
use Rattle.mpf_plan.specs.PlanOf.{effect_uses, lists_in, settings_uses, part_uses, names_of, PartPlace, part_places}
use Rattle.mpf_plan.specs.PlanOf.{placed_from, row_count, actions_in, switch_for, switch_called, coil_called, plan_by}
use Rattle.mpf_plan.specs.ByName.{effect_of, IsDone, IsByVariable, AreByVariable}
use Rattle.mpf_plan.proofs.Among.{at_number, IsAmong, uses_among}
use Rattle.mpf_plan.proofs.{PlanEntries.{last_such, unwrap_such}, Judged.plan_at-Ok}
use Rattle.yaml_bytes.proofs.Each.{All-flat_map, All-from_map, All-parts, All-from_flat_map}

-- ---- parts, as they are placed

-- what holds of all parts holds of them as they are placed
pub All-placed : (Q : Part → Type 0) (ps : List Part) (r l : ℕ) → All Q ps → All (λ q. Q q.part) (placed_from r l ps)
All-placed Q [] r l h = All-nil (λ q. Q q.part)
All-placed Q (p ∷ ps) r l h =
    All-cons (λ q. Q q.part) (record { row = record { 0 = r }; list = record { 0 = l }; part = p })
    (placed_from (r + row_count p) (l + length (lists_in p)) ps) (All-head Q p ps h)
    (All-placed Q ps (r + row_count p) (l + length (lists_in p)) (All-tail Q p ps h))

-- ---- uses

module _ (names : Names) (p : Part) (known : All (IsAmong names) (part_uses p)) where
  settings_known : All (IsAmong names) (settings_uses p)
  settings_known = (All-parts (IsAmong names) (settings_uses p) (flat_map (flat_map effect_uses) (lists_in p)) known).0

  -- with what each effect uses
  lists_known : All (All (λ e. All (IsAmong names) (effect_uses e))) (lists_in p)
  lists_known =
      let own = (All-parts (IsAmong names) (settings_uses p) (flat_map (flat_map effect_uses) (lists_in p)) known).1 in
      All-weaker (λ es. All (IsAmong names) (flat_map effect_uses es)) (All (λ e. All (IsAmong names) (effect_uses e)))
      (λ es h. All-from_flat_map (IsAmong names) effect_uses es h) (lists_in p)
      (All-from_flat_map (IsAmong names) (flat_map effect_uses) (lists_in p) own)

-- ---- effect lists

-- what holds of the action of each effect that E holds of holds of all effect lists
module _ (names : Names) (E : Effect → Type 0) (A : Action → Type 0)
    (each : (r : RowId) (e : Effect) → All (IsAmong names) (effect_uses e) → E e → A (action_of names r e)) where
  abbrev IsMet : Part → Type 0
  IsMet p = All (IsAmong names) (part_uses p) × All (All E) (lists_in p)

  list_met : (r : RowId) (es : List Effect) → All (λ e. All (IsAmong names) (effect_uses e)) es → All E es
      → All A (map (action_of names r) es)
  list_met r es known h = All-map A (action_of names r) es
      (λ i d within. each r (get_or es i d) (known i d within) (h i d within))

  part_met : (r : RowId) (p : Part) → IsMet p → All (All A) (actions_in names r p)
  part_met r p h =
      let known = lists_known names p h.0 in
      All-map (All A) (map (action_of names r)) (lists_in p)
      (λ i d within. list_met r (get_or (lists_in p) i d) (known i d within) (h.1 i d within))

  pub lists_met : (ps : List Part) → All (λ p. All (IsAmong names) (part_uses p)) ps
      → All (λ p. All (All E) (lists_in p)) ps → All (All A) (plan_by names ps).lists
  unfolding plan_by part_places
  lists_met ps known h =
      All-flat_map (All A) (λ q. actions_in names q.row q.part) (placed_from 0 0 ps)
      (All-weaker (λ (q : PartPlace). IsMet q.part) (λ (q : PartPlace). All (All A) (actions_in names q.row q.part))
      (λ q is. part_met q.row q.part is) (placed_from 0 0 ps)
      (All-placed IsMet ps 0 0 (λ i d within. (known i d within, h i d within))))

-- ---- names in the plan of parts

module _ (names : Names) (ps : List Part) where
  event_is : (n : List ℕ) → IsAmong names (Events, n) → name_of_event (plan_by names ps) (event_of (names Events) n) ≡ n
  unfolding plan_by
  event_is n known = at_number (names Events) n known

  pub coil_is : (c : CoilId) → c.0 < length (names Coils)
      → (coil_at (plan_by names ps) c).name ≡ get_or (names Coils) c.0 []
  unfolding plan_by
  coil_is c within = ap (λ (x : PlanCoil). x.name)
      (get_or-map (coil_called names ps) (names Coils) c.0 [] no_coil within)

  coil_named : (n : List ℕ) → IsAmong names (Coils, n)
      → (coil_at (plan_by names ps) (record { 0 = number_among (names Coils) n })).name ≡ n
  coil_named n known = coil_is (record { 0 = number_among (names Coils) n }) known ∙ at_number (names Coils) n known

  variable_is : (n : List ℕ) → IsAmong names (Variables, n)
      → name_of_variable (plan_by names ps) (record { 0 = number_among (names Variables) n }) ≡ n
  unfolding plan_by
  variable_is n known = at_number (names Variables) n known

  -- an effect is what its action does, by names
  effect_is : (r : RowId) (e : Effect) → All (IsAmong names) (effect_uses e)
      → effect_of (plan_by names ps) (action_of names r e) ≡ e
  effect_is r (posts n) known = ap posts (event_is n (All-head (IsAmong names) (Events, n) [] known))
  effect_is r (works n (pulse ms power)) known =
      ap (λ m. works m (pulse ms power)) (coil_named n (All-head (IsAmong names) (Coils, n) [] known))
  effect_is r (works n (enable power)) known =
      ap (λ m. works m (enable power)) (coil_named n (All-head (IsAmong names) (Coils, n) [] known))
  effect_is r (works n disable) known = ap (λ m. works m disable)
      (coil_named n (All-head (IsAmong names) (Coils, n) [] known))
  effect_is r (changes v action n) known =
      let rest = All-tail (IsAmong names) (Events, player_event v) ((Variables, v) ∷ []) known in
      ap (λ m. changes m action n) (variable_is v (All-head (IsAmong names) (Variables, v) [] rest))
  effect_is r (enters n drain) known = ap (λ m. enters m drain)
      (event_is n (All-head (IsAmong names) (Events, n) [] known))
  effect_is r _ known = refl

-- ---- what is done

module _ (P : Effect → Type 0) (S L : List ℕ → Type 0) where
  pub does_lists : (p : Part) → Does P S L p → All (All P) (lists_in p)
  does_lists (handler whose e (run effects)) h = All-cons (All P) effects [] h (All-nil (All P))
  does_lists (handler whose e (start m)) h = All-nil (All P)
  does_lists (handler whose e (stop m)) h = All-nil (All P)
  does_lists (handler whose e (act_on row act)) h = All-nil (All P)
  does_lists (device whose d) h = h.0.lists
  does_lists _ h = All-nil (All P)

  module _ (ps : List Part) (h : All (Does P S L) ps) where
    abbrev names : Names
    names = names_of ps

    abbrev plan : PlanView
    plan = plan_by (names_of ps) ps

    abbrev AreFine : List EventId → Type 0
    AreFine es = All (λ e. S (name_of_event plan e)) es

    abbrev IsPosting : PlanSwitch → Type 0
    IsPosting s = AreFine s.active × AreFine s.inactive

    are_fine : (ns : List (List ℕ)) → All (λ n. IsAmong names (Events, n)) ns → All S ns
        → AreFine (map (event_of (names Events)) ns)
    are_fine ns known fine =
        All-map (λ e. S (name_of_event plan e)) (event_of (names Events)) ns
        (λ i d within. subst S (sym (event_is names ps (get_or ns i d) (known i d within))) (fine i d within))

    switch_posts : (name : List ℕ) (p : Part) → All (IsAmong names) (part_uses p) → Does P S L p
        → All IsPosting (switch_for names name p)
    switch_posts name (switch n kind confirms on off) known does = by (bytes_eq name n)
      where
        uses : All (λ m. IsAmong names (Events, m)) (on ++ off)
        uses = All-from_map (IsAmong names) (λ m. (Events, m)) (on ++ off)
            (All-tail (IsAmong names) (Switches, n) (map (λ m. (Events, m)) (on ++ off))
            (settings_known names (switch n kind confirms on off) known))

        both : All (λ m. IsAmong names (Events, m)) on × All (λ m. IsAmong names (Events, m)) off
        both = All-parts (λ m. IsAmong names (Events, m)) on off uses

        own : PlanSwitch
        own = record {
          name = name;
          kind = kind;
          listeners = [];
          confirms_playfield = confirms;
          active = map (event_of (names Events)) on;
          inactive = map (event_of (names Events)) off;
        }

        by : (b : Bool) → All IsPosting (if b then own ∷ [] else [])
        by true = All-cons IsPosting own [] (are_fine on both.0 does.0, are_fine off both.1 does.1) (All-nil IsPosting)
        by false = All-nil IsPosting
    switch_posts name _ known does = All-nil IsPosting

    called_posts : (name : List ℕ) → IsPosting (switch_called names ps name)
    called_posts name =
        let known = uses_among ps in
        unwrap_such IsPosting (last_or None (flat_map (switch_for names name) ps)) (record no_switch { name = name })
        (last_such IsPosting None (flat_map (switch_for names name) ps) tt
        (All-flat_map IsPosting (switch_for names name) ps
        (λ i d within. switch_posts name (get_or ps i d) (known i d within) (h i d within))))
        (All-nil (λ e. S (name_of_event plan e)), All-nil (λ e. S (name_of_event plan e)))

    switches_post : All IsPosting plan.switches
    unfolding plan_by
    switches_post = All-map IsPosting (switch_called names ps) (names Switches)
        (λ i d within. called_posts (get_or (names Switches) i d))

    pub done_from : IsDone P S plan
    done_from = record {
      switches = switches_post;
      lists = lists_met names P (λ a. P (effect_of plan a))
          (λ r e known own. subst P (sym (effect_is names ps r e known)) own) ps (uses_among ps)
          (All-weaker (Does P S L) (λ p. All (All P) (lists_in p)) does_lists ps h);
    }

  -- P holds of all that the plan does, by names
  pub done-named : (rows : Rows) (plan : PlanView) → plan_at rows ≡ Ok plan → All (Does P S L) (parts_of rows)
      → IsDone P S plan
  unfolding plan_of
  done-named rows plan is h = subst (IsDone P S) (sym (plan_at-Ok rows plan is).0) (done_from (parts_of rows) h)

-- ---- changes of variables

module _ (ps : List Part) where
  by_variable_each : (r : RowId) (e : Effect) → All (IsAmong (names_of ps)) (effect_uses e) → Unit {0}
      → IsByVariable (plan_by (names_of ps) ps) (action_of (names_of ps) r e)
  by_variable_each r (changes v action n) known h =
      let first = All-head (IsAmong (names_of ps)) (Events, player_event v) ((Variables, v) ∷ []) known in
      let rest = All-tail (IsAmong (names_of ps)) (Events, player_event v) ((Variables, v) ∷ []) known in
      event_is (names_of ps) ps (player_event v) first
      ∙ ap player_event (sym (variable_is (names_of ps) ps v
      (All-head (IsAmong (names_of ps)) (Variables, v) [] rest)))
  by_variable_each r (works n (pulse ms power)) known h = tt
  by_variable_each r (works n (enable power)) known h = tt
  by_variable_each r (works n disable) known h = tt
  by_variable_each r _ known h = tt

  by_variable_from : AreByVariable (plan_by (names_of ps) ps)
  by_variable_from =
      lists_met (names_of ps) (λ e. Unit {0}) (IsByVariable (plan_by (names_of ps) ps)) by_variable_each ps
      (uses_among ps) (λ i d within j e inside k f there. tt)

-- the event of each change in the plan is that of its variable
pub by_variable : (rows : Rows) (plan : PlanView) → plan_at rows ≡ Ok plan → AreByVariable plan
unfolding plan_of
by_variable rows plan is = subst AreByVariable (sym (plan_at-Ok rows plan is).0) (by_variable_from (parts_of rows))
