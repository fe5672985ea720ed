-- What was accepted is accepted again with the text of its certificate.
use mathlib.Core.Bool.{Bool-set}
use Rattle.std.proofs.Common.{rules, ◌≡◌, ℕ, ◌<◌, ◌≤◌, ◌^◌, Bool, true, if◌then◌else◌, List, [], length, get_or, Option}
use Rattle.std.proofs.Common.{Some, None, Result, Ok, Err, inl, inr, refl, sym, ap, ◌∙◌, subst, arith}
use Rattle.std.{specs.List.{All, zip}, proofs.lemmas.{Bool.not-false, Slice.Zip.{firsts-zip, seconds-zip}}}
use Rattle.std.proofs.{Math.Logic.∥∥₁_elim, lemmas.List.{get_or-map, Elements.All-weaker}}
use Rattle.mpf_sections.specs.Named.{IsNamed}
use Rattle.mpf_config.specs.{declared.config.Config.Config, Named.IsNamedMode, Reading.rows_at}
use Rattle.mpf_config.specs.{Rows.Rows, View.rows_view, FewModes.AreFewModes, Short.AreListsShort, States.HaveStates}
use Rattle.mpf_config.proofs.{RowNames.{rows_are_named, modes_are_named}, StateRows.rows_have_states}
use Rattle.plan_tables.specs.{PlanView.PlanView, Limits.entry_names, Valid.HasEntries}
use Rattle.plan_tables.specs.declared.{entries.EventId.EventId, table.Table.TheVariants.Switches}
use Rattle.mpf_plan.specs.PlanOf.{plan_at, plan_of, PlanRefusal}
use Rattle.mpf_plan.proofs.{Judged.plan_at-Ok, ValidPlan.HasEntries-plan_at}
use Rattle.cascade_rank.specs.{Events.weight_of, Cycle.first_open, LeadsTo.{is_grounded, is_open}}
use Rattle.cascade_rank.specs.{Cost.switches_of, Ranks.ranks, Verified.IsVerified}
use Rattle.cascade_rank.specs.Weights.{IsLeastFitting, bound_of, switch_cost, switch_costs, greatest}
use Rattle.cascade_rank.specs.Finding.{RankView, bound_too_large, is_within_limit, found_past, found_at}
use Rattle.cascade_rank.proofs.{FirstEvent.first_event-None, Verifying.IsWithinLimit-from_test, Finds.ranks_least}
use Rattle.cascade_rank.proofs.Switches.{length-switches, switch_of, switch-within_bound}
use Rattle.written_machine.specs.{CheckedView.CheckedView, Accepted.IsAccepted}
use Rattle.config_checker.proofs.{PlanFree.plan_accepted, Names.all_seen, CertificateMeaning.certified_again}
use Rattle.config_checker.specs.CertificateText.{certificate_of, certificate_text, IsCertificateText}
use Rattle.config_checker.specs.{CertificateOf.{IsWord, AreWritable, IsWritable}, ReadAgain.{IsReadAgain, IsAcceptedOf}}
use Rattle.config_checker.specs.Checking.{FaultView, answer_of_weights, weighed_plan, certified_plan, reported_alone}
use Rattle.config_checker.specs.Checking.{faults_of_rows, faults_first, check_plan, checked_at, checked_with_at}
use Rattle.config_checker.proofs.{Certificates.text-is_read, Judging.certified-checked}
use Rattle.config_checker.proofs.CertificateMeaning.{length-costs, costs_counted, accepted_is_certified}
use Rattle.config_checker.proofs.{EventWords.events_are_words, SwitchWords.switches_are_words}

ok_same : {X E : Type 0} (x y : X) → ◌≡◌ {A = Result X E} (Ok x) (Ok y) → x ≡ y
ok_same x y e = cc

err_not_ok : {X E : Type 0} (e : E) (x : X) → ◌≡◌ {A = Result X E} (Err e) (Ok x) → ⊥
err_not_ok e x is = cc

-- a test that was passed
chosen : {X E : Type 0} (b : Bool) (r : Result X E) (e : E) (x : X) → (if b then r else Err e) ≡ Ok x
    → (b ≡ true) × (r ≡ Ok x)
chosen x1 r e x is = search (rules, err_not_ok)

-- ---- weights that were found

module _ (plan : PlanView) (valid : HasEntries plan) (ws : List ℕ) where
  past_found : (first : Option EventId) → first_open plan ≡ first → found_past plan first ≡ Ok ws
      → IsLeastFitting plan ws × (is_within_limit plan ws ≡ true)
  past_found (Some e) is found = absurd (err_not_ok _ ws found)
  past_found None is found =
      let all : (e : EventId) → e.0 < length plan.events → is_grounded plan e ≡ true =
      λ e l. not-false (is_grounded plan e) (first_event-None plan (is_open plan) is e l) in
      let limited = chosen (is_within_limit plan (ranks plan)) (Ok (ranks plan)) bound_too_large ws found in
      subst (λ (v : List ℕ). IsLeastFitting plan v × (is_within_limit plan v ≡ true))
      (ok_same (ranks plan) ws limited.1) (ranks_least plan valid all, limited.0)

  found-verified : found_at plan ≡ Ok ws → IsVerified plan ws (bound_of plan (weight_of ws))
  unfolding found_at
  found-verified found = search (rules, past_found, IsWithinLimit-from_test)

-- a verified certificate whose names are words can be written
module _ (c : CheckedView) (verified : IsVerified c.plan c.weights c.bound) where
  writable : (names : List (List ℕ)) (numbers : List ℕ) → length numbers ≡ length names → All IsWord names
      → All (λ n. n ≤ greatest) numbers → AreWritable (zip names numbers)
  writable names numbers count words low = record {
    names = all_seen (λ (s : List ℕ × ℕ). s.0) IsWord (zip names numbers)
        (subst (All IsWord) (sym (firsts-zip names numbers count)) words);
    numbers =
        all_seen (λ (s : List ℕ × ℕ). s.1) (λ n. n < 2 ^ 32) (zip names numbers)
        (subst (All (λ n. n < 2 ^ 32)) (sym (seconds-zip names numbers count))
        (All-weaker (λ n. n ≤ greatest) (λ n. n < 2 ^ 32) (λ n small. omega (arith, small)) numbers low));
  }

  pub costs_within : All (λ n. n ≤ greatest) (switch_costs c.plan (weight_of c.weights))
  costs_within i d within =
      let few : i < length c.plan.switches = omega (arith, within, length-costs c.plan c.weights) in
      let here : get_or (switch_costs c.plan (weight_of c.weights)) i d
      ≡ switch_cost c.plan (weight_of c.weights) (record { 0 = i }) =
      get_or-map (switch_cost c.plan (weight_of c.weights)) (switches_of c.plan) i (record { 0 = i }) d
      (omega (arith, few, length-switches c.plan))
      ∙ ap (switch_cost c.plan (weight_of c.weights)) (switch_of c.plan i (record { 0 = i }) few) in
      let low = switch-within_bound c.plan 0 (weight_of c.weights) (record { 0 = i }) few in
      omega (arith, here, low, verified.limit.bound_within)

  verified-writable : All IsWord c.plan.events → All IsWord (entry_names c.plan Switches)
      → IsWritable (certificate_of c)
  verified-writable events switches = search (rules, writable, costs_counted, costs_within)

-- the names of its events and of its switches are words
abbrev IsWorded : PlanView → Type 0
IsWorded plan = All IsWord plan.events × All IsWord (entry_names plan Switches)

module _ (rows : Rows) where
  -- what is verified is accepted with the text of its certificate
  verified-again : (c : CheckedView) → faults_of_rows rows ≡ [] → plan_at rows ≡ Ok c.plan
      → IsVerified c.plan c.weights c.bound → IsWorded c.plan → IsReadAgain rows c
  verified-again c none made verified words =
      let read = text-is_read (certificate_of c) (certificate_text c)
      (verified-writable c verified words.0 words.1, refl) in
      certified-checked rows none c.plan made (certificate_text c) ∙ ap reported_alone (certified_again c verified read)

  -- rows that are accepted have no faults of their own
  first-ok : (own : List FaultView) (answer : Result CheckedView (List FaultView)) (c : CheckedView)
      → faults_first own answer ≡ Ok c → (own ≡ []) × (answer ≡ Ok c)
  first-ok x1 answer c is = search (rules, err_not_ok)

  pub found-none : (c : CheckedView) → checked_at rows ≡ Ok c → faults_of_rows rows ≡ []
  unfolding checked_at
  found-none c is = (first-ok (faults_of_rows rows) (check_plan weighed_plan (plan_at rows)) c is).0

  pub given-none : (text : List ℕ) (c : CheckedView) → checked_with_at rows text ≡ Ok c → faults_of_rows rows ≡ []
  unfolding checked_with_at
  given-none text c is = (first-ok (faults_of_rows rows) (check_plan (certified_plan text) (plan_at rows)) c is).0

  checked-plan : (judge : PlanView → Result CheckedView FaultView) (planned : Result PlanView PlanRefusal)
      (c : CheckedView) → check_plan judge planned ≡ Ok c
      → (plan : PlanView) × (planned ≡ Ok plan) × (judge plan ≡ Ok c)
  checked-plan judge x2 c is = search (rules, ok_same, err_not_ok)

  -- what was accepted has the plan of the rows, and weights that serve
  weighed-verified : HaveStates rows → (plan : PlanView) (found : Result (List ℕ) RankView) (c : CheckedView)
      → plan_at rows ≡ Ok plan → found_at plan ≡ found → answer_of_weights plan found ≡ Ok c
      → (plan_at rows ≡ Ok c.plan) × IsVerified c.plan c.weights c.bound
  weighed-verified states plan x3 c made found is =
      search (rules, states, ok_same, found-verified, HasEntries-plan_at, err_not_ok)

  found_is_verified : HaveStates rows → (c : CheckedView) → checked_at rows ≡ Ok c
      → (plan_at rows ≡ Ok c.plan) × IsVerified c.plan c.weights c.bound
  unfolding checked_at weighed_plan
  found_is_verified states c is =
      let from = checked-plan weighed_plan (plan_at rows) c
      (first-ok (faults_of_rows rows) (check_plan weighed_plan (plan_at rows)) c is).1 in
      weighed-verified states from.0 (found_at from.0) c from.1 refl from.2

  -- so it is with a certificate, and the text is that of the certificate
  given_is_verified : (text : List ℕ) (c : CheckedView) → checked_with_at rows text ≡ Ok c
      → (plan_at rows ≡ Ok c.plan) × IsVerified c.plan c.weights c.bound × IsCertificateText c text
  unfolding checked_with_at
  given_is_verified text c is =
      let from = checked-plan (certified_plan text) (plan_at rows) c
      (first-ok (faults_of_rows rows) (check_plan (certified_plan text) (plan_at rows)) c is).1 in
      let certified = accepted_is_certified from.0 text c from.2 in
      (from.1 ∙ ap Ok (sym certified.1), certified.0, certified.2)

  pub found-plan : HaveStates rows → (c : CheckedView) → checked_at rows ≡ Ok c → c.plan ≡ plan_of rows
  found-plan states c is = (plan_at-Ok rows c.plan (found_is_verified states c is).0).0

  -- if no list in the rows is too long, each profile of shots has a state, and there are not too many modes, it is
  -- accepted
  pub found_is_accepted : AreListsShort rows → HaveStates rows → AreFewModes rows.modes → (c : CheckedView)
      → checked_at rows ≡ Ok c → IsAccepted c
  found_is_accepted short states few c is =
      let from = found_is_verified states c is in
      plan_accepted rows short states few (found-none c is) c from.0 from.1

  -- if those of their plan's events and switches are words, it is accepted again
  module _ (words : (plan : PlanView) → plan_at rows ≡ Ok plan → IsWorded plan) where
    again : HaveStates rows → (c : CheckedView) → IsAcceptedOf rows c → IsReadAgain rows c
    again states c (inl is) = let from = found_is_verified states c is
        in verified-again c (found-none c is) from.0 from.1 (words c.plan from.0)
    again states c (inr (text, is)) = let from = given_is_verified text c is
        in verified-again c (given-none text c is) from.0 from.1 (words c.plan from.0)

  -- they are, if every name in the rows is a name
  named-words : All IsNamed rows.machine → All IsNamedMode rows.modes → (plan : PlanView) → plan_at rows ≡ Ok plan
      → IsWorded plan
  named-words machine modes plan made = subst IsWorded (sym (plan_at-Ok rows plan made).0)
      (events_are_words rows machine modes, switches_are_words rows machine modes)

  -- it is so in the rows of a bundle
  pub read-again : (bundle : List ℕ) (c : CheckedView) → rows_at bundle ≡ Ok rows → IsAcceptedOf rows c
      → IsReadAgain rows c
  read-again bundle c read is = again (named-words (rows_are_named bundle rows read) (modes_are_named bundle rows read))
      (rows_have_states bundle rows read) c is

words_prop : (plan : PlanView) → IsProp (IsWorded plan)
words_prop plan = hlevel (Bool-set)

-- and it is so in those of a `Config`
config-words : (config : Config) (plan : PlanView) → plan_at (rows_view config) ≡ Ok plan → IsWorded plan
config-words config plan made = ∥∥₁_elim config.all_named (words_prop plan)
    (λ named. named-words (rows_view config) named.0 named.1 plan made)

pub config-again : (config : Config) (c : CheckedView) → IsAcceptedOf (rows_view config) c
    → IsReadAgain (rows_view config) c
config-again config c is = again (rows_view config) (config-words config) config.have_states c is
