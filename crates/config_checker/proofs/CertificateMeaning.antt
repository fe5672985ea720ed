-- What a certificate is judged to be for a plan, case by case.
use Rattle.std.proofs.Common.{rules, ◌≡◌, ◌≢◌, ℕ, zero, suc, ◌<◌, ◌==◌, Bool, true, false, cond, List, [], ◌∷◌, length}
use Rattle.std.proofs.Common.{get_or, Option, Some, None, IfSome, option_map, Vec, Global, Result, Ok, Err, refl, sym}
use Rattle.std.{proofs.Common.{ap, subst, ◌∙◌, true≢false, arith}, specs.List.zip}
use Rattle.std.proofs.lemmas.Bool.{cond-true, cond-false, eqb-true, eqb-false, eq-eqb, ne_eqb}
use Rattle.std.proofs.lemmas.{List.{length-map, get_or-map}, Slice.Zip.{firsts-zip, seconds-zip}}
use Rattle.plan_tables.specs.{PlanView.{PlanView, switch_at, no_switch}, Limits.entry_names}
use Rattle.plan_tables.specs.declared.table.Table.TheVariants.{Switches}
use Rattle.cascade_rank.specs.{Events.weight_of, Cost.switches_of, Finding.{RankView, verified_at}}
use Rattle.cascade_rank.specs.{Weights.{switch_cost, switch_costs}, Verified.{IsVerified, IsUnverified}}
use Rattle.cascade_rank.specs.Finding as ranks
use Rattle.cascade_rank.proofs.Switches.{length-switches, switch_of}
use Rattle.cascade_rank.proofs.Verifying.{IsVerified-from_verified_at, IsUnverified-from_verified_at, verified_at-bound}
use Rattle.written_machine.specs.CheckedView.{CheckedView}
use Rattle.config_checker.specs.CertificateText.{NumberedName, Certificate, certificate_of, certificate_text}
use Rattle.config_checker.specs.{CertificateText.IsCertificateText, CertificateOf.{IsTextOf, certificate_at}}
use Rattle.config_checker.specs.{Certified.judge, Checking.reported_alone}
use Rattle.config_checker.specs.declared.certificate_reader.CertificateLines.{CertificateLines}
use Rattle.config_checker.specs.declared.certificate_reader.CertificateLine.{CertificateLine}
use Rattle.config_checker.specs.CertificateRead.{lines_view, certificate_lines_view}
use Rattle.config_checker.specs.Checking.{CertificateFaultView, bad_line, other_events, other_switches, other_bound}
use Rattle.config_checker.specs.Checking.{FaultView, row, limit, cycle, bound, certificate, same_names, names_of}
use Rattle.config_checker.specs.Checking.{numbers_of, named_fault, other_names, wrong_names, first_other, wrong_cost}
use Rattle.config_checker.specs.Checking.{with_costs, answer_by_bound, named_as, certify, certified_plan}
use Rattle.config_checker.specs.Refused.{HasItsSwitches, IsCertificateOf, HasOtherEvents, HasOtherSwitches}
use Rattle.config_checker.specs.Refused.{HasOtherCost, HasTooMuch, IsCertificateFault}
use Rattle.config_checker.proofs.Certificates.{read-is_text, text-is_read}
use Rattle.config_checker.proofs.Names.{same_names-is, same_names-self, zip-parts, parts-length}

some_fault : (x y : CertificateFaultView) → Some x ≡ Some y → x ≡ y
some_fault x y e = cc

pub none-some : {A : Type 0} {X : Type 0} (x : X) → None ≡ Some x → A
none-some x e = absurd (apart e)
  where
    apart : None ≡ Some x → ⊥
    apart e = cc

-- ---- numbers that are compared

-- the one that is found is the first that differs
pub record IsFirstOther (all : NumberedName) (rights : List ℕ) (s : List ℕ × ℕ) : Type 0 where
  pub number : ℕ
  pub within : number < length all
  pub within_rights : number < length rights
  pub name_is : s.0 ≡ get_or (names_of all) number []
  pub right_is : s.1 ≡ get_or rights number 0
  pub other : get_or (numbers_of all) number 0 ≢ get_or rights number 0
  pub first : (n : ℕ) → n < number → get_or (numbers_of all) n 0 ≡ get_or rights n 0

pub first_other-some : (all : NumberedName) (rights : List ℕ) (s : List ℕ × ℕ) → first_other all rights ≡ Some s
    → IsFirstOther all rights s
first_other-some [] rights s e = absurd cc
first_other-some (x ∷ all) [] s e = absurd cc
first_other-some (x ∷ all) (right ∷ rights) s e = by (x.1 == right) refl (first_other-some all rights s) e
  where
    later : IsFirstOther all rights s → x.1 ≡ right → IsFirstOther (x ∷ all) (right ∷ rights) s
    later h same =
        let inside = h.within in
        let inside_rights = h.within_rights in
        record {
          number = suc h.number;
          within = omega (arith, inside);
          within_rights = omega (arith, inside_rights);
          name_is = h.name_is;
          right_is = h.right_is;
          other = h.other;
          first = before h same;
        }
      where
        before : (h : IsFirstOther all rights s) → x.1 ≡ right → (n : ℕ) → n < suc h.number
            → get_or (x.1 ∷ numbers_of all) n 0 ≡ get_or (right ∷ rights) n 0
        before h same zero l = same
        before h same (suc n) l = h.first n (omega (arith, l))

    by : (t : Bool) → (x.1 == right) ≡ t → (first_other all rights ≡ Some s → IsFirstOther all rights s)
        → cond t (first_other all rights) (Some (x.0, right)) ≡ Some s → IsFirstOther (x ∷ all) (right ∷ rights) s
    by true same more e = later (more e) (eqb-true x.1 right same)
    by false differ more e =
        let is : (x.0, right) ≡ s = cc in
        subst (IsFirstOther (x ∷ all) (right ∷ rights)) is
        (record {
          number = 0;
          within = omega arith;
          within_rights = omega arith;
          name_is = refl;
          right_is = refl;
          other = eqb-false x.1 right differ;
          first = λ n l. absurd (omega (arith, l));
        })

-- if none is found, all are right
pub first_other-none : (all : NumberedName) (rights : List ℕ) → length all ≡ length rights
    → first_other all rights ≡ None → numbers_of all ≡ rights
first_other-none [] [] count e = refl
first_other-none [] (right ∷ rights) count e = absurd (omega (arith, count))
first_other-none (x ∷ all) [] count e = absurd (omega (arith, count))
first_other-none (x ∷ all) (right ∷ rights) count e =
    by (x.1 == right) refl (first_other-none all rights (omega (arith, count))) e
  where
    by : (t : Bool) → (x.1 == right) ≡ t → (first_other all rights ≡ None → numbers_of all ≡ rights)
        → cond t (first_other all rights) (Some (x.0, right)) ≡ None → x.1 ∷ numbers_of all ≡ right ∷ rights
    by x1 x2 more e = search (rules, eqb-true)

-- if all before a place are right, and the one there is not, it is found
pub first_other-at : (all : NumberedName) (rights : List ℕ) (k : ℕ) → k < length all → k < length rights
    → ((n : ℕ) → n < k → get_or (numbers_of all) n 0 ≡ get_or rights n 0)
    → get_or (numbers_of all) k 0 ≢ get_or rights k 0
    → first_other all rights ≡ Some (get_or (names_of all) k [], get_or rights k 0)
first_other-at [] rights k l m same other = absurd (omega (arith, l))
first_other-at (x ∷ all) [] k l m same other = absurd (omega (arith, m))
first_other-at (x ∷ all) (right ∷ rights) zero l m same other =
    cond-false (x.1 == right) (first_other all rights) (Some (x.0, right)) (ne_eqb x.1 right other)
first_other-at (x ∷ all) (right ∷ rights) (suc k) l m same other =
    cond-true (x.1 == right) (first_other all rights) (Some (x.0, right)) (eq-eqb x.1 right (same 0 (omega arith)))
    ∙ first_other-at all rights k (omega (arith, l)) (omega (arith, m)) (λ n less. same (suc n) (omega (arith, less)))
    other

pub first_other-same : (all : NumberedName) → first_other all (numbers_of all) ≡ None
first_other-same [] = refl
first_other-same (x ∷ all) = cond-true (x.1 == x.1) (first_other all (numbers_of all)) (Some (x.0, x.1))
    (eq-eqb x.1 x.1 refl) ∙ first_other-same all

-- ---- the costs of a plan's switches

module _ (plan : PlanView) where
  pub length-costs : (w : List ℕ) → length (switch_costs plan (weight_of w)) ≡ length plan.switches
  length-costs w = length-map (switches_of plan) (switch_cost plan (weight_of w)) ∙ length-switches plan

  pub cost_at : (w : List ℕ) (n : ℕ) → n < length plan.switches
      → get_or (switch_costs plan (weight_of w)) n 0 ≡ switch_cost plan (weight_of w) (record { 0 = n })
  cost_at w n h =
      get_or-map (switch_cost plan (weight_of w)) (switches_of plan) n (record { 0 = n }) 0
      (omega (arith, h, length-switches plan))
      ∙ ap (switch_cost plan (weight_of w)) (switch_of plan n (record { 0 = n }) h)

  pub length-names : length (entry_names plan Switches) ≡ length plan.switches
  length-names = length-map plan.switches (λ s. s.name)

  pub switch_name_at : (n : ℕ) → n < length plan.switches
      → get_or (entry_names plan Switches) n [] ≡ (switch_at plan (record { 0 = n })).name
  switch_name_at n h = get_or-map (λ s. s.name) plan.switches n no_switch [] h

  -- switches that are named as those of the plan are as many
  pub as_many : (switches : NumberedName) → names_of switches ≡ entry_names plan Switches
      → length switches ≡ length plan.switches
  as_many switches named = sym (length-map switches (λ (s : List ℕ × ℕ). s.0)) ∙ ap length named ∙ length-names

-- ---- the names

-- if no names are wrong
names-right : (plan : PlanView) (c : Certificate) → wrong_names plan c ≡ None
    → (names_of c.events ≡ plan.events) × HasItsSwitches plan c.switches
names-right plan c is = by (same_names plan.events (names_of c.events)) refl is
  where
    of_switches : (o : Option NumberedName) → other_names plan o ≡ None → HasItsSwitches plan o
    of_switches None e = tt
    of_switches (Some switches) e = among (same_names (entry_names plan Switches) (names_of switches)) refl e
      where
        among : (t : Bool) → same_names (entry_names plan Switches) (names_of switches) ≡ t
            → cond t None (Some other_switches) ≡ None → names_of switches ≡ entry_names plan Switches
        among true same e = sym (same_names-is (entry_names plan Switches) (names_of switches) same)
        among false other e = absurd cc

    by : (t : Bool) → same_names plan.events (names_of c.events) ≡ t
        → cond t (other_names plan c.switches) (Some other_events) ≡ None
        → (names_of c.events ≡ plan.events) × HasItsSwitches plan c.switches
    by true events e = (sym (same_names-is plan.events (names_of c.events) events), of_switches c.switches e)
    by false other e = absurd cc

-- the lines of the switches are as many as the switches of the plan
pub switches_counted : (plan : PlanView) (lines : CertificateLines)
    → wrong_names plan (certificate_lines_view lines) ≡ None
    → IfSome lines.switches (λ v. length v.items ≡ length plan.switches)
switches_counted plan lines is = by lines.switches (names-right plan (certificate_lines_view lines) is).1
  where
    by : (o : Option (Vec CertificateLine Global)) → HasItsSwitches plan (option_map (λ v. lines_view v.items) o)
        → IfSome o (λ v. length v.items ≡ length plan.switches)
    by x1 named = search (rules, length-map, as_many)

-- ---- what it means

-- the fault says what is wrong with the text as a certificate of the plan
abbrev pub IsFaultOfText : PlanView → List ℕ → FaultView → Type 0
IsFaultOfText plan text (row f) = ⊥
IsFaultOfText plan text (limit t) = ⊥
IsFaultOfText plan text (cycle names) = ⊥
IsFaultOfText plan text bound = HasTooMuch plan text
IsFaultOfText plan text (certificate fault) = IsCertificateFault plan text fault

module _ (plan : PlanView) (text : List ℕ) where
  -- what is accepted is verified, and has the plan and the text; and a fault is there
  abbrev Means : Result CheckedView FaultView → Type 0
  Means (Ok c) = IsVerified c.plan c.weights c.bound × (c.plan ≡ plan) × IsCertificateText c text
  Means (Err fault) = IsFaultOfText plan text fault

  module _ (c : Certificate) (read : certificate_at text ≡ Ok c) where
    text_is : IsTextOf c text
    text_is = read-is_text text c read

    other_events-there : same_names plan.events (names_of c.events) ≡ false → HasOtherEvents plan text
    other_events-there other = search (rules, other, text_is, same_names-self)

    other_switches-there : (switches : NumberedName) → c.switches ≡ Some switches
        → same_names plan.events (names_of c.events) ≡ true
        → same_names (entry_names plan Switches) (names_of switches) ≡ false → HasOtherSwitches plan text
    other_switches-there switches stated events other = record {
      certificate = c;
      text_is = text_is;
      events = sym (same_names-is plan.events (names_of c.events) events);
      other = λ has. true≢false (sym (same_names-self (entry_names plan Switches))
          ∙ ap (same_names (entry_names plan Switches)) (sym (subst (HasItsSwitches plan) stated has)) ∙ other);
    }

    -- ---- the names

    named-there : (fault : CertificateFaultView) → wrong_names plan c ≡ Some fault → IsCertificateFault plan text fault
    named-there fault is = by (same_names plan.events (names_of c.events)) refl is
      where
        of_switches : (o : Option NumberedName) → c.switches ≡ o → same_names plan.events (names_of c.events) ≡ true
            → other_names plan o ≡ Some fault → IsCertificateFault plan text fault
        of_switches None stated events e = none-some fault e
        of_switches (Some switches) stated events e =
            among (same_names (entry_names plan Switches) (names_of switches)) refl e
          where
            among : (t : Bool) → same_names (entry_names plan Switches) (names_of switches) ≡ t
                → cond t None (Some other_switches) ≡ Some fault → IsCertificateFault plan text fault
            among true same e = none-some fault e
            among false other e = subst (IsCertificateFault plan text) (some_fault other_switches fault e)
                (other_switches-there switches stated events other)

        by : (t : Bool) → same_names plan.events (names_of c.events) ≡ t
            → cond t (other_names plan c.switches) (Some other_events) ≡ Some fault → IsCertificateFault plan text fault
        by true events e = of_switches c.switches refl events e
        by false other e = subst (IsCertificateFault plan text) (some_fault other_events fault e)
            (other_events-there other)

    named-right : wrong_names plan c ≡ None → IsCertificateOf plan text c
    named-right is = let right = names-right plan c is
        in record { text_is = text_is; events = right.0; switches = right.1 }

    module _ (of_plan : IsCertificateOf plan text c) where
      abbrev weights : List ℕ
      weights = numbers_of c.events

      -- ---- the costs

      accepted_text : (o : Option NumberedName) → c.switches ≡ o → wrong_cost plan weights o ≡ None
          → IsCertificateText (record { plan = plan; weights = weights; bound = c.bound }) text
      accepted_text o stated is = by o stated (subst (HasItsSwitches plan) stated of_plan.switches) is
        where
          events_are : c.events ≡ zip plan.events weights
          events_are = sym (zip-parts c.events) ∙ ap (λ (names : List (List ℕ)). zip names weights) of_plan.events

          by : (o : Option NumberedName) → c.switches ≡ o → HasItsSwitches plan o → wrong_cost plan weights o ≡ None
              → IsCertificateText (record { plan = plan; weights = weights; bound = c.bound }) text
          by x1 stated named e = search (rules, text_is, events_are, first_other-none, as_many, length-costs, zip-parts)

      cost-there : IsVerified plan weights c.bound → (o : Option NumberedName) → c.switches ≡ o → (s : List ℕ × ℕ)
          → wrong_cost plan weights o ≡ Some s → HasOtherCost plan text s.0 s.1
      cost-there verified o stated s is = by o stated (subst (HasItsSwitches plan) stated of_plan.switches) is
        where
          by : (o : Option NumberedName) → c.switches ≡ o → HasItsSwitches plan o → wrong_cost plan weights o ≡ Some s
              → HasOtherCost plan text s.0 s.1
          by None stated named e = none-some s e
          by (Some switches) stated named e =
              let found = first_other-some switches (switch_costs plan (weight_of weights)) s e in
              let inside = found.within in
              let count = as_many plan switches named in
              let within : found.number < length plan.switches = omega (arith, inside, count) in
              let here = cost_at plan weights found.number within in
              record {
                certificate = c;
                of_plan = of_plan;
                verification = verified;
                switches = switches;
                switches_are = stated;
                number = found.number;
                within = within;
                other = λ same. found.other (same ∙ sym here);
                first = λ n l. found.first n l ∙ cost_at plan weights n (omega (arith, l, within));
                name_is = found.name_is ∙ ap (λ (names : List (List ℕ)). get_or names found.number []) named
                    ∙ switch_name_at plan found.number within;
                right_is = found.right_is ∙ here;
              }

      costed-means : IsVerified plan weights c.bound → (o : Option (List ℕ × ℕ))
          → wrong_cost plan weights c.switches ≡ o → Means (with_costs plan c o)
      costed-means verified x2 is = search (rules, accepted_text, cost-there)

      -- ---- the weights and the bound

      bounded-means : (verified : Result ℕ RankView) → verified_at plan weights ≡ verified
          → Means (answer_by_bound plan c verified)
      bounded-means (Ok b) is = by (b == c.bound) refl
        where
          serves : IsVerified plan weights b
          serves = IsVerified-from_verified_at plan weights b is

          by : (t : Bool) → (b == c.bound) ≡ t
              → Means (cond t (with_costs plan c (wrong_cost plan weights c.switches))
              (Err (certificate (other_bound b))))
          by true same = costed-means (subst (IsVerified plan weights) (eqb-true b c.bound same) serves)
              (wrong_cost plan weights c.switches) refl
          by false other =
              record {
                certificate = c;
                of_plan = of_plan;
                verification = serves;
                other = λ same. eqb-false b c.bound other (sym same);
              }
      bounded-means (Err fault) is = by fault (IsUnverified-from_verified_at plan weights fault is)
        where
          by : (fault : RankView) → IsUnverified plan weights fault → IsFaultOfText plan text (named_fault plan fault)
          by (ranks.cycle events) h = absurd h
          by ranks.bound_too_large h = record { certificate = c; of_plan = of_plan; above = h }
          by (ranks.short event needed) h =
              record { certificate = c; of_plan = of_plan; event = event; first = h.1; name_is = refl }
          by ranks.wrong_events h = absurd (h (parts-length c.events ∙ ap length of_plan.events))

    named-means : (o : Option CertificateFaultView) → wrong_names plan c ≡ o → Means (named_as plan c o)
    named-means x1 is = search (rules, named-there, bounded-means, named-right)

  read-means : (read : Result Certificate ℕ) → certificate_at text ≡ read → Means (certify plan read)
  read-means (Ok c) read = named-means c read (wrong_names plan c) refl
  read-means (Err number) misread = λ c is. apart c (sym misread ∙ text-is_read c text is)
    where
      apart : (c : Certificate) → ◌≡◌ {A = Result Certificate ℕ} (Err number) (Ok c) → ⊥
      apart c e = cc

  means : Means (certified_plan text plan)
  unfolding certified_plan
  means = read-means (certificate_at text) refl

  pub accepted_is_certified : (c : CheckedView) → certified_plan text plan ≡ Ok c
      → IsVerified c.plan c.weights c.bound × (c.plan ≡ plan) × IsCertificateText c text
  accepted_is_certified c is = subst Means is means

  pub fault_is_there : (fault : FaultView) → certified_plan text plan ≡ Err fault → IsFaultOfText plan text fault
  fault_is_there fault is = subst Means is means

-- ---- what is answered

module _ (plan : PlanView) (text : List ℕ) where
  pub misread : (number : ℕ) → certificate_at text ≡ Err number
      → certified_plan text plan ≡ Err (certificate (bad_line number))
  unfolding certified_plan
  misread number is = ap (certify plan) is

  pub misnamed : (c : Certificate) (fault : CertificateFaultView) → certificate_at text ≡ Ok c
      → wrong_names plan c ≡ Some fault → certified_plan text plan ≡ Err (certificate fault)
  unfolding certified_plan
  misnamed c fault read is = ap (certify plan) read ∙ ap (named_as plan c) is

  pub is_judged : (c : Certificate) → certificate_at text ≡ Ok c → wrong_names plan c ≡ None
      → certified_plan text plan ≡ judge plan c
  unfolding certified_plan
  is_judged c read is = ap (certify plan) read ∙ ap (named_as plan c) is

-- what is accepted alone
pub alone_ok : (answer : Result CheckedView FaultView) (c : CheckedView) → reported_alone answer ≡ Ok c → answer ≡ Ok c
alone_ok x1 c is = search rules

-- ---- a text that is read again

module _ (c : CheckedView) (verified : IsVerified c.plan c.weights c.bound) where
  abbrev costs : List ℕ
  costs = switch_costs c.plan (weight_of c.weights)

  abbrev names : List (List ℕ)
  names = entry_names c.plan Switches

  pub costs_counted : length costs ≡ length names
  costs_counted = length-costs c.plan c.weights ∙ sym (length-names c.plan)

  weights_are : numbers_of (zip c.plan.events c.weights) ≡ c.weights
  weights_are = seconds-zip c.plan.events c.weights verified.count

  names_right : wrong_names c.plan (certificate_of c) ≡ None
  names_right = search (rules, cond-true, firsts-zip, same_names-self, costs_counted)

  costs_right : wrong_cost c.plan (numbers_of (zip c.plan.events c.weights)) (Some (zip names costs)) ≡ None
  costs_right =
      ap (λ (ws : List ℕ). first_other (zip names costs) (switch_costs c.plan (weight_of ws))) weights_are
      ∙ ap (first_other (zip names costs)) (sym (seconds-zip names costs costs_counted))
      ∙ first_other-same (zip names costs)

  -- if its text is read as its certificate, it is accepted again
  pub certified_again : certificate_at (certificate_text c) ≡ Ok (certificate_of c)
      → certified_plan (certificate_text c) c.plan ≡ Ok c
  unfolding certified_plan
  certified_again read = search (rules, names_right, weights_are, verified_at-bound, cond-true, eq-eqb, costs_right)
