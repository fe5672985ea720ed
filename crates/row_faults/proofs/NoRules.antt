-- What has no faults: sections without coil rules, and a coil that a rule does not hold.
use Rattle.std.proofs.Common.{◌≡◌, ℕ, Bool, true, false, if◌then◌else◌, List, [], ◌∷◌, ◌++◌, map, Option, None, Some}
use Rattle.std.proofs.Common.{not, is_some, option_map, refl, sym, ap, ◌∙◌}
use Rattle.std.specs.{List.flat_map, Str.bytes_eq, Prelude.unwrap_or}
use Rattle.std.proofs.lemmas.{Slice.Eq.bytes_eq-Decides, Bool.{false≢true, or_parts}}
use Rattle.section_tables.specs.Rows.{Entry}
use Rattle.yaml_subset.specs.Keys.{is_among}
use Rattle.mpf_tables.specs.SectionTables.{named_in}
use Rattle.mpf_sections.specs.declared.{coil_rules.RuleForm.RuleForm, typed.NameAt.NameAt}
use Rattle.mpf_sections.specs.{Rows.{SectionRows, WrittenName}, View.name_at_view}
use Rattle.mpf_sections.specs.CoilRules.{CoilRule, coil_rules, coil_rule_sections, rule_by, coil_rule_of}
use Rattle.row_faults.specs.{AsWritten.in_order, FaultView.RowFaultView}
use Rattle.row_faults.specs.{Collected.{FaultsView, with_faults}, CoilFaults.named_switch_faults}
use Rattle.row_faults.specs.CoilFaults.{rule_faults, coil_rule_faults, coil_name_faults, hold_faults}
use Rattle.row_faults.proofs.{Collected.with-none, AsWritten.middle-none}

differ : (x y : List ℕ) → bytes_eq x y ≡ false → bytes_eq y x ≡ false
differ x y is = by (bytes_eq y x) refl
  where
    by : (b : Bool) → bytes_eq y x ≡ b → b ≡ false
    by true same = absurd (false≢true (sym is ∙ (bytes_eq-Decides x y).1 (sym ((bytes_eq-Decides y x).0 same))))
    by false same = refl

no_form : (section : List ℕ) (table : List (List ℕ × RuleForm)) → is_among (map (λ r. r.0) table) section ≡ false
    → named_in section table ≡ None
no_form section [] is = refl
no_form section (r ∷ rest) is =
    let both = or_parts (bytes_eq r.0 section) (is_among (map (λ x. x.0) rest) section) is in
    ap (λ (b : Bool). if b then Some r.1 else named_in section rest) (differ r.0 section both.0)
    ∙ no_form section rest both.1

no_faults : (machine : List SectionRows) (text section : List ℕ) (es : List Entry) → named_in section coil_rules ≡ None
    → flat_map (λ e. rule_faults machine text (coil_rule_of section e)) es ≡ []
no_faults machine text section [] none = refl
no_faults machine text section (e ∷ es) none =
    ap (λ (form : Option RuleForm). rule_faults machine text (option_map (λ f. rule_by f e) form)
    ++ flat_map (λ x. rule_faults machine text (coil_rule_of section x)) es) none
    ∙ no_faults machine text section es none

pub not_rules : (f : FaultsView) (section : List ℕ) (es : List Entry) → is_among coil_rule_sections section ≡ false
    → f ≡ with_faults f (flat_map (λ e. rule_faults f.rows.machine f.text (coil_rule_of section e)) es)
not_rules f section es is =
    sym (ap (with_faults f) (no_faults f.rows.machine f.text section es (no_form section coil_rules is)) ∙ with-none f)

-- a rule that holds no coil has the faults of its coil and of its switch
pub no_hold : (machine : List SectionRows) (text : List ℕ) (r : CoilRule) (hold : Option NameAt)
    → r.hold_coil ≡ option_map name_at_view hold → (none : Bool) → is_some hold ≡ not none → none ≡ true
    → in_order r.order ((r.form.coil, coil_name_faults machine text r.coil)
    ∷ (unwrap_or r.form.switch 0, named_switch_faults machine text r.switch) ∷ [])
    ≡ coil_rule_faults machine text r
no_hold machine text r None is none says holds =
    middle-none r.order r.form.coil (unwrap_or r.form.hold_coil 0) (unwrap_or r.form.switch 0)
    (coil_name_faults machine text r.coil) (named_switch_faults machine text r.switch)
    ∙ ap (λ (hold : Option WrittenName). in_order r.order ((r.form.coil, coil_name_faults machine text r.coil)
    ∷ (unwrap_or r.form.hold_coil 0, hold_faults machine text r.name.line hold)
    ∷ (unwrap_or r.form.switch 0, named_switch_faults machine text r.switch) ∷ [])) (sym is)
no_hold machine text r (Some w) is none says holds = absurd (false≢true (sym (says ∙ ap not holds)))
