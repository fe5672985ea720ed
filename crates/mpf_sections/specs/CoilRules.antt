-- Coil rules: entries that do something with a coil, as flippers and autofire coils do, by the names of their settings.
-- Here each kind of coil rule has a line in the list of their sections, and the places of its settings.
use Rattle.std.specs.Prelude.{◌≡◌, ℕ, List, [], ◌∷◌, map, Option, None, Some, option_map, option_and_then, slice_get}
use Rattle.std.specs.Prelude.{codes, IfSome}
use Rattle.section_tables.specs.{Rows.Entry, View.entry_view}
use Rattle.section_tables.specs.declared.rows.Entry as entry_rows
use Rattle.mpf_tables.specs.SectionTables as tables
use Rattle.mpf_tables.specs.SectionTables.{named_in, flippers_name, autofire_coils_name}
use Rattle.mpf_sections.specs.declared.coil_rules.{RuleForm.RuleForm, RuleKind.TheVariants.{Flipper, Autofire}}
use Rattle.mpf_sections.specs.declared.coil_rules.CoilRule as typed_coil_rules
use Rattle.mpf_sections.specs.Rows.{WrittenName, HandledEvent, SectionRows}
use Rattle.mpf_sections.specs.View.{name_view, name_at_view, handler_view}
use Rattle.mpf_sections.specs.{Named.{IsName, AllNamedEvents}, TypedCoils.needed_at}
use Rattle.mpf_sections.specs.Typed.{text_of, listed_events, name_in, place_of, entries_in}

-- A coil rule, by the names of its settings: its coil, the coil that it may hold, the switch at which it acts, if its
-- section has these settings, and the events that enable and disable it.
pub record CoilRule : Type 0 where
  pub form : RuleForm
  pub name : WrittenName
  pub coil : WrittenName
  pub hold_coil : Option WrittenName
  pub switch : Option WrittenName
  pub enables : List HandledEvent
  pub disables : List HandledEvent
  pub order : List ℕ

-- ---- the kinds of coil rules

-- `flippers`: a name has to be written for `main_coil` and `activation_switch`, and may be for `hold_coil`;
-- `enable_events` are by default `ball_started`, `disable_events` are `ball_will_end`
abbrev flippers : RuleForm
flippers = record {
  kind = Flipper;
  coil = place_of tables.flippers (codes "main_coil");
  hold_coil = Some (place_of tables.flippers (codes "hold_coil"));
  switch = Some (place_of tables.flippers (codes "activation_switch"));
  enables = place_of tables.flippers (codes "enable_events");
  disables = place_of tables.flippers (codes "disable_events");
}

-- `autofire_coils`: a name has to be written for `coil` and `switch`; `enable_events` and `disable_events` are as for
-- flippers
abbrev autofire_coils : RuleForm
autofire_coils = record {
  kind = Autofire;
  coil = place_of tables.autofire_coils (codes "coil");
  hold_coil = None;
  switch = Some (place_of tables.autofire_coils (codes "switch"));
  enables = place_of tables.autofire_coils (codes "enable_events");
  disables = place_of tables.autofire_coils (codes "disable_events");
}

-- the sections of the machine text whose entries are coil rules
abbrev pub coil_rules : List (List ℕ × RuleForm)
coil_rules = (flippers_name, flippers) ∷ (autofire_coils_name, autofire_coils) ∷ []

abbrev pub coil_rule_sections : List (List ℕ)
coil_rule_sections = map (λ r. r.0) coil_rules

-- ---- entries

-- a name that may be written, if there is a place for it
abbrev pub name_at : Option ℕ → Entry → Option WrittenName
name_at None e = None
name_at (Some place) e = name_in (text_of (slice_get e.values place))

-- a name that has to be written if there is a place for it
abbrev pub switch_at : Option ℕ → Entry → Option WrittenName
switch_at place e = option_map (λ p. needed_at p e) place

-- the coil rule of an entry of this form
unfoldable pub rule_by : RuleForm → Entry → CoilRule
rule_by form e = record {
  form = form;
  name = e.name;
  coil = needed_at form.coil e;
  hold_coil = name_at form.hold_coil e;
  switch = switch_at form.switch e;
  enables = listed_events (slice_get e.values form.enables);
  disables = listed_events (slice_get e.values form.disables);
  order = e.order;
}

-- the coil rule that an entry of the section of this name is, if it is one
abbrev pub coil_rule_of : List ℕ → Entry → Option CoilRule
coil_rule_of section e = option_map (λ form. rule_by form e) (named_in section coil_rules)

-- all names in a coil rule are names
pub record IsNamedCoilRule (r : CoilRule) : Type 0 where
  pub name : IsName r.name.text
  pub coil : IsName r.coil.text
  pub hold_coil : IfSome r.hold_coil (λ w. IsName w.text)
  pub switch : IfSome r.switch (λ w. IsName w.text)
  pub enables : AllNamedEvents r.enables
  pub disables : AllNamedEvents r.disables

-- the coil rule that a value of the program is
abbrev pub coil_rule_view : typed_coil_rules.CoilRule → CoilRule
coil_rule_view r = record {
  form = r.form;
  name = name_view r.name.now;
  coil = name_at_view r.coil;
  hold_coil = option_map name_at_view r.hold_coil;
  switch = option_map name_at_view r.switch;
  enables = map handler_view r.enables.now;
  disables = map handler_view r.disables.now;
  order = r.order.now;
}

-- the coil rule that this entry is, if its section has this name
abbrev pub IsCoilRuleOf : List ℕ → entry_rows.Entry → Option typed_coil_rules.CoilRule → Type 0
IsCoilRuleOf section entry rule = option_map coil_rule_view rule ≡ coil_rule_of section (entry_view entry)

-- ---- quick switches

-- The place of the setting that names a switch in entries of the section of this name, if they make that switch
-- quick: those of flippers and autofire coils do.
abbrev pub quick_place : List ℕ → Option ℕ
quick_place section = option_and_then (λ form. form.switch) (named_in section coil_rules)

-- the names of the switches that these entries have at a place
abbrev pub names_at : Option ℕ → List Entry → List (List ℕ)
names_at None es = []
names_at (Some place) es = map (λ e. (needed_at place e).text) es

-- the names of the switches that a section makes quick
abbrev pub quick_switches : SectionRows → List (List ℕ)
quick_switches s = names_at (quick_place s.name) (entries_in s.content)
