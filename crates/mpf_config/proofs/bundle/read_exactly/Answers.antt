use Rattle.std.{proofs.Common.{◌≡◌, List, map, Ok, ap, sym, subst, ◌∙◌}, specs.List.All}
use Rattle.mpf_sections.specs.{declared.section.Section.Section, View.section_view, Typed.listed_modes}
use Rattle.mpf_config.specs.{Rows.WrittenName, Named.IsNamedMode, Short.IsShortMode, FewModes.AreFewModes}
use Rattle.mpf_config.specs.{States.HasStatesMode, Apart.{AreDistinct, entry_names}}
use Rattle.mpf_config.specs.Reading.{modes_in_texts, found_of, rows_from}
use Rattle.mpf_config.specs.CodeViews.{texts_view, modes_view, machine_read_view, found_modes_view}
use Rattle.mpf_config.proofs.{Theorem.{machine_distinct, rows_again}, StateRows.rows_have_states}
use Rattle.mpf_config.proofs.{ShortRows.{rows_are_short, rows_are_few}, RowNames.{rows_are_named, modes_are_named}}
use Rattle.mpf_config.proofs.bundle.read_exactly.Goals as goal

pub invariant_of-result : goal.invariant_of-result
invariant_of-result c =
    let bundle = c.args.bundle.now in
    let texts = texts_view c.in_ok-texts.texts.items in
    let machine = machine_read_view c.in_ok-sections.field-0 in
    let found = found_modes_view c.in_ok-mode_reads.mode_reads.items in
    let listed : modes_view c.in_ok-modes_listed.modes_listed.items ≡ listed_modes machine.rows =
    c.in_ok-modes_listed.ensures ∙ c.listed_modes.ensures
    ∙ ap (λ (s : List Section). listed_modes (map section_view s)) c.deref-2.ensures.value in
    let modes = subst (λ (ws : List WrittenName). modes_in_texts machine.rows ws texts ≡ Ok found) listed
    (rw (c.deref-3.ensures.value, c.deref-4.ensures.value, c.deref-5.ensures.value) at c.in_ok-mode_reads.ensures)
    in
    let is = rows_again bundle texts machine found c.if-bundle-gt-MAX_BUNDLE_LEN.false c.in_ok-texts.ensures
    (rw c.deref.ensures.value at c.in_ok-sections.ensures) modes in
    let rows = rows_from texts machine (found_of found) in
    let short = rows_are_short bundle rows is in
    let states = rows_have_states bundle rows is in
    let same = sym c.in_ok-modes.ensures.modes in
    record {
      lists_short = (short.0, subst (All IsShortMode) same short.1);
      have_states = (states.0, subst (All HasStatesMode) same states.1);
      few_modes = subst AreFewModes same (rows_are_few bundle rows is);
      all_named = ∣ (rows_are_named bundle rows is, subst (All IsNamedMode) same (modes_are_named bundle rows is)) ∣₁;
    }

pub read_modes-requires : goal.read_modes-requires
read_modes-requires c =
    let distinct = machine_distinct (texts_view c.in_ok-texts.texts.items) (machine_read_view c.in_ok-sections.field-0)
    (rw c.deref.ensures.value at c.in_ok-sections.ensures) in
    subst (λ (s : List Section). AreDistinct (entry_names (map section_view s))) (sym c.deref-3.ensures.value) distinct
