-- The names of modes that are read from a machine text are those that it lists.
use Rattle.std.proofs.Common.{◌≡◌, ℕ, List, map, Ok, sym, inl, ap}
use Rattle.mpf_tables.specs.declared.tables.TextKind.TheVariants.{Machine}
use Rattle.setting_values.{specs.Reading.IsReadOr, proofs.Outcomes.then_or}
use Rattle.mpf_config.specs.{BundleText.machine_name, Reading.{TextRows, text_rows_at, mode_names_at}}
use Rattle.mpf_sections.specs.{Rows.SectionRows, Typed.listed_modes}
use Rattle.mpf_config.specs.RowsOf.{Sizes, within_limits, AreModesOf, IsTextOver}
use Rattle.mpf_config.proofs.TextRows.{text_rows_sound, text_rows_or}
use Rattle.yaml_bytes.proofs.Steps.{bind_ok, ok_is}

abbrev names_from : List SectionRows → List (List ℕ)
names_from rows = map (λ w. w.text) (listed_modes rows)

pub mode_names_sound : (text : List ℕ) (names : List (List ℕ)) → mode_names_at text ≡ Ok names
    → AreModesOf within_limits text names
unfolding mode_names_at
mode_names_sound text names e =
    let a = bind_ok (text_rows_at Machine machine_name text) (λ r. Ok (names_from r.rows)) names e in
    record {
      sections = a.0.sections;
      machine = a.0.rows;
      rows = text_rows_sound Machine machine_name text a.0 a.1;
      are = sym (ok_is (names_from a.0.rows) names a.2);
    }

pub mode_names_or : (text : List ℕ) (sizes : Sizes) (names : List (List ℕ)) → AreModesOf sizes text names
    → IsReadOr (IsTextOver sizes text) (mode_names_at text) names
unfolding mode_names_at
mode_names_or text sizes names h =
    let r : TextRows = record { sections = h.sections; rows = h.machine } in
    then_or (IsTextOver sizes text) (text_rows_at Machine machine_name text) (λ x. Ok (names_from x.rows)) r names
    (text_rows_or sizes Machine machine_name text h.sections h.machine h.rows)
    (inl (ap (λ (xs : List (List ℕ)). Ok xs) (sym h.are)))
