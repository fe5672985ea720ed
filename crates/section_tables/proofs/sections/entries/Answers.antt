use Rattle.std.proofs.Common.{◌<◌, List, subst}
use Rattle.yaml_subset.specs.View.{pair_view}
use Rattle.section_tables.specs.{EntryOf.AreEntries, TableView.{barred_view, table_view}, View.entries_view}
use Rattle.section_tables.specs.{Reading.entries_at, declared.table.Setting.Setting}
use Rattle.config_faults.specs.Faults.{GivesRows}
use Rattle.setting_values.proofs.AnswersOf.{is_found, is_only, is_refused}
use Rattle.section_tables.proofs.EntriesRead.{entries_sound, entries_complete}
use Rattle.section_tables.proofs.sections.entries.Goals as goal

pub returns : goal.returns
returns c =
    let text = c.args.text.now in
    let barred = barred_view c.args.barred_names in
    let table = table_view c.args.table.now in
    let p = pair_view c.args.pair.now in
    let read = entries_at text barred table p in
    let r = c.read_entries.result in
    let h = subst (λ (rows : List Setting). GivesRows entries_view r (entries_at text barred (table_view rows) p))
    c.in_ok-bare.ensures c.read_entries.ensures in
    record {
      found = is_found 1024 entries_view read (λ n. AreEntries n barred table p) (λ n _. 1024 < n)
          (entries_sound text barred table p) r h;
      only = is_only 1024 entries_view read (λ n. AreEntries n barred table p) (λ n _. 1024 < n)
          (entries_complete text barred table p) r h;
      refused = is_refused 1024 entries_view read (λ n. AreEntries n barred table p) (λ n _. 1024 < n)
          (entries_complete text barred table p) r h;
      exact = h;
    }
