use Rattle.std.proofs.Common.{◌<◌, List, subst}
use Rattle.yaml_subset.specs.View.{pair_view}
use Rattle.section_tables.specs.{EntryOf.IsEntry, View.entry_view, declared.table.Setting.Setting}
use Rattle.section_tables.specs.{Reading.entry_at, TableView.table_view}
use Rattle.config_faults.specs.Faults.{GivesRows}
use Rattle.setting_values.proofs.AnswersOf.{is_found, is_only, is_refused}
use Rattle.section_tables.proofs.EntriesRead.{entry_sound, entry_complete}
use Rattle.section_tables.proofs.sections.entry.Goals as goal

pub returns : goal.returns
returns c =
    let text = c.args.text.now in
    let table = table_view c.args.table.now in
    let p = pair_view c.args.pair.now in
    let read = entry_at text table p in
    let r = c.read_entry.result in
    let h = subst (λ (rows : List Setting). GivesRows entry_view r (entry_at text (table_view rows) p))
    c.in_ok-bare.ensures c.read_entry.ensures in
    record {
      found = is_found 1024 entry_view read (λ n. IsEntry n table p) (λ n _. 1024 < n) (entry_sound text table p) r h;
      only = is_only 1024 entry_view read (λ n. IsEntry n table p) (λ n _. 1024 < n) (entry_complete text table p) r h;
      refused = is_refused 1024 entry_view read (λ n. IsEntry n table p) (λ n _. 1024 < n) (entry_complete text table p)
          r h;
      exact = h;
    }
