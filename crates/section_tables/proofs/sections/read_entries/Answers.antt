use Rattle.yaml_subset.specs.View.{pair_view}
use Rattle.section_tables.specs.{TableView.{barred_view, table_view}, View.entry_view}
use Rattle.section_tables.specs.Reading.{other_entry_at, entries_at}
use Rattle.setting_values.proofs.EachGiven.{gives_each}
use Rattle.section_tables.proofs.sections.read_entries.Goals as goal

pub returns : goal.returns
unfolding entries_at
returns c =
    let given = gives_each pair_view entry_view
    (other_entry_at c.args.text.now (barred_view c.args.barred_names) (table_view c.args.bare.now.table.now))
    c.in_ok-below.below.pairs.now c.each.result c.each.ensures (λ p s m. m) in
    let has = rw c.spot_of.ensures at c.in_ok-below.ensures in
    rw has given
