use Rattle.std.proofs.Common.{◌<◌}
use Rattle.yaml_subset.specs.View.{pair_view}
use Rattle.section_tables.specs.{EntryOf.AreNamesListed, Reading.names_at}
use Rattle.setting_values.{specs.View.names_view, proofs.AnswersOf.{is_found, is_only, is_refused}}
use Rattle.section_tables.proofs.EntriesRead.{names_sound, names_complete}
use Rattle.section_tables.proofs.sections.name_list.Goals as goal

pub returns : goal.returns
returns c =
    let text = c.args.text.now in
    let p = pair_view c.args.pair.now in
    let most = c.args.most in
    let read = names_at most text p in
    let r = c.read_names.result in
    let h = c.read_names.ensures in
    record {
      found = is_found most names_view read (λ n. AreNamesListed n p) (λ n _. most < n) (names_sound most text p) r h;
      only = is_only most names_view read (λ n. AreNamesListed n p) (λ n _. most < n) (names_complete most text p) r h;
      refused = is_refused most names_view read (λ n. AreNamesListed n p) (λ n _. most < n) (names_complete most text p)
          r h;
      exact = h;
    }
