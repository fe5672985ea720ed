use Rattle.mpf_config.specs.{RowsOf.{within_limits, IsRowsOf, IsAbove}, Reading.rows_at, View.rows_view}
use Rattle.setting_values.proofs.AnswersOf.{is_found, is_only, is_refused}
use Rattle.mpf_config.proofs.Theorem.{rows_sound, rows_or}
use Rattle.mpf_config.proofs.bundle.read_bundle.Goals as goal

pub returns : goal.returns
returns c =
    let bundle = c.args.bundle.now in
    let read = rows_at bundle in
    let r = c.read_exactly.result in
    let h = c.read_exactly.ensures in
    record {
      found = is_found within_limits rows_view read (λ sizes rows. IsRowsOf sizes bundle rows)
          (λ sizes rows. IsAbove sizes bundle rows) (rows_sound bundle) r h;
      only = is_only within_limits rows_view read (λ sizes rows. IsRowsOf sizes bundle rows)
          (λ sizes rows. IsAbove sizes bundle rows) (rows_or bundle) r h;
      refused = is_refused within_limits rows_view read (λ sizes rows. IsRowsOf sizes bundle rows)
          (λ sizes rows. IsAbove sizes bundle rows) (rows_or bundle) r h;
      exact = h;
    }
