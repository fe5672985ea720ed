use Rattle.mpf_values.specs.{Booleans.IsBoolean, Reading.boolean_at}
use Rattle.mpf_values.proofs.{Computing.{is_found, is_only, is_refused}, BooleanTexts.boolean_computes}
use Rattle.mpf_values.proofs.booleans.boolean.Goals as goal

pub returns-clause-found : goal.returns-clause-found
returns-clause-found c = is_found (λ v. v) (IsBoolean c.args.text.now) (boolean_at c.args.text.now)
    (boolean_computes c.args.text.now) c.truth.result c.truth.ensures

pub returns-clause-only : goal.returns-clause-only
returns-clause-only c = is_only (λ v. v) (IsBoolean c.args.text.now) (boolean_at c.args.text.now)
    (boolean_computes c.args.text.now) c.truth.result c.truth.ensures

pub returns-clause-refused : goal.returns-clause-refused
returns-clause-refused c = is_refused (λ v. v) (IsBoolean c.args.text.now) (boolean_at c.args.text.now)
    (boolean_computes c.args.text.now) c.truth.result c.truth.ensures
