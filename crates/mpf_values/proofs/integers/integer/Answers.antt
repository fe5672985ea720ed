use Rattle.mpf_values.specs.{Integers.IsInteger, Reading.integer_at}
use Rattle.mpf_values.proofs.{Computing.{is_found, is_only, is_refused}, IntegerTexts.integer_computes}
use Rattle.mpf_values.proofs.integers.integer.Goals as goal

pub returns-clause-found : goal.returns-clause-found
returns-clause-found c = is_found (λ v. v) (IsInteger c.args.text.now) (integer_at c.args.text.now)
    (integer_computes c.args.text.now) c.signed.result c.signed.ensures

pub returns-clause-only : goal.returns-clause-only
returns-clause-only c = is_only (λ v. v) (IsInteger c.args.text.now) (integer_at c.args.text.now)
    (integer_computes c.args.text.now) c.signed.result c.signed.ensures

pub returns-clause-refused : goal.returns-clause-refused
returns-clause-refused c = is_refused (λ v. v) (IsInteger c.args.text.now) (integer_at c.args.text.now)
    (integer_computes c.args.text.now) c.signed.result c.signed.ensures
