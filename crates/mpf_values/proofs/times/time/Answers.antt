use Rattle.mpf_values.specs.{Times.IsTime, Reading.time_at}
use Rattle.mpf_values.proofs.{Computing.{is_found, is_only, is_refused}, TimeTexts.time_computes}
use Rattle.mpf_values.proofs.times.time.Goals as goal

pub returns-clause-found : goal.returns-clause-found
returns-clause-found c = is_found (λ v. v) (IsTime c.args.text.now) (time_at c.args.text.now)
    (time_computes c.args.text.now) c.milliseconds.result c.milliseconds.ensures

pub returns-clause-only : goal.returns-clause-only
returns-clause-only c = is_only (λ v. v) (IsTime c.args.text.now) (time_at c.args.text.now)
    (time_computes c.args.text.now) c.milliseconds.result c.milliseconds.ensures

pub returns-clause-refused : goal.returns-clause-refused
returns-clause-refused c = is_refused (λ v. v) (IsTime c.args.text.now) (time_at c.args.text.now)
    (time_computes c.args.text.now) c.milliseconds.result c.milliseconds.ensures
