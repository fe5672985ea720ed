use Rattle.mpf_values.specs.{Powers.IsPower, Reading.power_at}
use Rattle.mpf_values.proofs.{Computing.{is_found, is_only, is_refused}, PowerTexts.power_computes}
use Rattle.mpf_values.proofs.powers.power.Goals as goal

pub returns-clause-found : goal.returns-clause-found
returns-clause-found c = is_found (λ v. v) (IsPower c.args.text.now) (power_at c.args.text.now)
    (power_computes c.args.text.now) c.thousandths.result c.thousandths.ensures

pub returns-clause-only : goal.returns-clause-only
returns-clause-only c = is_only (λ v. v) (IsPower c.args.text.now) (power_at c.args.text.now)
    (power_computes c.args.text.now) c.thousandths.result c.thousandths.ensures

pub returns-clause-refused : goal.returns-clause-refused
returns-clause-refused c = is_refused (λ v. v) (IsPower c.args.text.now) (power_at c.args.text.now)
    (power_computes c.args.text.now) c.thousandths.result c.thousandths.ensures
