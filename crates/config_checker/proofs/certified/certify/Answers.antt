use Rattle.std.proofs.Common.{sym, ap, subst}
use Rattle.config_checker.specs.{CertificateRead.certificate_lines_view, Certified.as_checked}
use Rattle.config_checker.specs.Checking.{certificate, bad_line, certified_plan, reported_alone}
use Rattle.config_checker.specs.View.{GivesChecked, certificate_fault_view}
use Rattle.config_checker.proofs.{CertificateMeaning.{misread, misnamed, is_judged}, Judging.reports-gives}
use Rattle.config_checker.proofs.certified.certify.Goals as goal

pub returns-in-Err-Line : goal.returns-in-Err-Line
returns-in-Err-Line c =
    let plan = c.args.plan.now in
    let text = c.args.text.now in
    let number = c.in-Err-Line.number in
    let is = rw c.in-Err-Line.field-0-is at c.in-Err-Line.ensures in
    reports-gives c.refusal.result (certificate (bad_line number)) (reported_alone (certified_plan text plan))
    c.refusal.ensures (ap reported_alone (misread plan text number is))

pub returns-in-Some : goal.returns-in-Some
returns-in-Some c =
    let plan = c.args.plan.now in
    let text = c.args.text.now in
    let fault = certificate_fault_view c.in-Some.fault in
    reports-gives c.refusal-in-Some.result (certificate fault) (reported_alone (certified_plan text plan))
    c.refusal-in-Some.ensures
    (ap reported_alone (misnamed plan text (certificate_lines_view c.in-Ok.lines) fault c.in-Ok.ensures
    (sym c.in-Some.ensures)))

pub returns : goal.returns
returns c =
    let plan = c.args.plan.now in
    subst (GivesChecked (as_checked plan c.judge.result))
    (sym (ap reported_alone (is_judged plan c.args.text.now (certificate_lines_view c.in-Ok.lines) c.in-Ok.ensures
    (sym c.in-None.ensures)))) c.judge.ensures
