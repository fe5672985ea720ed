use Rattle.std.proofs.Common.{rules, ◌≡◌, ℕ, List, [], length, get_or, sym, ap, ◌∙◌, below_more, arith}
use Rattle.std.proofs.lemmas.List.{length-map, ext_get_or}
use Rattle.cascade_rank.specs.{Events.weight_of, Weights.switch_costs}
use Rattle.config_checker.specs.declared.certificate_reader.CertificateLine.{CertificateLine}
use Rattle.config_checker.specs.{CertificateRead.lines_view, Checking.{numbers_of, first_other}}
use Rattle.config_checker.proofs.CertificateMeaning.{cost_at, length-costs, first_other-at, first_other-same}
use Rattle.config_checker.proofs.Names.{name_at, number_at, length-numbers_of}
use Rattle.config_checker.proofs.certified.first_other.Goals as goal

-- in place of a line if there is none
abbrev none_line : CertificateLine
none_line = record { name = record { ref_ptr = (0, 0); now = [] }; number = 0 }

pub returns-then-line-cost : goal.returns-then-line-cost
returns-then-line-cost c = search (rules, number_at, cost_at, get_or, first_other-at, length-map, length-costs, name_at)

pub loop-number-preserved : goal.loop-number-preserved
loop-number-preserved c = search (rules, number_at, cost_at, below_more)

pub returns : goal.returns
returns c =
    let plan = c.args.plan.now in
    let lines = c.args.switches.now in
    let costs : List ℕ = switch_costs c.args.plan.now (weight_of c.args.weights.now) in
    let counted = length-numbers_of lines in
    let count : length (numbers_of (lines_view c.args.switches.now))
    ≡ length (switch_costs c.args.plan.now (weight_of c.args.weights.now)) =
    omega (arith, counted, c.requires.switches, length-costs plan c.args.weights.now) in
    let right : numbers_of (lines_view c.args.switches.now)
    ≡ switch_costs c.args.plan.now (weight_of c.args.weights.now) =
    ext_get_or 0 (numbers_of (lines_view lines)) costs count
    (λ k within. c.loop-number.invariant k
    (omega (
      arith,
      within,
      counted,
      c.requires.switches,
      c.switch_count-number-end.ensures.count,
      c.loop-number-test.false,
    ))) in
    sym (ap (first_other (lines_view lines)) (sym right) ∙ first_other-same (lines_view lines))
