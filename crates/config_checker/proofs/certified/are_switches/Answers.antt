use Rattle.std.proofs.Common.{rules, sym, ◌∙◌, below_more, arith}
use Rattle.plan_tables.specs.{declared.table.Table.TheVariants.Switches, Limits.entry_names}
use Rattle.config_checker.specs.{CertificateRead.lines_view, Checking.names_of}
use Rattle.config_checker.proofs.{CertificateMeaning.{length-names, switch_name_at}, Names.{place-other, place-same}}
use Rattle.config_checker.proofs.Names.{same_names-count, same_names-other, same_names-all, length-names_of}
use Rattle.config_checker.proofs.certified.are_switches.Goals as goal

pub returns-then-lines-switch_count : goal.returns-then-lines-switch_count
returns-then-lines-switch_count c = search (rules, length-names_of, same_names-count, length-names)

pub returns-then-ne : goal.returns-then-ne
returns-then-ne c =
    sym (same_names-other (entry_names c.args.plan.now Switches) (names_of (lines_view c.args.lines.now))
    c.loop-number.number
    (place-other c.args.lines.now c.loop-number.number _ c.loop-number-test.true (entry_names c.args.plan.now Switches)
    c.switch_name.result.now (c.switch_name.ensures.name
    ∙ sym (switch_name_at c.args.plan.now c.loop-number.number
    (omega (arith, c.switch_count.ensures.count, c.if-lines-switch_count.false, c.loop-number-test.true))))
    (sym c.ne.ensures ∙ c.if-ne.true)))

pub loop-number-preserved : goal.loop-number-preserved
loop-number-preserved c = search (rules, below_more, place-same, switch_name_at)

pub returns : goal.returns
returns c = search (rules, length-names_of, same_names-all, length-names)
