use Rattle.std.{proofs.Common.{ap, ◌∙◌}, specs.Prelude.is_some}
use Rattle.mpf_sections.specs.{Rows.WrittenName, View.shot_view}
use Rattle.machine_definitions.specs.Shots.{shot_called}
use Rattle.plan_rows.proofs.Known.{known, missing, all_next, not_all}
use Rattle.plan_rows.proofs.members.are_known.Goals as goal

pub loop-shot-preserved : goal.loop-shot-preserved
loop-shot-preserved c =
    let l = c.loop-shot in
    let rows = c.args.definitions.now in
    let there = known shot_view c.shot.result _ (c.shot.ensures ∙ ap (shot_called rows) c.deref.ensures)
    c.is_none.result c.is_none.ensures c.if-is_none.false in
    all_next (λ (w : WrittenName). is_some (shot_called rows w.text)) c.args.shots.now l.shot-index c.shot-item.result
    c.loop-shot-test.true c.shot-item.is there ∙ l.invariant

pub returns-then-is_none : goal.returns-then-is_none
returns-then-is_none c =
    let l = c.loop-shot in
    let rows = c.args.definitions.now in
    let gone = missing shot_view c.shot.result _ (c.shot.ensures ∙ ap (shot_called rows) c.deref.ensures)
    c.is_none.result c.is_none.ensures c.if-is_none.true in
    not_all (λ (w : WrittenName). is_some (shot_called rows w.text)) c.args.shots.now l.shot-index c.shot-item.result
    c.loop-shot-test.true c.shot-item.is gone ∙ l.invariant
