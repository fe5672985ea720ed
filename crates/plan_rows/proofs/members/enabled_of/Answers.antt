use Rattle.std.proofs.Common.{◌<◌, length, Bool, List, ℕ, set, ap, ◌∙◌, arith}
use Rattle.mpf_sections.specs.{Rows.WrittenName, View.name_view}
use Rattle.machine_definitions.specs.Shots.{shot_called}
use Rattle.plan_rows.{specs.Members.is_enabled_if, proofs.Flags.{first_flags, flag_more, flag_all}}
use Rattle.plan_rows.proofs.members.enabled_of.Goals as goal

pub loop-number-preserved : goal.loop-number-preserved
loop-number-preserved c =
    let l = c.loop-number in
    let rows = c.args.definitions.now in
    let shots = c.args.shots.now in
    let flag = λ (w : WrittenName). is_enabled_if (shot_called rows w.text) in
    let d = c.index-shots-number.result in
    let here = c.is_enabled_if.ensures ∙ ap is_enabled_if c.shot.ensures
    ∙ ap (λ (t : List ℕ). is_enabled_if (shot_called rows t)) c.deref.ensures in
    let within : l.number < 16 = omega arith in
    let some : l.number < length shots = omega arith in
    ap (λ (bs : List Bool). set bs l.number c.is_enabled_if.result) l.invariant
    ∙ ap (λ (b : Bool). set (first_flags flag name_view shots l.number) l.number b) here
    ∙ flag_more flag name_view shots l.number d within some

pub returns : goal.returns
returns c =
    c.loop-number.invariant
    ∙ flag_all (λ (w : WrittenName). is_enabled_if (shot_called c.args.definitions.now w.text)) name_view
    c.args.shots.now c.loop-number.number (omega arith)
