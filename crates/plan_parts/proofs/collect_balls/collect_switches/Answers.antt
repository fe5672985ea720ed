use Rattle.std.proofs.{Common.{◌+◌, [], ◌∷◌, ◌++◌, map, drop, sym, ap, ◌∙◌}, lemmas.List.{append_assoc, at_drop_more}}
use Rattle.setting_values.specs.declared.values.Name.{Name}
use Rattle.mpf_sections.specs.View.{name_view}
use Rattle.plan_parts.{specs.{Devices.texts, RowViews.bytes_view}, proofs.Views.bytes_view-push}
use Rattle.plan_parts.proofs.collect_balls.collect_switches.Goals as goal

pub loop-switch-preserved : goal.loop-switch-preserved
loop-switch-preserved c =
    let l = c.loop-switch in
    let switches = c.args.switches.now in
    let before = bytes_view l.listens.items in
    let later = texts (map name_view (drop (l.switch-index + 1) switches)) in
    let here = c.as_slice.ensures ∙ ap (λ (n : Name). n.text.items) c.switch-item.is in
    ap (λ xs. bytes_view xs ++ later) c.in_ok-add.ensures.items
    ∙ ap (λ xs. xs ++ later) (bytes_view-push l.listens.items c.as_slice.result ∙ ap (λ n. before ++ n ∷ []) here)
    ∙ append_assoc before (_ ∷ []) later
    ∙ ap (λ xs. before ++ xs) (sym (at_drop_more (λ xs. texts (map name_view xs)) switches l.switch-index
    c.switch-item.result c.loop-switch-test.true))
    ∙ l.invariant
