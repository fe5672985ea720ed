use Rattle.std.{proofs.Common.{sym, ◌∙◌, rules, tests}, specs.Str.bytes_eq}
use Rattle.std.proofs.lemmas.{Iterator.{YieldsList-from_slice, Search.all_from_yields_List}, List.Folds.list_all-map}
use Rattle.setting_values.specs.{declared.values.Handler.Handler, View.handler_view}
use Rattle.mpf_sections.specs.Typed.{ball_ending}
use Rattle.mpf_sections.proofs.typed.are_ball_ending.Goals as goal

pub returns : goal.returns
returns c =
    let starts = c.args.starts.now in
    all_from_yields_List (λ (h : Handler). bytes_eq h.name.items ball_ending) _ _ c.all.result c.all.ensures.ran
    (YieldsList-from_slice starts cc) (λ x b q k. search (rules, tests))
    ∙ sym (list_all-map (λ h. bytes_eq h.event.name ball_ending) handler_view starts)
