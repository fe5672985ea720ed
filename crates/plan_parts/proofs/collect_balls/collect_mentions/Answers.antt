use Rattle.std.proofs.Common.{Bool, [], ◌∷◌, ◌++◌, codes, sym, ap, ◌∙◌}
use Rattle.std.proofs.lemmas.{List.append_assoc, Result.on_ok_weaker}
use Rattle.plan_parts.specs.{RowViews.names_view, BallEntries.{ball_event, entry_mentions}}
use Rattle.plan_parts.proofs.Views.{names_view-push}
use Rattle.plan_parts.proofs.collect_balls.collect_mentions.Goals as goal

pub returns-then-drain : goal.returns-then-drain
returns-then-drain c =
    let name = c.args.name.now in
    let other_mentions = c.args.other_mentions.now.items in
    let old = names_view other_mentions in
    let entered = ball_event name (codes "_ball_enter") in
    let one = ap names_view c.in_ok-add.ensures.items ∙ names_view-push other_mentions c.ball_event.result
    ∙ ap (λ n. old ++ n ∷ []) c.ball_event.ensures in
    on_ok_weaker c.add-then-drain.result
    (λ added. ap names_view added
    ∙ names_view-push c.add.new.items.items c.whole.result
    ∙ (λ i. one i ++ c.whole.ensures i ∷ [])
    ∙ append_assoc old (entered ∷ []) (codes "ball_drain" ∷ [])
    ∙ ap (λ (d : Bool). old ++ entry_mentions name d) (sym c.if-drain.true))
    c.add-then-drain.ensures.items

pub returns : goal.returns
returns c =
    let other_mentions = c.args.other_mentions.now.items in
    let old = names_view other_mentions in
    ap names_view c.in_ok-add.ensures.items
    ∙ names_view-push other_mentions c.ball_event.result
    ∙ ap (λ n. old ++ n ∷ []) c.ball_event.ensures
    ∙ ap (λ (d : Bool). old ++ entry_mentions c.args.name.now d) (sym c.if-drain.false)
