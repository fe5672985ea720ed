use Rattle.std.proofs.{Common.{◌≡◌, ◌+◌, ◌-◌, ◌/◌, suc, map, get_or, ap, ◌∙◌, arith}, lemmas.Result.IfOk-weaker}
use Rattle.row_faults.{specs.Numbers.after, proofs.Numbers.{twice-is, once-more}}
use Rattle.row_faults.proofs.targets.+ends_of.Goals as goal

pub returns-then-times-eq1 : goal.returns-then-times-eq1
returns-then-times-eq1 t c =
    let targets = c.args.targets.now in
    let h = (c.args.times - 1) / 2 in
    let half = c.in_ok-half.half.items in
    let same : suc (h + h) ≡ c.args.times = omega arith in
    let twice : c.in_ok-twice.twice.items ≡ map (λ n. get_or half n n) half = c.in_ok-twice.ensures
    ∙ (λ i. map (λ n. get_or (c.deref-2.ensures.value i) n n) (c.deref.ensures.value i)) in
    twice-is targets h half c.in_ok-twice.twice.items c.in_ok-half.ensures twice
    ∙ ap (λ k. map (after targets k) targets) same

pub returns : goal.returns
returns t c =
    let targets = c.args.targets.now in
    let h = (c.args.times - 1) / 2 in
    let half = c.in_ok-half.half.items in
    let all = c.in_ok-twice.twice.items in
    let same : suc (suc (h + h)) ≡ c.args.times = omega arith in
    let twice : all ≡ map (λ n. get_or half n n) half = c.in_ok-twice.ensures
    ∙ (λ i. map (λ n. get_or (c.deref-2.ensures.value i) n n) (c.deref.ensures.value i)) in
    let most = twice-is targets h half all c.in_ok-half.ensures twice in
    IfOk-weaker c.one_after_other-else-times-eq1.result _ _
    (λ ends e. once-more targets (suc (h + h)) all ends.items most
    (e ∙ ap (map (λ n. get_or targets n n)) c.deref-else-times-eq1.ensures.value)
    ∙ ap (λ k. map (after targets k) targets) same)
    c.one_after_other-else-times-eq1.ensures
