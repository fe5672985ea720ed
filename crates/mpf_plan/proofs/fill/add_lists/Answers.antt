use Rattle.std.proofs.Common.{◌<◌, [], ◌∷◌, length, take, get_or, sym, subst, arith}
use Rattle.std.proofs.lemmas.List.{take_more, take_all}
use Rattle.mpf_plan.{specs.Drafting.AddsLists, proofs.{Acts.lists_none, Listed.lists_more}}
use Rattle.mpf_plan.proofs.fill.add_lists.Goals as goal

pub loop-number-init : goal.loop-number-init
loop-number-init c = lists_none c.args.draft.now c.args.row

pub loop-number-preserved : goal.loop-number-preserved
loop-number-preserved c =
    let l = c.loop-number in
    let a = c.args.draft.now in
    let lists = c.args.lists.now in
    let within : l.number < length lists = omega (arith, c.len-number-end.ensures) in
    subst (AddsLists a c.add_list.new.draft c.args.row) (sym (take_more lists l.number [] within))
    (lists_more a l.draft c.add_list.new.draft c.args.row (take l.number lists) (get_or lists l.number []) l.invariant
    (subst (λ es. AddsLists l.draft c.add_list.new.draft c.args.row (es ∷ [])) c.list.ensures c.in_ok-add_list.ensures))

pub returns : goal.returns
returns c =
    let l = c.loop-number in
    subst (AddsLists c.args.draft.now l.draft c.args.row)
    (take_all l.number c.args.lists.now (omega (arith, c.len-number-end.ensures))) l.invariant
