use Rattle.std.proofs.Common.{refl}
use Rattle.mpf_plan.proofs.Blank.{blank_draft}
use Rattle.mpf_plan.proofs.draft.blank.Goals as goal

pub returns : goal.returns
returns c =
    blank_draft _ c.in_ok-names.ensures c.new.ensures.items c.new-2.ensures.items c.new-3.ensures.items
    c.new-4.ensures.items c.new-5.ensures.items c.new-6.ensures.items
    c.new-7.ensures.items refl
