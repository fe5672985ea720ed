use Rattle.std.proofs.Common.{[], ◌∷◌, ◌++◌, codes, sym, append_assoc}
use Rattle.yaml_bytes.proofs.Writing.{last_piece}
use Rattle.live_machine.specs.Work.{work_text}
use Rattle.live_machine.proofs.work.write_refusal.Goals as goal

pub returns : goal.returns
returns g c =
    let why = codes "refused: the work bound is above 1000000 (--any-work lifts this)" in
    last_piece c.write_all.result _ _ _ (work_text c.args.bound) (why ++ 10 ∷ []) _
    (sym (append_assoc (work_text c.args.bound) why (10 ∷ []))) c.in_ok-write_work.ensures c.write_all.ensures.bytes
