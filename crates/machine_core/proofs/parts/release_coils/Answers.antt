use Rattle.std.proofs.Common.{rules, refl}
use Rattle.machine_core.proofs.Releasing.{releasing-end, releasing-next, releasing-room, releasing-smaller}
use Rattle.machine_core.proofs.parts.release_coils.Goals as goal

pub loop-command-init : goal.loop-command-init
loop-command-init g c = record { left = refl; all = c.requires.coils }

pub write-requires : goal.write-requires
write-requires g c =
    releasing-room c.args.core.now.plan c.args.owner c.args.core.now c.loop-command.core c.loop-command.invariant
    c.in-Some.command c.in-Some.ensures.command
    c.release.new.self c.in-Some.ensures.state _ refl c.requires.room

pub loop-command-smaller : goal.loop-command-smaller
loop-command-smaller g c = search (rules, releasing-smaller)

pub loop-command-preserved : goal.loop-command-preserved
loop-command-preserved g c = search (rules, releasing-next)

pub returns : goal.returns
returns g c = search (rules, releasing-end)
