use Rattle.std.proofs.Common.{◌≡◌, [], ◌∷◌, refl, sym, ◌∙◌}
use Rattle.machine_core.proofs.Settling.{follow-none, took-room, written-handles, written-room, written-calls}
use Rattle.machine_core.proofs.{Settling.next-steps, Stepping.taken-calls}
use Rattle.machine_core.proofs.parts.advance.Goals as goal

pub write-requires : goal.write-requires
write-requires g c =
    let (rest, waits, took_is) = c.in-Some.ensures in
    took-room c.args.core.now c.args.core.now c.requires.room 0 (follow-none c.args.core.now c.requires.handlers)
    c.in-Some.first rest waits c.take.new.self _ took_is refl

pub take_step-requires-clause-handlers : goal.take_step-requires-clause-handlers
take_step-requires-clause-handlers g c =
    let (rest, waits, took_is) = c.in-Some.ensures in
    written-handles c.args.core.now c.args.core.now c.requires.room 0 (follow-none c.args.core.now c.requires.handlers)
    c.in-Some.first rest waits c.take.new.self c.write.new.self took_is c.write.ensures

pub take_step-requires-clause-calls : goal.take_step-requires-clause-calls
take_step-requires-clause-calls g c =
    let (rest, waits, took_is) = c.in-Some.ensures in
    written-calls c.args.core.now c.take.new.self c.write.new.self _ _ took_is c.write.ensures c.requires.calls

pub take_step-requires-clause-room : goal.take_step-requires-clause-room
take_step-requires-clause-room g c =
    let (rest, waits, took_is) = c.in-Some.ensures in
    written-room c.args.core.now c.args.core.now c.requires.room 0 (follow-none c.args.core.now c.requires.handlers)
    c.in-Some.first rest waits c.take.new.self c.write.new.self took_is c.write.ensures

pub returns-in-Some-clause-advances : goal.returns-in-Some-clause-advances
returns-in-Some-clause-advances g c =
    let (rest, waits, took_is) = c.in-Some.ensures in (
      (λ none. let no : [] ≡ c.in-Some.first ∷ rest = sym none ∙ waits in cc),
      next-steps c.args.core.now c.args.core.now c.requires.room 0 (follow-none c.args.core.now c.requires.handlers)
          c.in-Some.first rest waits c.take.new.self c.write.new.self took_is c.write.ensures c.take_step.new.core
          c.take_step.ensures,
    )

pub returns-in-Some-clause-calls : goal.returns-in-Some-clause-calls
returns-in-Some-clause-calls g c =
    let (rest, waits, took_is) = c.in-Some.ensures in
    taken-calls c.in-Some.first.event c.write.new.self c.take_step.new.core c.take_step.ensures
    (written-calls c.args.core.now c.take.new.self c.write.new.self _ _ took_is c.write.ensures c.requires.calls)
