use Rattle.std.proofs.Common.{◌≡◌, ◌+◌, ◌-◌, ◌<◌, List, length, take, drop, ap, subst, arith}
use Rattle.std.proofs.lemmas.{Option.slice_get_within, List.{take_all, length-drop}}
use Rattle.written_machine.specs.declared.line.Line.{Line}
use Rattle.coil_driver.specs.Driver.{HasSent, HasStopped}
use Rattle.pin_rig.proofs.Cascading.{all-sent, rest-stopped}
use Rattle.pin_rig.proofs.cascade.serve_rest.Goals as goal

pub returns-in-Some-clause-serves : goal.returns-in-Some-clause-serves
returns-in-Some-clause-serves g c start first =
    let lines = c.args.lines.now in
    let from = c.args.from in
    let rest : take (length lines - from) (drop from lines) ≡ drop from lines =
    take_all (length lines - from) (drop from lines) (omega (arith, length-drop from lines)) in
    let stopped = subst (λ (xs : List Line). HasStopped xs c.in-Some.place c.args.driver.now c.serve.new.self) rest
    c.in-Some.ensures.serves in
    let within : c.in-Some.place < length (drop from lines) =
    slice_get_within (drop from lines) c.in-Some.place stopped.line stopped.there in
    let place : from + c.in-Some.place ≡ length lines
    - (length (take (length lines - from) (drop from lines)) - c.in-Some.place) =
    omega (arith, within, ap (λ (xs : List Line). length xs) rest, length-drop from lines, c.requires.from) in
    subst (λ k. HasStopped lines k start c.serve.new.self) place
    (rest-stopped lines from start c.args.driver.now c.serve.new.self first c.in-Some.place stopped)

pub returns-in-None-clause-serves : goal.returns-in-None-clause-serves
returns-in-None-clause-serves g c start first =
    let lines = c.args.lines.now in
    let from = c.args.from in
    let rest : take (length lines - from) (drop from lines) ≡ drop from lines =
    take_all (length lines - from) (drop from lines) (omega (arith, length-drop from lines)) in
    all-sent lines from start c.args.driver.now c.serve.new.self first
    (subst (λ (xs : List Line). HasSent xs c.args.driver.now c.serve.new.self) rest c.in-None.ensures.serves)
