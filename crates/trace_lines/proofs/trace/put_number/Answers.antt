use Rattle.std.proofs.Common.{rules, ◌≡◌, ◌+◌, ◌-◌, ◌++◌, ◌∷◌, [], take, drop, ◌∙◌, arith, take-take}
use Rattle.std.{specs.Fmt.decimal, proofs.lemmas.Fmt.{decimal_digit, length-decimal-le}}
use Rattle.trace_lines.proofs.Fronts.{front-part}
use Rattle.trace_lines.proofs.trace.put_number.Goals as goal

pub returns-then-number-lt10 : goal.returns-then-number-lt10
returns-then-number-lt10 g c = rw (decimal_digit c.args.number c.if-number-lt10.true) c.put.ensures

pub write_digits-start-requires : goal.write_digits-start-requires
write_digits-start-requires g c = search (rules, length-decimal-le 20)

pub returns : goal.returns
returns g c =
    let start = c.write_digits-start.result in
    let room = c.write_digits-start.new.buf in
    let text : take (20 + 1 - start) (take (52 - start) (drop start room)) ≡ decimal c.args.number ++ c.args.end ∷ [] =
    take-take (20 + 1 - start) (52 - start) (drop start room) (omega arith)
    ∙ front-part room (decimal c.args.number) _ start 1 c.write_digits-start.ensures.written
    c.write_digits-start.ensures.start in
    rw text at c.put_start.ensures
