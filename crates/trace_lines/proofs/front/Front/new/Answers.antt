use Rattle.std.proofs.Common.{rules, ◌≡◌, ◌+◌, ◌-◌, ℕ, length, take, drop, ap, ◌∙◌, arith, take-take}
use Rattle.std.{proofs.lemmas.Fmt.length-decimal-le, specs.Fmt.decimal}
use Rattle.trace_lines.proofs.Fronts.{front-part}
use Rattle.trace_lines.proofs.front.Front.new.Goals as goal

pub write_digits-start-requires : goal.write_digits-start-requires
write_digits-start-requires c = search (rules, length-decimal-le 20)

-- of the room from the digits on, the digits and ` machine` are copied
pub invariant_of-result : goal.invariant_of-result
invariant_of-result c =
    let start = c.write_digits-start.result in
    let room = c.write_digits-start.new.buf in
    let at : start + length (decimal c.args.moment) ≡ 20 = c.write_digits-start.ensures.start in
    let count : 20 - start + 8 ≡ 20 + 8 - start = omega (arith, at) in
    let copied : take (20 - start + 8) c.copy_from_slice.new.self ≡ take (20 + 8 - start) (drop start room) =
    ap (take (20 - start + 8)) c.copy_from_slice.ensures.after
    ∙ take-take (20 - start + 8) (start + 32 - start) (drop start room) (omega (arith, at))
    ∙ ap (λ (n : ℕ). take n (drop start room)) count in (
      omega (arith, at),
      omega arith,
      copied
          ∙ front-part room (decimal c.args.moment) _ start 8 c.write_digits-start.ensures.written at,
    )
