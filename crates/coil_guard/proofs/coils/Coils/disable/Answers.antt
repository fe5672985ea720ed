use Rattle.std.proofs.{Common.{rules, ◌≡◌, ◌<◌, ◌≤◌, false, List, length, ap, arith}, lemmas.List.length-set}
use Rattle.coil_guard.{specs.{declared.state.CoilState.CoilState, CoilStep.is_held_by}, proofs.Releasing.still-none}
use Rattle.coil_guard.proofs.coils.Coils.disable.Goals as goal

pub invariant_of-self : goal.invariant_of-self
invariant_of-self c =
    let coils = c.self.inside.coils.items in
    let there : c.args.coil.0 < length coils =
    omega (arith, c.requires, ap (λ (s : List CoilState). length s) c.self.view_is) in
    let off : is_held_by c.self.inside.releasing c.disable_coil.result ≡ false = search rules in (
      omega (arith, c.self.invariant.0, length-set coils c.args.coil.0 c.disable_coil.result),
      omega (arith, c.self.invariant.1, length-set coils c.args.coil.0 c.disable_coil.result),
      still-none c.self.inside.releasing coils c.args.coil c.disable_coil.result there c.self.inside.from
          c.self.inside.from (omega arith) c.self.invariant.2 (λ within. off),
    )
