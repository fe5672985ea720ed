use Rattle.std.proofs.{Common.{rules, ◌≡◌, ◌<◌, ◌≤◌, List, length, ap, arith}, lemmas.List.length-set}
use Rattle.coil_guard.{specs.declared.state.CoilState.CoilState, proofs.Releasing.still-none}
use Rattle.coil_guard.proofs.coils.Coils.enable.Goals as goal

pub invariant_of-self : goal.invariant_of-self
invariant_of-self c =
    let coils = c.self.inside.coils.items in
    let from = c.min-self-inside.result in
    let there : c.args.coil.0 < length coils =
    omega (arith, c.requires, ap (λ (s : List CoilState). length s) c.self.view_is) in
    let lower : from ≤ c.self.inside.from = search rules in
    let before : from ≤ c.args.coil.0 = search rules in (
      omega (arith, c.self.invariant.0, length-set coils c.args.coil.0 c.enabled.result),
      omega (arith, c.self.invariant.1, length-set coils c.args.coil.0 c.enabled.result, lower),
      still-none c.self.inside.releasing coils c.args.coil c.enabled.result there c.self.inside.from from lower
          c.self.invariant.2 (λ within. absurd (omega (arith, before, within))),
    )
