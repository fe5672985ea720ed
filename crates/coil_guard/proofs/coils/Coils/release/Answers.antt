use Rattle.std.proofs.Common.{rules, ◌≡◌, ◌<◌, ◌+◌, ◌≤◌, false, Some, List, length, ap, sym, ◌∙◌, arith}
use Rattle.std.proofs.lemmas.List.{length-set}
use Rattle.coil_guard.specs.{declared.state.CoilState.CoilState, CoilStep.is_held_by, Coils.next_held}
use Rattle.coil_guard.proofs.Releasing.{none-after}
use Rattle.coil_guard.proofs.coils.Coils.release.Goals as goal

pub invariant_of-self : goal.invariant_of-self
invariant_of-self c =
    let coils = c.self.inside.coils.items in
    let coil = c.in_ok-coil.coil in
    let there : coil.0 < length coils = omega
    (arith, c.in_ok-coil.ensures.within, ap (λ (s : List CoilState). length s) c.self.view_is) in
    let next : Some coil ≡ next_held c.args.owner coils = c.in_ok-coil.ensures.next
    ∙ ap (next_held c.args.owner) (sym c.self.view_is) in
    let off : is_held_by c.args.owner c.disable_coil.result ≡ false = search rules in (
      omega (arith, c.self.invariant.0, length-set coils coil.0 c.disable_coil.result),
      omega (arith, there, length-set coils coil.0 c.disable_coil.result),
      none-after c.args.owner coils coil c.disable_coil.result there next off,
    )
