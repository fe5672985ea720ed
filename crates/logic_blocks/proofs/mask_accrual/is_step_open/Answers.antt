use Rattle.std.proofs.Common.{◌≡◌, Bool, true, false, nat_lt, ◌&&◌, slice_get, inl, inr, refl, sym, ap, ◌∙◌, arith}
use Rattle.std.proofs.lemmas.{Bool.le-ltb, Grind.common_steps}
use Rattle.device_objects.{specs.{Accrual.is_open, Flags.flags}, proofs.FlagLemmas.{flags-get, flags-past}}
use Rattle.logic_blocks.proofs.mask_accrual.is_step_open.Goals as goal

never : (b : Bool) → false ≡ (b && false)
never true = refl
never false = refl

pub returns-then-i-lt16-clause-open : goal.returns-then-i-lt16-clause-open
returns-then-i-lt16-clause-open c = grind (arith, common_steps, flags-get c.args.done c.args.i c.if-i-lt16.true.1)

pub returns-else-i-lt16-clause-open : goal.returns-else-i-lt16-clause-open
returns-else-i-lt16-clause-open c =
    let rest = is_open (slice_get (flags c.args.done) c.args.i) in
    elim c.if-i-lt16.either [
      | inl past ↦
          let shut : false ≡ (nat_lt c.args.i c.args.settings.now.steps && rest) =
          never (nat_lt c.args.i c.args.settings.now.steps)
          ∙ sym (ap (λ o. nat_lt c.args.i c.args.settings.now.steps && is_open o)
          (flags-past c.args.done c.args.i past.1)) in
          first_of (cc, grind (arith, common_steps, shut))
      | inr beyond ↦
          let shut : false ≡ (nat_lt c.args.i c.args.settings.now.steps && rest) =
          sym (ap (λ b. b && rest) (le-ltb c.args.i c.args.settings.now.steps beyond)) in
          first_of (cc, grind (arith, common_steps, shut))
    ]
