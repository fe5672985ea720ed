use Rattle.std.{proofs.{Common.{sym, ap, ◌∙◌, ◌==◌}, lemmas.Bool.eq-eqb}, specs.Int.w16}
use Rattle.std.proofs.lemmas.Nat.Bits.{bit_at_set_same, bit_at_set_other, bit_at_clear_same, bit_at_clear_other}
use Rattle.device_objects.proofs.FlagLemmas.{flags-set}
use Rattle.device_objects.proofs.flags.with_flag.Goals as goal

pub returns-then-on : goal.returns-then-on
returns-then-on c =
    flags-set c.args.mask _ c.args.i c.args.on c.requires
    (eq-eqb _ 1 (bit_at_set_same w16 c.args.mask c.args.i c.requires) ∙ sym c.if-on.true)
    (λ k below other. ap (λ b. b == 1) (bit_at_set_other w16 c.args.mask c.args.i c.requires k other))

pub returns-else-on : goal.returns-else-on
returns-else-on c =
    flags-set c.args.mask _ c.args.i c.args.on c.requires
    (ap (λ b. b == 1) (bit_at_clear_same w16 c.args.mask c.args.i c.requires) ∙ sym c.if-on.false)
    (λ k below other. ap (λ b. b == 1) (bit_at_clear_other w16 c.args.mask c.args.i c.requires k below other))
