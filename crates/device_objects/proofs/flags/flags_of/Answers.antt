use Rattle.std.proofs.Common.{◌≡◌, false, sym, ap, ◌∙◌, inl, inr, get_or, set, length, arith}
use Rattle.std.proofs.lemmas.{Bool.cases_eq, List.{length-set, get_or-set_same, get_or-set_other}}
use Rattle.device_objects.{specs.Flags.is_set, proofs.FlagLemmas.flags-are}
use Rattle.device_objects.proofs.flags.flags_of.Goals as goal

pub loop-i-preserved : goal.loop-i-preserved
loop-i-preserved c =
    let long : length c.loop-i.all ≡ 16 = c.loop-i.invariant.0 in (
      length-set c.loop-i.all c.loop-i.i c.is_set.result ∙ long,
      λ k below. elim (cases_eq k c.loop-i.i) [
        | inl same ↦
            ap (is_set c.args.mask) same ∙ sym c.is_set.ensures
            ∙ sym (ap (λ n. get_or (set c.loop-i.all c.loop-i.i c.is_set.result) n false) same
            ∙ get_or-set_same c.loop-i.all c.loop-i.i c.is_set.result false (omega (arith, long, c.loop-i-test.true)))
        | inr other ↦
            c.loop-i.invariant.1 k (omega (arith, below, other))
            ∙ sym (get_or-set_other c.loop-i.all c.loop-i.i k c.is_set.result false other)
      ],
    )

pub returns : goal.returns
returns c =
    sym (flags-are c.args.mask c.loop-i.all c.loop-i.invariant.0
    (λ k below. c.loop-i.invariant.1 k (omega (arith, below))))
