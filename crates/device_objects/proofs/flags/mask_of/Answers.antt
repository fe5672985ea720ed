use Rattle.std.proofs.Common.{false, sym, ap, ◌∙◌, inl, inr, get_or, set, arith}
use Rattle.std.proofs.lemmas.{Bool.cases_eq, List.{ext_get_or, get_or-set_same, get_or-set_other}}
use Rattle.device_objects.{specs.Flags.flags, proofs.FlagLemmas.flags-length}
use Rattle.device_objects.proofs.flags.mask_of.Goals as goal

pub loop-i-preserved : goal.loop-i-preserved
loop-i-preserved c = λ k below.
    let long = flags-length c.loop-i.mask in
    let on = get_or c.args.all.now c.loop-i.i false in
    ap (λ fs. get_or fs k false) c.with_flag-mask.ensures
    ∙ elim (cases_eq k c.loop-i.i) [
      | inl same ↦
          ap (λ n. get_or (set (flags c.loop-i.mask) c.loop-i.i on) n false) same
          ∙ get_or-set_same (flags c.loop-i.mask) c.loop-i.i on false (omega (arith, long, c.loop-i-test.true))
          ∙ ap (λ n. get_or c.args.all.now n false) (sym same)
      | inr other ↦
          get_or-set_other (flags c.loop-i.mask) c.loop-i.i k on false other
          ∙ c.loop-i.invariant k (omega (arith, below, other))
    ]

pub returns : goal.returns
returns c =
    let long = flags-length c.loop-i.mask in
    ext_get_or false (flags c.loop-i.mask) c.args.all.now (long ∙ sym c.told-all)
    (λ k within. c.loop-i.invariant k (omega (arith, within, long)))
