-- Ball switches at which nothing is due any more, one after the other.
use Rattle.std.proofs.Common.{◌≡◌, ℕ, ◌+◌, ◌<◌, List, [], ◌∷◌, ◌++◌, length, map, take, drop, get_or, slice_set, ap}
use Rattle.std.proofs.{Common.{ap₂, sym, ◌∙◌, arith}, lemmas.Grind.drop_more_same}
use Rattle.std.proofs.lemmas.List.{length-drop, get_or-drop, drop-set-lt, map_more, take_more_set}
use Rattle.device_objects.specs.{declared.state.BallSwitch.BallSwitch, BallDevice.not_due}

-- so many are not due, and those that are left are as they were
pub record IsCalmBelow (old new : List BallSwitch) (i : ℕ) : Type 0 where
  pub before : take i new ≡ map not_due (take i old)
  pub left : drop i new ≡ drop i old

module _ (old new : List BallSwitch) (i : ℕ) (b : BallSwitch) (within : i < length new)
    (is : IsCalmBelow old new i) where
  within-old : i < length old
  within-old = omega (arith, length-drop i new, length-drop i old, ap length is.left)

  same-here : get_or new i b ≡ get_or old i b
  same-here =
      ap (λ k. get_or new k b) (omega arith) ∙ sym (get_or-drop i new 0 b)
      ∙ ap (λ bs. get_or bs 0 b) is.left
      ∙ get_or-drop i old 0 b ∙ ap (λ k. get_or old k b) (omega arith)

  pub calm-more : IsCalmBelow old (slice_set new i (not_due (get_or new i b))) (i + 1)
  calm-more = record {
    before =
        take_more_set new i (not_due (get_or new i b)) within
        ∙ ap₂ (λ bs c. bs ++ not_due c ∷ []) is.before same-here
        ∙ sym (map_more not_due old i b within-old);
    left = drop-set-lt (i + 1) new i (not_due (get_or new i b)) (omega arith) ∙ drop_more_same new old i is.left;
  }
