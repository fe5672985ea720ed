-- From what reading a text gives to what its value is.
use Rattle.std.proofs.Common.{◌≡◌, Option, Some, Result, Ok, Err, IfOk, IfErr, sym, ◌∙◌}
use Rattle.std.proofs.lemmas.Option.{same_Some, none-some}
use Rattle.mpf_values.specs.{declared.fault.BadValue.BadValue, View.Gives}

-- reading gives just the values of a text
pub record Computes {V : Type 0} (read : Option V) (IsValue : V → Type 0) : Type 0 where
  pub sound : (v : V) → read ≡ Some v → IsValue v
  pub complete : (v : V) → IsValue v → read ≡ Some v

pub is_found : {X V : Type 0} (view : X → V) (IsValue : V → Type 0) (read : Option V) → Computes read IsValue
    → (r : Result X BadValue) → Gives view r read → IfOk r (λ x. IsValue (view x))
is_found view IsValue read h (Ok x) g = h.sound (view x) g
is_found view IsValue read h (Err e) g = tt

pub is_only : {X V : Type 0} (view : X → V) (IsValue : V → Type 0) (read : Option V) → Computes read IsValue
    → (r : Result X BadValue) → Gives view r read → IfOk r (λ x. (v : V) → IsValue v → v ≡ view x)
is_only view IsValue read h (Ok x) g = λ v k. same_Some v (view x) (sym (h.complete v k) ∙ g)
is_only view IsValue read h (Err e) g = tt

pub is_refused : {X V : Type 0} (view : X → V) (IsValue : V → Type 0) (read : Option V) → Computes read IsValue
    → (r : Result X BadValue) → Gives view r read → IfErr r (λ _. (v : V) → IsValue v → ⊥)
is_refused view IsValue read h (Ok x) g = tt
is_refused view IsValue read h (Err e) g = λ v k. none-some v (sym g ∙ h.complete v k)
