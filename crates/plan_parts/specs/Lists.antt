-- Effect lists, one after the other, in one buffer.
use Rattle.std.specs.Prelude.{ℕ, ◌-◌, Bool, ◌&&◌, nat_le, nat_eq, List, [], ◌∷◌, ◌++◌, map, take, drop}
use Rattle.plan_parts.specs.{declared.effects.EffectLists.TheInside.Inside, Effects.Effect, View.effect_view}

-- whether these are the ends of lists that begin here, in a buffer of this length: they rise, and the last is its end
abbrev pub are_ends : (begin : ℕ) → List ℕ → (len : ℕ) → Bool
are_ends begin [] len = nat_eq begin len
are_ends begin (end ∷ ends) len = nat_le begin end && are_ends end ends len

-- the lists that have these ends, of which the first begins here
abbrev pub lists_from : {X : Type 0} → (begin : ℕ) → List ℕ → List X → List (List X)
lists_from begin [] xs = []
lists_from begin (end ∷ ends) xs = take (end - begin) (drop begin xs) ∷ lists_from end ends xs

abbrev pub lists_view : Inside → List (List Effect)
lists_view l = map (map effect_view) (lists_from 0 l.ends.items l.effects.items)

-- the last list, with these effects added; if there is no list, they are lost
abbrev pub with_last : List Effect → List (List Effect) → List (List Effect)
with_last more [] = []
with_last more (es ∷ []) = (es ++ more) ∷ []
with_last more (es ∷ rest) = es ∷ with_last more rest
