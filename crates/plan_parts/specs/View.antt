-- What the fields of names and effects hold.
use Rattle.std.specs.Prelude.{ℕ, ◌==◌, Bool, ◌&&◌, ◌++◌, List, length}
use Rattle.plan_parts.specs.{declared.names.NamePieces.NamePieces, Effects.{arrives, requests, adds_balls}}
use Rattle.plan_parts.specs.declared.effects.Deed as deeds
use Rattle.plan_parts.specs.declared.effects.Deed.TheVariants as deed
use Rattle.plan_parts.specs.declared.effects.Effect as effects
use Rattle.plan_parts.specs.declared.effects.Effect.TheVariants as effect
use Rattle.plan_parts.specs.Effects.{Deed, pulse, enable, disable, Effect, posts, works, changes, enters, leaves, loses}

-- the name: its pieces, one after the other
abbrev pub pieces_text : NamePieces → List ℕ
pieces_text p = p.shot.now ++ p.joint.now ++ p.stem.now ++ p.front.now ++ p.middle.now ++ p.end.now

-- whether all of its pieces but the last are empty
abbrev pub has_one_piece : NamePieces → Bool
has_one_piece p =
    (length p.shot.now == 0)
    && (length p.joint.now == 0)
    && (length p.stem.now == 0)
    && (length p.front.now == 0)
    && (length p.middle.now == 0)

abbrev pub deed_view : deeds.Deed → Deed
deed_view (deed.Pulse ms power) = pulse ms power
deed_view (deed.Enable power) = enable power
deed_view deed.Disable = disable

abbrev pub effect_view : effects.Effect → Effect
effect_view (effect.Post n) = posts (pieces_text n)
effect_view (effect.Coil n d) = works n.now (deed_view d)
effect_view (effect.Variable n action number) = changes n.now action number
effect_view (effect.Enter n drain) = enters (pieces_text n) drain
effect_view effect.Leave = leaves
effect_view effect.Lose = loses
effect_view effect.Arrive = arrives
effect_view (effect.Request n) = requests n
effect_view (effect.AddBalls n) = adds_balls n
