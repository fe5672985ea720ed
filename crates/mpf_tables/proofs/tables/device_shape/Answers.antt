use Rattle.std.{proofs.Common.{◌≡◌, Bool, true, false, if◌then◌else◌, Option, Some, refl, sym, ◌∙◌}, specs.Str.bytes_eq}
use Rattle.mpf_tables.specs.SectionTables.{flippers_name, autofire_coils_name, ball_devices_name}
use Rattle.mpf_tables.proofs.tables.device_shape.Goals as goal

-- the third of three, if neither of the others is meant
third : {A : Type 0} (x y z : A) (rest : Option A) (a b d : Bool) → a ≡ false → b ≡ false → d ≡ true
    → Some z ≡ (if a then Some x else (if b then Some y else (if d then Some z else rest)))
third x y z rest false false true e f g = refl
third x y z rest true b d e f g = absurd cc
third x y z rest false true d e f g = absurd cc
third x y z rest false false false e f g = absurd cc

pub returns-then-eq-3 : goal.returns-then-eq-3
returns-then-eq-3 c =
    let section = c.args.section.now in
    let first : bytes_eq section flippers_name ≡ false = sym c.eq.ensures ∙ c.if-eq.false in
    let second : bytes_eq section autofire_coils_name ≡ false = sym c.eq-2.ensures ∙ c.if-eq-2.false in
    let is : bytes_eq section ball_devices_name ≡ true = sym c.eq-3.ensures ∙ c.if-eq-3.true in
    third _ _ _ _ (bytes_eq section flippers_name) (bytes_eq section autofire_coils_name)
    (bytes_eq section ball_devices_name) first second is
