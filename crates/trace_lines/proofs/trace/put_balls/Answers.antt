use Rattle.std.{proofs.{Common.{[], ◌∷◌, ◌++◌, ◌∙◌, codes}, KnownBytes.Appends-trans}, specs.Fmt.decimal}
use Rattle.trace_lines.proofs.Fronts.{four-counts}
use Rattle.trace_lines.proofs.trace.put_balls.Goals as goal
use Rattle.yaml_bytes.proofs.Writing.{last_piece}

pub returns : goal.returns
returns g c =
    let known = decimal c.from.result in
    let counted = decimal c.from-2.result in
    let transit = decimal c.from-3.result in
    let playfield = decimal c.from-4.result in
    let two = Appends-trans _ _ _ (known ++ codes " ") (counted ++ codes " ") c.in_ok-put_number.ensures
    c.in_ok-put_number-2.ensures in
    let three = Appends-trans _ _ _ ((known ++ codes " ") ++ (counted ++ codes " ")) (transit ++ codes " ") two
    c.in_ok-put_number-3.ensures in
    last_piece c.put_number-4.result _ _ _ (((known ++ codes " ") ++ (counted ++ codes " ")) ++ (transit ++ codes " "))
    (playfield ++ 10 ∷ []) _
    (four-counts known counted transit playfield ∙ (λ i.
    decimal (c.from.ensures i) ++ codes " " ++ decimal (c.from-2.ensures i) ++ codes " " ++ decimal (c.from-3.ensures i)
    ++ codes " " ++ decimal (c.from-4.ensures i) ++ 10 ∷ []))
    three c.put_number-4.ensures
