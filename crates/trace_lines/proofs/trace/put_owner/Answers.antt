use Rattle.std.{proofs.Common.{◌≡◌, ℕ, List, ◌+◌, ◌++◌, codes, take, ap, ◌∙◌, refl}, specs.Fmt.decimal}
use Rattle.plan_tables.specs.PlanView.{mode_at}
use Rattle.trace_lines.proofs.{Fronts.front-to-blank, Pages.puts-in-room}
use Rattle.trace_lines.proofs.trace.put_owner.Goals as goal
use Rattle.yaml_bytes.proofs.Writing.{last_piece}

pub returns-in_ok-make_room-in-Mode-clause-puts : goal.returns-in_ok-make_room-in-Mode-clause-puts
returns-in_ok-make_room-in-Mode-clause-puts g c =
    let digits = decimal c.args.front.now in
    let name = (mode_at c.args.plan.now c.in-Mode.mode).name in
    let text = c.text-in-Mode.result.now in
    let front : take (c.digits-in-Mode.result + 1) text ≡ digits ++ codes " " =
    ap (λ (n : ℕ). take (n + 1) text) c.digits-in-Mode.ensures.count ∙ front-to-blank digits text c.text-in-Mode.ensures
    in
    let begun = puts-in-room _ _ _ _ _ (digits ++ codes " ") c.in_ok-make_room-in-Mode.ensures.keeps
    (c.add_start-in-Mode.ensures ∙ ap (λ (l : List ℕ). c.make_room-in-Mode.new.self ++ l) front) in
    rw c.in-Mode.is
    (last_piece c.put_mode_name.result _ _ _ (digits ++ codes " ") name _ refl begun c.put_mode_name.ensures.puts)
