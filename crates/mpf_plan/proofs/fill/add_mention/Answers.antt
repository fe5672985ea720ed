use Rattle.std.{proofs.Common.{Bor, List, ℕ, sym, subst, refl}, specs.Prelude.Option}
use Rattle.plan_tables.specs.declared.table.Table.TheVariants.{Switches}
use Rattle.plan_parts.specs.Parts.{mention, where_some}
use Rattle.mpf_plan.{specs.{declared.draft.Draft.Draft, Drafting.Adds}, proofs.Entered.adds_mention}
use Rattle.mpf_plan.proofs.fill.add_mention.Goals as goal

pub returns : goal.returns
returns c =
    let a = c.args.draft.now in
    let b : Draft = record a { names = c.note_switch.new.names; switches = c.note_switch.new.switches } in
    subst (λ (s : Option (Bor (List ℕ))). Adds a b (where_some (λ n. mention Switches n.now) s)) (sym c.in-Some.is)
    (adds_mention a b c.in-Some.name.now c.in_ok-note_switch.ensures.names refl
    (record { modes = refl; game = refl; lists = refl; bindings = refl; rows = refl; row_lists = refl }))
