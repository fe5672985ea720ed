use Rattle.std.proofs.{Common.{sym, ◌∙◌}, lemmas.Iterator.Adapters.option_map_id}
use Rattle.machine_definitions.proofs.Finding.{value-found}
use Rattle.plan_rows.proofs.seats.Seats.row.Goals as goal

pub returns : goal.returns
returns c =
    c.copied.ensures ∙ c.get.ensures.value ∙ sym (option_map_id _)
    ∙ value-found (λ n. n) c.args.self.now.devices c.args.name.now
    ∙ option_map_id _
