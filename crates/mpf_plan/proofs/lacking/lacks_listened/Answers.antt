use Rattle.std.proofs.Common.{Bor, List, ℕ, sym, ◌∙◌, rules, tests}
use Rattle.std.proofs.lemmas.Iterator.{YieldsList-from_slice, Search.any_from_yields_List}
use Rattle.plan_tables.specs.declared.table.Table.TheVariants.{Switches}
use Rattle.mpf_plan.specs.Lacking.{lacks}
use Rattle.mpf_plan.proofs.lacking.lacks_listened.Goals as goal
use Rattle.yaml_bytes.proofs.Each.{any_mapped}

pub returns : goal.returns
returns c =
    let names = c.args.switches.now in
    let machine = c.args.definitions.now.machine in
    any_from_yields_List (λ (n : Bor (List ℕ)). lacks machine Switches n.now) _ _ c.any.result c.any.ensures.ran
    (YieldsList-from_slice names cc) (λ x b q k. search (rules, tests))
    ∙ sym (any_mapped (lacks machine Switches) (λ (n : Bor (List ℕ)). n.now) names)
