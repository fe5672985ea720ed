use Rattle.std.{proofs.Common.{sym, ◌∙◌, rules, tests}, specs.Str.bytes_eq}
use Rattle.std.proofs.lemmas.Iterator.{YieldsList-from_slice, Search.any_from_yields_List}
use Rattle.setting_values.specs.{declared.values.Name.Name, View.name_view}
use Rattle.mpf_sections.proofs.balls.BallDeviceEntry.is_tagged.Goals as goal
use Rattle.yaml_bytes.proofs.Each.{any_mapped}

pub returns : goal.returns
returns c =
    let tags = c.args.self.now.tags.now in
    let tag = c.args.tag.now in
    any_from_yields_List (λ (n : Name). bytes_eq n.text.items tag) _ _ c.any.result c.any.ensures.ran
    (YieldsList-from_slice tags cc) (λ x b q k. search (rules, tests))
    ∙ sym (any_mapped (λ w. bytes_eq w.text tag) name_view tags)
