use Rattle.std.{proofs.Common.{sym, ◌∙◌, rules, tests}, specs.Str.bytes_eq}
use Rattle.std.proofs.lemmas.Iterator.{YieldsList-from_slice, Search.any_from_yields_List}
use Rattle.mpf_config.specs.{declared.texts.NamedText.NamedText, CodeViews.text_view}
use Rattle.mpf_config.proofs.unread.has_text.Goals as goal
use Rattle.yaml_bytes.proofs.Each.{any_mapped}

pub returns : goal.returns
returns c =
    let texts = c.args.texts.now in
    let name = c.args.name.now in
    any_from_yields_List (λ (t : NamedText). bytes_eq t.name.now name) _ _ c.any.result c.any.ensures.ran
    (YieldsList-from_slice texts cc) (λ x b q k. search (rules, tests))
    ∙ sym (any_mapped (λ t. bytes_eq t.name name) text_view texts)
