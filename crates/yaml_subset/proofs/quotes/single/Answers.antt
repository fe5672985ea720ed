use Rattle.std.proofs.Common.{sym, ◌∙◌}
use Rattle.yaml_subset.proofs.QuotedTexts.{single_cut}
use Rattle.yaml_subset.proofs.quotes.single.Goals as goal

pub returns : goal.returns
returns c =
    single_cut c.args.number c.args.text.now c.split_at.result.0.now c.split_at.result.1.now c.single_len.result
    c.single_len.ensures.value c.split_at.ensures.front c.split_at.ensures.back c.in-len1-up.len_at_least
    (sym c.begins_single.ensures ∙ c.if-not-begins_single.true)
