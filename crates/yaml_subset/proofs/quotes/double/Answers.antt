use Rattle.yaml_subset.proofs.QuotedTexts.{double_cut}
use Rattle.yaml_subset.proofs.quotes.double.Goals as goal

pub returns : goal.returns
returns c =
    double_cut c.args.number c.args.text.now c.split_at.result.0.now c.split_at.result.1.now c.double_len.result
    c.double_len.ensures.value c.split_at.ensures.front c.split_at.ensures.back c.in-len1-up.len_at_least
    c.if-b-eq34.true
