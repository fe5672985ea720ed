use Rattle.std.proofs.Common.{ap, ◌∙◌, length}
use Rattle.memchr.{specs.Find.is_byte, proofs.lemmas.CallerLemmas.length-places}
use Rattle.mpf_config.proofs.texts.line_ends.Goals as goal

pub returns-clause-value : goal.returns-clause-value
returns-clause-value c = c.count.ensures ∙ ap length c.memchr_iter.ensures.value
    ∙ length-places (is_byte 10) c.args.front.now
