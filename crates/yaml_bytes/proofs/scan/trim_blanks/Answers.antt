use Rattle.std.proofs.Common.{sym, ◌∙◌}
use Rattle.yaml_bytes.proofs.Trimming.{trimmed_less, trimmed_all}
use Rattle.yaml_bytes.proofs.scan.trim_blanks.Goals as goal

pub loop-rest-preserved : goal.loop-rest-preserved
loop-rest-preserved c = trimmed_less c.loop-rest.rest.now c.in-len1-up.len_at_least
    (sym c.is_blank.ensures ∙ c.if-not-is_blank.false) ∙ c.loop-rest.invariant

pub returns-then-not-is_blank : goal.returns-then-not-is_blank
returns-then-not-is_blank c = sym (trimmed_all c.loop-rest.rest.now c.in-len1-up.len_at_least
    (sym c.is_blank.ensures ∙ c.if-not-is_blank.true)) ∙ c.loop-rest.invariant
