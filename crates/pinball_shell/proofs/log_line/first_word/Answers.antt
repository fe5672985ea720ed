use Rattle.std.proofs.{Common.{sym, ◌∙◌, not, arith}, lemmas.List.Sums.prefix_len-le-length}
use Rattle.yaml_bytes.specs.Bytes.{is_blank}
use Rattle.pinball_shell.proofs.LineWords.{words-cut, words-none}
use Rattle.pinball_shell.proofs.log_line.first_word.Goals as goal

pub returns-in_err-start : goal.returns-in_err-start
returns-in_err-start c = rw c.from_residual.ensures
    (words-none c.args.text.now (sym c.word_start.ensures ∙ c.in_err-start.was))

pub split_at-requires-2 : goal.split_at-requires-2
split_at-requires-2 c =
    omega (arith, c.word_len.ensures, prefix_len-le-length (λ b. not (is_blank b)) c.split_at.result.1.now)

pub returns : goal.returns
returns c =
    words-cut c.args.text.now c.split_at.result.1.now c.split_at-2.result.0.now c.split_at-2.result.1.now
    c.in_ok-start.start c.word_len.result
    (sym c.word_start.ensures ∙ c.in_ok-start.was) c.split_at.ensures.back c.word_len.ensures c.split_at-2.ensures.front
    c.split_at-2.ensures.back
