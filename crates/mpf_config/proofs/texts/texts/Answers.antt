use Rattle.std.proofs.Common.{rules, ◌≡◌, ◌+◌, false, take, drop, ap, ◌∙◌}
use Rattle.std.proofs.lemmas.{List.map_push, Result.err_from_is_err_and}
use Rattle.setting_values.specs.Reading.{each_read}
use Rattle.mpf_config.specs.BundleText.{pieces_of, piece_len, line_ends, number_lines}
use Rattle.mpf_config.specs.{Reading.{text_at, texts_at}, CodeViews.texts_view}
use Rattle.mpf_config.proofs.EachRead.{goes_on, fails, is_done}
use Rattle.mpf_config.proofs.Pieces.{numbered_from, none_left, next_numbered, has_bytes}
use Rattle.mpf_config.proofs.texts.texts.Goals as goal

pub returns-in_err-text : goal.returns-in_err-text
unfolding texts_at
returns-in_err-text c =
    let bundle = c.args.bundle.now in
    let at = c.loop-at.at in
    let n = c.piece_len.result in
    let rest : c.split_at.result.1.now ≡ drop at bundle = c.split_at.ensures.back in
    let front : c.split_at.result.0.now ≡ take at bundle = c.split_at.ensures.front in
    let piece : c.split_at-in-loop-at.result.0.now ≡ take n (drop at bundle) = c.split_at-in-loop-at.ensures.front
    ∙ ap (take n) rest in
    let first = next_numbered bundle at n c.loop-at-test.true (c.piece_len.ensures.value ∙ ap (piece_len false) rest) in
    let p = err_from_is_err_and c.from_residual.result c.from_residual.ensures.1 in
    rw (p.1, p.2)
    (fails text_at (texts_view c.loop-at.texts.items) (1 + line_ends (take at bundle), take n (drop at bundle))
    (numbered_from bundle (at + n)) (numbered_from bundle at)
    (each_read text_at (number_lines 1 (pieces_of bundle))) c.in_err-text.field-0.0 first
    (rw (front, piece) at c.in_err-text.ensures) c.loop-at.invariant)

pub loop-at-smaller : goal.loop-at-smaller
loop-at-smaller c = search (rules, has_bytes)

pub loop-at-preserved : goal.loop-at-preserved
loop-at-preserved c = search (rules, next_numbered, map_push, goes_on, numbered_from)

pub returns : goal.returns
unfolding texts_at
returns c = search (rules, none_left, is_done, numbered_from)
