use Rattle.std.proofs.Common.{◌≡◌, ℕ, ◌-◌, ◌<◌, min, false, Err, List, [], ◌++◌, length, take, drop, unwrap_or, ap, sym}
use Rattle.std.proofs.{Common.{◌∙◌, subst, arith}, lemmas.Result.err_from_is_err_and}
use Rattle.std.proofs.Math.{Seq.take-append_seam, Nat.{min-le_left, min-le_right}}
use Rattle.yaml_bytes.specs.{Lines.cut_line, View.option_slice}
use Rattle.live_machine.specs.{Talk.{Hears, longest_line}, LineLinks.{read_ahead, link_report}}
use Rattle.live_machine.proofs.Hearing.{some-text, not-filled, too-long, line-heard}
use Rattle.live_machine.proofs.line_link.LineLinkLink.hear.Goals as goal
use Rattle.live_machine.proofs.line_link.LineLinkLink.hear.Goals.{then-len-room-via-then-len-room}
use Rattle.live_machine.proofs.line_link.LineLinkLink.hear.Goals.{
  then-len-room-via-else-len-room+then-len-gt-LONGEST_LINE,
}

pub returns-in_err-fill_line-clause-hears : goal.returns-in_err-fill_line-clause-hears
returns-in_err-fill_line-clause-hears g c =
    let written = g.W.Write.contents c.args.self.now.writer in
    let old = g.R.Read.remaining c.args.self.now.reader in
    let new = g.R.Read.remaining c.fill_line.new.reader in
    let before = read_ahead c.args.self.now.buffer in
    let text = read_ahead c.fill_line.new.self in
    let p = err_from_is_err_and c.from_residual.result c.from_residual.ensures.1 in
    subst (λ r. Hears false c.args.room.now (link_report written old before) (link_report written new text) r)
    (sym (p.1 ∙ ap Err p.2))
    (not-filled written old new before text c.fill_line.ensures.keeps (min longest_line (length c.args.room.now))
    c.in_err-fill_line.field-0.0 (min-le_left longest_line (length c.args.room.now))
    (λ f. c.in_err-fill_line.ensures.long (ap Err f)))

pub returns-then-len-room-clause-hears : goal.returns-then-len-room-clause-hears
returns-then-len-room-clause-hears g c =
    let limit = min longest_line (length c.args.room.now) in
    let line = c.split_line.result.0.now in
    let least = min-le_left longest_line (length c.args.room.now) in
    let most = min-le_right longest_line (length c.args.room.now) in
    let over : limit < length line =
    elim c.then-len-room.branch [
      | then-len-room-via-then-len-room w ↦ omega (arith, least, most)
      | then-len-room-via-else-len-room+then-len-gt-LONGEST_LINE w ↦ omega (arith, least, most)
    ] in
    too-long (g.W.Write.contents c.args.self.now.writer) (g.R.Read.remaining c.args.self.now.reader)
    (g.R.Read.remaining c.fill_line.new.reader) (read_ahead c.args.self.now.buffer)
    (read_ahead c.fill_line.new.self)
    c.fill_line.ensures.keeps line (option_slice (λ after. after) c.split_line.result.1)
    (some-text c.bytes-text.result.now (read_ahead c.fill_line.new.self) c.bytes-text.ensures
    (sym c.is_empty.ensures ∙ c.if-is_empty.false)) c.in_ok-fill_line.ensures.line
    (c.split_line.ensures.first ∙ ap (λ (l : List ℕ). (cut_line l).0) c.bytes-text.ensures)
    (c.split_line.ensures.after ∙ ap (λ (l : List ℕ). (cut_line l).1) c.bytes-text.ensures) limit over

pub returns-clause-hears : goal.returns-clause-hears
returns-clause-hears g c =
    let line = c.split_line.result.0.now in
    let after = option_slice (λ after. after) c.split_line.result.1 in
    let text = read_ahead c.fill_line.new.self in
    line-heard (g.W.Write.contents c.args.self.now.writer) (g.R.Read.remaining c.args.self.now.reader)
    (g.R.Read.remaining c.fill_line.new.reader) (read_ahead c.args.self.now.buffer) text
    c.fill_line.ensures.keeps line after (some-text c.bytes-text.result.now (read_ahead c.fill_line.new.self)
    c.bytes-text.ensures (sym c.is_empty.ensures ∙ c.if-is_empty.false)) c.in_ok-fill_line.ensures.line
    (c.split_line.ensures.first ∙ ap (λ (l : List ℕ). (cut_line l).0) c.bytes-text.ensures)
    (c.split_line.ensures.after ∙ ap (λ (l : List ℕ). (cut_line l).1) c.bytes-text.ensures)
    (read_ahead c.keep_last.new.self) _
    (c.keep_last.ensures ∙ ap (λ (n : ℕ). drop (length text - n) text) c.count_after-size.ensures)
    (ap (λ (l : List ℕ). take (length line) (l ++ drop (length line) c.args.room.now)) c.copy_from_slice.ensures.after
    ∙ take-append_seam line (drop (length line) c.args.room.now))
