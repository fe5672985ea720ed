use Rattle.std.{proofs.Common.{refl, Err, ap, sym, ◌∙◌, subst, Option, List, ℕ}, specs.Io.KnownBytes.append_known}
use Rattle.pin_rig.specs.Rig.{RigView}
use Rattle.pinball_shell.specs.{Played.IsLogPlayed, LogPlayers.PlayerView}
use Rattle.pinball_shell.proofs.Playing.{lines-start, lines-more, lines-fault}
use Rattle.pinball_shell.proofs.Taking.{line-same, fault-same, halts-in, ok-both}
use Rattle.pinball_shell.proofs.play.play_lines.Goals as goal

pub loop-rest-init : goal.loop-rest-init
loop-rest-init g c =
    let first = c.args.player.now in
    record {
      going = c.requires.going;
      plan = refl;
      lines = lines-start first.plan first.rig.checked.bound c.args.log.now first.rig
          (append_known (g.W.Write.contents c.args.writer.now) first.page) c.requires.running c.requires.rest;
    }

pub loop-rest-preserved : goal.loop-rest-preserved
loop-rest-preserved g c =
    let first = c.args.player.now in
    let now = c.loop-rest.player in
    let next = c.play.new.self in
    let begun : Option (List ℕ) = append_known (g.W.Write.contents c.args.writer.now) first.page in
    let before : Option (List ℕ) = append_known (g.W.Write.contents c.loop-rest.writer) now.page in
    let after : Option (List ℕ) = append_known (g.W.Write.contents c.play.new.writer) next.page in
    let line = c.first_line.result.0.now in
    let going = c.loop-rest.invariant.lines in
    record {
      going = c.in-Ok.ensures.going;
      plan = c.play.ensures.plan ∙ c.loop-rest.invariant.plan;
      lines =
          lines-more first.plan first.rig.checked.bound c.args.log.now first.rig c.loop-rest.number c.loop-rest.rest.now
          line c.first_line.result.1.now now.rig next.rig begun before after
          c.loop-rest.verdict going c.first_line.ensures.first c.worse-verdict.result c.in-Ok.found
          c.first_line.ensures.shorter
          (line-same first.plan first.rig now.rig now.plan c.loop-rest.invariant.plan going.output.service.checked_is
          c.loop-rest.number line next.rig before after c.in-Ok.found
          (c.in-Ok.ensures.plays c.loop-rest.invariant.going)) c.worse-verdict.ensures;
    }

pub returns-in-Err-Board-clause-plays : goal.returns-in-Err-Board-clause-plays
returns-in-Err-Board-clause-plays g c =
    let first = c.args.player.now in
    let now = c.loop-rest.player in
    let next = c.play.new.self in
    let last = c.refuse_for_board.new.self in
    let begun : Option (List ℕ) = append_known (g.W.Write.contents c.args.writer.now) first.page in
    let before : Option (List ℕ) = append_known (g.W.Write.contents c.loop-rest.writer) now.page in
    let after : Option (List ℕ) = append_known (g.W.Write.contents c.play.new.writer) next.page in
    let end : Option (List ℕ) = append_known (g.W.Write.contents c.refuse_for_board.new.writer) last.page in
    let line = c.first_line.result.0.now in
    let going = c.loop-rest.invariant.lines in
    let fault = fault-same first.plan first.rig now.rig now.plan c.loop-rest.invariant.plan
    going.output.service.checked_is c.loop-rest.number line next.rig before after
    (halts-in c.play.result _ _ (c.in-Err-Board.is ∙ ap Err c.in-Err-Board.field-0-is)
    (c.play.ensures.plays c.loop-rest.invariant.going)) in
    ok-both c.refuse_for_board.result _ _ _
    (λ v text is. subst (λ (r : RigView). IsLogPlayed first.plan first.rig.checked.bound c.args.log.now first.rig r
    begun end v) (sym (ap (λ (p : PlayerView). p.rig) c.refuse_for_board.ensures.keeps))
    (lines-fault first.plan first.rig.checked.bound c.args.log.now first.rig c.loop-rest.number c.loop-rest.rest.now
    line c.first_line.result.1.now now.rig next.rig begun before after
    c.loop-rest.verdict going c.first_line.ensures.first end v fault text is))
    c.refuse_for_board.ensures.writes c.refuse_for_board.ensures.verdict
