use Rattle.std.proofs.Common.{◌≡◌, Bool, true, false, Option, List, ℕ, ap, sym, ◌∙◌, subst}
use Rattle.std.specs.Io.KnownBytes.{append_known}
use Rattle.pinball_shell.specs.{Played.PlaysLine, LogPlayers.{PlayerView, RunsUnlessStopped}}
use Rattle.pinball_shell.proofs.Taking.{runs-on, runs-ok}
use Rattle.pinball_shell.proofs.log_player.LogPlayer.play.Goals as goal

pub invariant_of-self : goal.invariant_of-self
invariant_of-self g c =
    let was = c.self.inside in
    subst (λ (b : Bool). RunsUnlessStopped was.plan c.play_line-answer.new.rig b)
    (sym c.is_err-self-inside.ensures.value)
    (runs-on was.plan c.args.number c.args.line.now was.rig c.play_line-answer.new.rig
    (append_known (g.W.Write.contents c.args.writer.now) was.page)
    (append_known (g.W.Write.contents c.play_line-answer.new.writer) c.play_line-answer.new.page)
    c.play_line-answer.result (c.self.invariant c.if-self.false) c.play_line-answer.ensures)

pub returns-clause-plays : goal.returns-clause-plays
returns-clause-plays g c =
    let written : Option (List ℕ) = g.W.Write.contents c.args.writer.now in
    let grown : Option (List ℕ) = append_known (g.W.Write.contents c.play_line-answer.new.writer)
    c.play_line-answer.new.page in
    subst (λ (p : PlayerView). p.has_stopped ≡ false
    → PlaysLine p.plan c.args.number c.args.line.now p.rig c.play_line-answer.new.rig (append_known written p.page)
    grown c.play_line-answer.result)
    c.self.view_is (λ going. c.play_line-answer.ensures)

pub returns-clause-plan : goal.returns-clause-plan
returns-clause-plan g c = ap (λ (p : PlayerView). p.plan) c.self.view_is

pub returns-clause-going : goal.returns-clause-going
returns-clause-going g c = runs-ok c.play_line-answer.result c.is_err-self-inside.result
    c.is_err-self-inside.ensures.value

pub returns-clause-over : goal.returns-clause-over
returns-clause-over g c = λ over. let no : true ≡ false = sym over
    ∙ sym (ap (λ (p : PlayerView). p.has_stopped) c.self.view_is) ∙ c.if-self.false in cc

pub returns-then-self-clause-plays : goal.returns-then-self-clause-plays
returns-then-self-clause-plays g c = λ going. let no : true ≡ false = sym c.if-self.true
    ∙ ap (λ (p : PlayerView). p.has_stopped) c.self.view_is ∙ going in cc
