use Rattle.std.proofs.Common.{rules}
use Rattle.machine_folder.proofs.{Joining.joined-more, TooLong.modes-over}
use Rattle.machine_folder.proofs.folder.append_modes.Goals as goal

pub loop-mode-preserved : goal.loop-mode-preserved
loop-mode-preserved g c = record {
  joined =
      joined-more (g.T.Texts.text_at c.args.texts.now) c.args.folder.now c.args.modes.now c.loop-mode.mode-index
      c.mode-item.result c.deref.result.now c.args.bundle.now.items c.loop-mode.bundle.items
      c.append_mode.new.bundle.items
      c.loop-mode-test.true c.mode-item.is c.deref.ensures.value c.loop-mode.invariant.joined
      c.in_ok-append_mode.ensures.joins;
  within = c.in_ok-append_mode.ensures.within;
}

pub returns-in_err-append_mode-clause-too_long : goal.returns-in_err-append_mode-clause-too_long
returns-in_err-append_mode-clause-too_long g c =
    let named =
    modes-over (g.T.Texts.text_at c.args.texts.now) c.args.folder.now c.args.modes.now c.loop-mode.mode-index
    c.mode-item.result c.deref.result.now c.args.bundle.now.items c.loop-mode.bundle.items
    c.in_err-append_mode.field-0.0 c.loop-mode-test.true c.mode-item.is c.deref.ensures.value
    c.loop-mode.invariant.joined c.in_err-append_mode.ensures.too_long in
    search (rules, named)
