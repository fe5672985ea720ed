use Rattle.std.{proofs.Common.{◌≡◌, ◌+◌, false, drop, map, sym, ◌∙◌}, specs.Str.bytes_eq}
use Rattle.config_faults.specs.Faults.{spot_view}
use Rattle.mpf_config.specs.{BundleText.machine_owner, View.name_view, CodeViews.copies_view}
use Rattle.mpf_config.proofs.{ListLoops.mapped_at, SameModes.takes_next}
use Rattle.mpf_config.proofs.sections.compare_names.Goals as goal

pub loop-mode-preserved : goal.loop-mode-preserved
loop-mode-preserved c =
    let modes = c.args.modes.now in
    let i = c.loop-mode.mode-index in
    let mode = c.mode-item.result in
    let name = c.as_slice-name.ensures in
    let other : bytes_eq mode.text.items machine_owner ≡ false = rw name at (sym c.eq.ensures ∙ c.if-eq.false) in
    takes_next (spot_view c.args.spot) (copies_view c.loop-mode.names) (copies_view c.take_key.new.keys)
    c.in_ok-fresh.fresh (name_view mode) (map name_view (drop (i + 1) modes)) (map name_view (drop i modes))
    (mapped_at name_view modes i mode c.loop-mode-test.true c.mode-item.is) other
    (rw name at c.in_ok-fresh.ensures.fresh) c.if-not-fresh.false (rw name at c.in_ok-fresh.ensures.known)
    ∙ c.loop-mode.invariant
