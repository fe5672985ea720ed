use Rattle.std.proofs.Common.{◌≡◌, ◌-◌, length}
use Rattle.setting_values.specs.Reading.{each_read}
use Rattle.mpf_config.specs.{BundleText.{pieces_of, number_lines}, Reading.text_at, CodeViews.texts_view}
use Rattle.mpf_config.proofs.{EachRead.with_front, Pieces.numbered_from}
use Rattle.mpf_config.proofs.texts.texts.Given as goal

-- the texts in front of a place, and those from there on, are those of the bundle
abbrev pub invariant-loop-at : goal.invariant-loop-at
invariant-loop-at l = with_front (texts_view l.texts.items) (each_read text_at (numbered_from l.bundle l.at))
    ≡ each_read text_at (number_lines 1 (pieces_of l.bundle))

abbrev pub decreases-loop-at : goal.decreases-loop-at
decreases-loop-at l = length l.bundle - l.at
