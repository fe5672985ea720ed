use Rattle.std.proofs.{Common.{rules, ◌||◌, [], get_or, ap, ◌∙◌, arith}, lemmas.Result.err_from_is_err_and}
use Rattle.yaml_subset.specs.Keys.{is_among}
use Rattle.mpf_config.specs.declared.texts.NamedText as texts
use Rattle.setting_values.specs.KeyRules.{found_in}
use Rattle.mpf_config.specs.{Unread.mode_text_of, Gives.keys_taken}
use Rattle.mpf_config.specs.CodeViews.{copies_view, modes_view, found_modes_view, placed_keys}
use Rattle.mpf_config.proofs.NoneBefore.{none_before, machine_only, none_long, next_before, next_taken}
use Rattle.mpf_config.proofs.SameTexts.{takes_next, fails_next, is_fresh}
use Rattle.mpf_config.proofs.modes.place_all.Goals as goal

-- the text that a place past the end would have
abbrev nothing : texts.NamedText
nothing = record { name = record { ref_ptr = (0, 0); now = [] }; text = record { ref_ptr = (0, 0); now = [] } }

pub loop-text-init : goal.loop-text-init
loop-text-init c = search (rules, none_long, none_before, machine_only)

pub returns-in_err-place : goal.returns-in_err-place
returns-in_err-place c = search (rules, fails_next, err_from_is_err_and)

pub loop-text-preserved : goal.loop-text-preserved
loop-text-preserved c =
    let ws = modes_view c.args.modes.now in
    let found = found_modes_view c.loop-text.mode_reads in
    let next = found_modes_view c.place.new.mode_reads in
    let machine = keys_taken c.args.machine.now c.args.known_keys.now in
    let keys = keys_taken c.args.machine.now c.loop-text.known_keys in
    let names = copies_view c.loop-text.names in
    let known = copies_view c.take_key.new.keys in
    let hit = found_in mode_text_of (get_or c.args.texts.now c.loop-text.text-index nothing).name.now ws in
    let fresh =
    is_fresh ws machine keys names found c.args.texts.now c.loop-text.text-index nothing c.loop-text-test.true
    c.in_ok-fresh.fresh
    c.in_ok-fresh.ensures.fresh c.if-not-fresh.false in
    record {
      as_long = omega arith;
      none = next_before names known _ c.in_ok-fresh.ensures.known fresh _ keys ws found next c.loop-text.invariant.none
          c.in_ok-place.ensures.value;
      known = λ q.
          c.in_ok-place.ensures.known q
          ∙ ap (λ b. is_among (placed_keys next hit) q || b) (c.loop-text.invariant.known q)
          ∙ next_taken names known _ c.in_ok-fresh.ensures.known fresh machine _ keys ws found next
          c.loop-text.invariant.none c.in_ok-place.ensures.value q;
      so_far =
          takes_next ws machine keys names found c.args.texts.now c.loop-text.text-index nothing c.loop-text-test.true
          c.in_ok-fresh.fresh known next
          c.in_ok-fresh.ensures.fresh c.if-not-fresh.false c.in_ok-fresh.ensures.known c.loop-text.invariant.known
          c.in_ok-place.ensures.value
          ∙ c.loop-text.invariant.so_far;
    }
