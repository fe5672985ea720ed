use Rattle.std.proofs.Common.{rules, ◌||◌, ap, ◌∙◌, arith}
use Rattle.yaml_subset.specs.Keys.{is_among}
use Rattle.mpf_config.specs.{View.name_view, Gives.keys_taken}
use Rattle.mpf_config.proofs.ModeLoops.{put_in_place, none_placed, keys_placed, no_keys_placed}
use Rattle.mpf_config.proofs.modes.place.Goals as goal
use Rattle.mpf_config.proofs.modes.place.Goals.{in-Some+in_ok-read_new_mode+in-Some-1}
use Rattle.mpf_config.proofs.modes.place.Goals.{in-Some+in_ok-read_new_mode+in-None-1, in_default}

pub returns-clause-value : goal.returns-clause-value
returns-clause-value c =
    search (
      rules,
      in-Some+in_ok-read_new_mode+in-Some-1,
      put_in_place,
      in-Some+in_ok-read_new_mode+in-None-1,
      in_default,
      none_placed,
    )

pub returns-clause-known : goal.returns-clause-known
returns-clause-known c =
    let keys = keys_taken c.args.machine.now c.args.known_keys.now in
    let long = c.requires.as_long in
    elim c.match-mode_of.branch [
      | in-Some+in_ok-read_new_mode+in-Some-1 w ↦ (λ q.
          (let within = w.in-Some.ensures.within in
          let placed = keys_placed (name_view w.in-Some.name.now) c.args.mode_reads.now c.match-mode_of.mode_reads
          w.in-Some.place w.in_ok-read_new_mode.field-0 _ w.in-Some.ensures.found w.mode_reads-is
          (omega (arith, within, long)) in
          ap (λ set. is_among (keys_taken c.args.machine.now set) q) w.known_keys-is
          ∙ w.in_ok-read_new_mode.ensures.known q ∙ ap (λ ks. is_among ks q || is_among keys q) placed))
      | in-Some+in_ok-read_new_mode+in-None-1 w ↦ (λ q.
          (let within = w.in-Some.ensures.within in
          let placed = keys_placed (name_view w.in-Some.name.now) c.args.mode_reads.now c.match-mode_of.mode_reads
          w.in-Some.place w.in_ok-read_new_mode.field-0 _ w.in-Some.ensures.found w.mode_reads-is
          (omega (arith, within, long)) in
          ap (λ set. is_among (keys_taken c.args.machine.now set) q) w.known_keys-is
          ∙ w.in_ok-read_new_mode.ensures.known q ∙ ap (λ ks. is_among ks q || is_among keys q) placed))
      | in_default w ↦ (λ q.
          ap (λ set. is_among (keys_taken c.args.machine.now set) q) w.known_keys-is
          ∙ ap (λ ks. is_among ks q || is_among keys q)
          (no_keys_placed c.match-mode_of.mode_reads _ w.in_default.ensures.found))
    ]
