use Rattle.std.{proofs.Common.{◌≡◌, drop, map}, specs.{List.list_any, Str.bytes_eq}}
use Rattle.setting_values.proofs.scalars.word_in.Given as goal

abbrev pub invariant-loop-word : goal.invariant-loop-word
invariant-loop-word l = list_any (λ w. bytes_eq w l.text) (map (λ w. w.now) (drop l.word-index l.words))
    ≡ list_any (λ w. bytes_eq w l.text) (map (λ w. w.now) l.words)
