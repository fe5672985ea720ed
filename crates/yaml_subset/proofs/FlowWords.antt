-- Words in flow, as parts of a list or mapping.
use Rattle.std.proofs.{Common.{rules, ◌≡◌, ℕ, ◌≤◌, true, false, List, length, Ok, arith}, lemmas.Bool.ne_eqb}
use Rattle.yaml_subset.{specs.{Words.{IsWordAt, word_at}, Flow.begins_bracket}, proofs.FlowParts.{BeginsPart, Reads}}
use Rattle.yaml_subset.proofs.WordTexts.{word_sound, word_complete, word_begins, word_shorter}

pub word_begins_part : (text value rest : List ℕ) → IsWordAt true text value rest
    → BeginsPart text × (begins_bracket text ≡ false)
word_begins_part text value rest h = search (rules, word_begins, ne_eqb)

pub word_reads : (n : ℕ) → Reads (word_at n true) (IsWordAt true)
word_reads n = record {
  sound = word_sound n true;
  complete = word_complete n true;
  shorter = word_shorter true;
  begins = λ text value rest h. (word_begins_part text value rest h).0;
}

pub word_less : (n : ℕ) (text value rest : List ℕ) → word_at n true text ≡ Ok (value, rest) → length rest ≤ length text
word_less n text value rest e = omega (arith, word_shorter true text value rest (word_sound n true text value rest e))
