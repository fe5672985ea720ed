-- Booleans are read as they are spelled.
use Rattle.std.proofs.Common.{rules, ◌≡◌, ℕ, Bool, true, false, ◌||◌, List, Some, None, Decides, cond, codes, subst}
use Rattle.std.proofs.Common.{◌⊎◌, inl, inr}
use Rattle.std.proofs.lemmas.{Bool.Decides.Decides-or, Option.same_Some, Slice.Eq.bytes_eq-Decides}
use Rattle.mpf_values.specs.{Booleans.{Spells, IsBoolean}, Reading.{spells, boolean_at}}
use Rattle.mpf_values.proofs.{Steps.guard_true, Computing.Computes}
use Rattle.yaml_bytes.proofs.Steps.{chosen}

abbrev spells_one : List ℕ → List ℕ → List ℕ → List ℕ → Bool
spells_one a b c text = spells a text || (spells b text || spells c text)

Decides-one : (a b c text : List ℕ) → Decides (spells_one a b c text) (Spells a text ⊎ (Spells b text ⊎ Spells c text))
Decides-one a b c text = search (rules, Decides-or, bytes_eq-Decides)

boolean_sound : (text : List ℕ) (b : Bool) → boolean_at text ≡ Some b → IsBoolean text b
unfolding boolean_at
boolean_sound text b e =
    let yes_words = spells_one (codes "yes") (codes "true") (codes "on") text in
    let no_words = spells_one (codes "no") (codes "false") (codes "off") text in
    elim (chosen yes_words (Some true) (cond no_words (Some false) None) (Some b) e) [
      | inl a ↦ subst (IsBoolean text) (same_Some true b a.1)
          ((Decides-one (codes "yes") (codes "true") (codes "on") text).0 a.0)
      | inr c ↦
          let a = guard_true no_words (Some false) b c.1 in
          subst (IsBoolean text) (same_Some false b a.1)
          ((Decides-one (codes "no") (codes "false") (codes "off") text).0 a.0)
    ]

boolean_complete : (text : List ℕ) (b : Bool) → IsBoolean text b → boolean_at text ≡ Some b
unfolding boolean_at
boolean_complete text x2 x3 = search rules

pub boolean_computes : (text : List ℕ) → Computes (boolean_at text) (IsBoolean text)
boolean_computes text = record { sound = boolean_sound text; complete = boolean_complete text }
