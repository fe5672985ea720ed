-- Which texts are names.
use Rattle.std.proofs.Common.{rules, ◌≡◌, ℕ, true, false, List, Some, refl, sym}
use Rattle.std.proofs.lemmas.{Option.cond_some, Bool.both_ways}
use Rattle.std.proofs.lemmas.Bool.{and_parts, and_from, eqb-false, ne_eqb, leb-true, le-leb, not-true, not_from_false}
use Rattle.mpf_values.specs.{Names.IsName, Reading.{is_name, name_at}}
use Rattle.yaml_bytes.proofs.AllBytes.{Are-from_list_all, list_all-from_Are}

pub IsName-from_is_name : (text : List ℕ) → is_name text ≡ true → IsName text
IsName-from_is_name text h = search (rules, and_parts, eqb-false, not-true, leb-true, Are-from_list_all)

pub is_name-from_IsName : (text : List ℕ) → IsName text → is_name text ≡ true
is_name-from_IsName text h = search (rules, and_from, not_from_false, ne_eqb, le-leb, list_all-from_Are)

pub is_no_name : (text : List ℕ) → is_name text ≡ false → IsName text → ⊥
is_no_name text f h = both_ways (is_name text) f (is_name-from_IsName text h)

pub name_sound : (text name : List ℕ) → name_at text ≡ Some name → (name ≡ text) × IsName text
unfolding name_at
name_sound text name e = let a = cond_some (is_name text) text name e in (sym a.1, IsName-from_is_name text a.0)

pub name_complete : (text : List ℕ) → IsName text → name_at text ≡ Some text
unfolding name_at
name_complete text h = rw (is_name-from_IsName text h) refl
