-- What other entries say of the shots of a group.
use Rattle.std.{specs.{Prelude.{is_some, not}, List.list_all}, proofs.Common.{option_map, sym, ap, ◌∙◌}}
use Rattle.std.proofs.Common.{rules, ◌≡◌, true, false, ◌&&◌, ℕ, ◌+◌, ◌<◌, Bool, List, length, map, drop, get_or, Option}
use Rattle.setting_values.specs.declared.values.Name.{Name}
use Rattle.mpf_sections.specs.{Rows.WrittenName, View.name_view}
use Rattle.machine_definitions.proofs.Finding.{next-is}

-- whether something is found, of what is found
pub is_some-map : {X Y : Type 0} (f : X → Y) (o : Option X) → is_some (option_map f o) ≡ is_some o
is_some-map f x2 = search rules

not-false : (a b : Bool) → a ≡ not b → b ≡ false → a ≡ true
not-false a b e is = e ∙ ap not is

not-true : (a b : Bool) → a ≡ not b → b ≡ true → a ≡ false
not-true a b e is = e ∙ ap not is

-- something is found under a name, or nothing is
module _ {X Y : Type 0} (view : X → Y) (o : Option X) (called : Option Y) (seen : option_map view o ≡ called)
    (none : Bool) (is : is_some o ≡ not none) where
  pub known : none ≡ false → is_some called ≡ true
  known e = ap is_some (sym seen) ∙ is_some-map view o ∙ not-false (is_some o) none is e

  pub missing : none ≡ true → is_some called ≡ false
  missing e = ap is_some (sym seen) ∙ is_some-map view o ∙ not-true (is_some o) none is e

-- one name, and then the others
module _ (f : WrittenName → Bool) (names : List Name) (i : ℕ) (d : Name) (within : i < length names)
    (is : d ≡ get_or names i d) where
  pub all_next : f (name_view d) ≡ true → list_all f (map name_view (drop (i + 1) names))
      ≡ list_all f (map name_view (drop i names))
  all_next holds = ap (λ b. b && list_all f (map name_view (drop (i + 1) names))) (sym holds)
      ∙ next-is (λ l. list_all f (map name_view l)) names i d within is

  pub not_all : f (name_view d) ≡ false → false ≡ list_all f (map name_view (drop i names))
  not_all fails = ap (λ b. b && list_all f (map name_view (drop (i + 1) names))) (sym fails)
      ∙ next-is (λ l. list_all f (map name_view l)) names i d within is
