-- The modes that the sections of a text list: each by a name, few of them, and no two by one name.
use Rattle.std.proofs.Common.{rules, ◌≤◌, List, [], ◌∷◌, length, map, arith}
use Rattle.std.{specs.List.AllZip, proofs.lemmas.List.Elements.{All-nil, All-from_recursion}}
use Rattle.yaml_subset.specs.Node.{Pair}
use Rattle.mpf_values.specs.Names.{IsName}
use Rattle.mpf_tables.specs.declared.tables.TextKind.{TextKind}
use Rattle.section_tables.proofs.RowNames.{names_named, names_short}
use Rattle.mpf_sections.specs.Rows.{WrittenName, Content, name_list, SectionRows}
use Rattle.mpf_sections.specs.{Named.AllNames, Typed.{names_in, listed_modes}}
use Rattle.mpf_config.specs.RowsOf.{Sizes, AreNew, IsContent, IsSection}

pub record AreListed (sizes : Sizes) (ws : List WrittenName) : Type 0 where
  pub named : AllNames ws
  pub few : length ws ≤ sizes.modes
  pub apart : AreNew [] (map (λ w. w.text) ws)

module _ (sizes : Sizes) (kind : TextKind) where
  none_listed : AreListed sizes []
  none_listed = record { named = All-nil (λ (w : WrittenName). IsName w.text); few = omega arith; apart = tt }

  content_listed : (p : Pair) (content : Content) → IsContent sizes kind p content → AreListed sizes (names_in content)
  content_listed p (name_list ws) h =
      record {
        named = All-from_recursion (λ (w : WrittenName). IsName w.text) ws (names_named sizes.modes p ws h.1.is_list);
        few = names_short sizes.modes p ws h.1.is_list;
        apart = h.1.apart;
      }
  content_listed p _ h = none_listed

  pub modes_listed : (sections : List Pair) (rows : List SectionRows) → AllZip (IsSection sizes kind) sections rows
      → AreListed sizes (listed_modes rows)
  modes_listed [] [] each = none_listed
  modes_listed [] (s ∷ ss) each = absurd each
  modes_listed (p ∷ ps) [] each = absurd each
  modes_listed (p ∷ ps) (s ∷ ss) each = search (rules, content_listed, modes_listed ps ss each.1)
