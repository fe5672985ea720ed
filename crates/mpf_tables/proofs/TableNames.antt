-- What holds of the shape of each section. It is right, by computation; so what it has by default is named and short.
use Rattle.std.proofs.Common.{rules, ◌≡◌, ℕ, ◌≤◌, Bool, true, ◌&&◌, cond, List, [], ◌∷◌, Option, Some, refl}
use Rattle.std.specs.{List.{AllByRecursion, list_all}, Str.bytes_eq}
use Rattle.std.proofs.lemmas.{Option.{same_Some, none-some}, Bool.and_parts}
use Rattle.mpf_tables.specs.declared.tables.TextKind.{TextKind, TheVariants.{Machine, Mode}}
use Rattle.mpf_tables.specs.SectionTables.{named_in, shape_of, default_profile, playfield, save_shapes, shot_shapes}
use Rattle.mpf_tables.specs.SectionTables.{shared_shapes, mode_shapes}
use Rattle.mpf_tables.specs.TableRules.{IsRight, has_fields, is_named_handled, is_plain_of, is_value_of}
use Rattle.mpf_tables.specs.TableRules.{is_plain_default, is_value_default}
use Rattle.mpf_values.{specs.Names.IsName, proofs.NameTexts.IsName-from_is_name}
use Rattle.setting_values.specs.{Values.{HandledEvent, Plain, Value}, Kinds.{Scalar, Absent, Field, Kind}}
use Rattle.setting_values.specs.{KeyRules.plain_default, NamedValues.IsShortValue}
use Rattle.setting_values.specs.NamedValues.{IsNamedHandled, IsNamedPlain, IsNamedValue, AreNamedFields, IsNamedKind}
use Rattle.setting_values.proofs.ValueNames.{no_items, few_items}
use Rattle.section_tables.specs.{Shapes.{Setting, Shape}, Tables.value_default}
use Rattle.section_tables.specs.Named.{IsNamedTable, IsNamedShape, IsShortTable, IsShortShape}
use Rattle.yaml_bytes.proofs.Words.{word_is}

-- ---- what holds of all that have a name

module _ {A : Type 0} (P : List ℕ → A → Type 0) (section : List ℕ) (x : A) where
  at_name : (name : List ℕ) (y : A) (rest : Option A) (b : Bool) → bytes_eq section name ≡ b
      → cond b (Some y) rest ≡ Some x → P name y → (rest ≡ Some x → P section x) → P section x
  at_name name y rest x4 e is p so = search (rules, same_Some, word_is)

  holds_at : (ts : List (List ℕ × A)) → named_in section ts ≡ Some x → AllByRecursion (λ t. P t.0 t.1) ts → P section x
  holds_at [] is all = absurd (none-some x is)
  holds_at (t ∷ ts) is all = at_name t.0 t.1 (named_in section ts) (bytes_eq section t.0) refl is all.0
      (λ later. holds_at ts later all.1)

-- ---- names that are there by default

pub default_profile_named : IsName default_profile
default_profile_named = IsName-from_is_name default_profile refl

pub playfield_named : IsName playfield
playfield_named = IsName-from_is_name playfield refl

-- ---- what is right by default is named

named_handled : (h : HandledEvent) → is_named_handled h ≡ true → IsNamedHandled h
named_handled h is = search (rules, and_parts, IsName-from_is_name)

named_plain : (kind : Scalar) (x : Plain) → is_plain_of kind x ≡ true → IsNamedPlain x
named_plain kind x is = search (rules, named_handled, IsName-from_is_name)

named_value : (kind : Kind) (v : Value) → is_value_of kind v ≡ true → IsNamedValue v
named_value kind v is = search (rules, and_parts, named_plain, named_handled, IsName-from_is_name)

named_field : (kind : Scalar) (absent : Absent Plain) → is_plain_default kind absent ≡ true
    → IsNamedPlain (plain_default absent)
named_field kind absent is = search (rules, named_plain)

named_fields : (table : List Field) → list_all (λ f. is_plain_default f.kind f.absent) table ≡ true
    → AreNamedFields table
named_fields [] is = tt
named_fields (f ∷ fs) is =
    let both = and_parts (is_plain_default f.kind f.absent) (list_all (λ g. is_plain_default g.kind g.absent) fs) is in
    (named_field f.kind f.absent both.0, named_fields fs both.1)

named_kind : (kind : Kind) → has_fields kind ≡ true → IsNamedKind kind
named_kind kind is = search (rules, and_parts, named_fields)

named_default : (kind : Kind) (absent : Absent Value) → is_value_default kind absent ≡ true
    → IsNamedValue (value_default absent)
named_default kind absent is = search (rules, named_value)

abbrev is_setting : Setting → Bool
is_setting s = is_value_default s.kind s.absent && has_fields s.kind

named_settings : (table : List Setting) → list_all is_setting table ≡ true → IsNamedTable table
named_settings [] is = tt
named_settings (s ∷ ss) is =
    let both = and_parts (is_setting s) (list_all is_setting ss) is in
    let here = and_parts (is_value_default s.kind s.absent) (has_fields s.kind) both.0 in
    ((named_default s.kind s.absent here.0, named_kind s.kind here.1), named_settings ss both.1)

named_shape : (shape : Shape) → IsRight shape → IsNamedShape shape
named_shape shape is = search (rules, and_parts, named_settings, named_kind)

-- ---- no list by default is long

module _ (longest : ℕ) (one : 1 ≤ longest) where
  short_value : (kind : Kind) (v : Value) → is_value_of kind v ≡ true → IsShortValue longest v
  short_value kind v is = search (rules, no_items, few_items)

  short_default : (kind : Kind) (absent : Absent Value) → is_value_default kind absent ≡ true
      → IsShortValue longest (value_default absent)
  short_default kind absent is = search (rules, no_items, short_value)

  short_settings : (table : List Setting) → list_all is_setting table ≡ true → IsShortTable longest table
  short_settings [] is = tt
  short_settings (s ∷ ss) is =
      let both = and_parts (is_setting s) (list_all is_setting ss) is in
      let here = and_parts (is_value_default s.kind s.absent) (has_fields s.kind) both.0 in
      (short_default s.kind s.absent here.0, short_settings ss both.1)

  short_shape : (shape : Shape) → IsRight shape → IsShortShape longest shape
  short_shape shape is = search (rules, and_parts, short_settings)

-- ---- the shapes of sections

abbrev AllShapes : (Shape → Type 0) → List (List ℕ × Shape) → Type 0
AllShapes P = AllByRecursion (λ t. P t.1)

save_right : AllShapes IsRight save_shapes
save_right = (refl, (refl, tt))

shot_right : AllShapes IsRight shot_shapes
shot_right = (refl, (refl, (refl, save_right)))

shared_right : AllShapes IsRight shared_shapes
shared_right = (refl, (refl, (refl, (refl, (refl, (refl, shot_right))))))

pub shape_right : (text : TextKind) (section : List ℕ) (shape : Shape) → shape_of text section ≡ Some shape
    → IsRight shape
shape_right Machine section shape is = search (rules, holds_at, shared_right)
shape_right Mode section shape is = holds_at (λ name s. IsRight s) section shape mode_shapes is
    (refl, (refl, shared_right))

pub shape_named : (text : TextKind) (section : List ℕ) (shape : Shape) → shape_of text section ≡ Some shape
    → IsNamedShape shape
shape_named text section shape is = named_shape shape (shape_right text section shape is)

pub shape_short : (longest : ℕ) → 1 ≤ longest → (text : TextKind) (section : List ℕ) (shape : Shape)
    → shape_of text section ≡ Some shape → IsShortShape longest shape
shape_short longest one text section shape is = short_shape longest one shape (shape_right text section shape is)
