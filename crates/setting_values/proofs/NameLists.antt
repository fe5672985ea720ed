-- A name that is a list text is its only item.
use Rattle.std.proofs.Common.{rules, ◌≡◌, ℕ, ◌<◌, nat_lt, cond, eqb, Bool, true, false, List, [], ◌∷◌, Some, None}
use Rattle.std.{proofs.Common.{Result, Ok, refl, sym, ap, subst, ◌∙◌, arith, append-nil}, specs.List.list_all}
use Rattle.std.proofs.lemmas.{Bool.{and_parts, or_from, eqb-true, ltb-true}, Option.{same_Some, none-some}}
use Rattle.yaml_bytes.specs.Bytes.{is_blank}
use Rattle.yaml_subset.specs.{Node.{Node, scalar}, View.{line_of, text_in}}
use Rattle.mpf_values.specs.{Bytes.{is_name_byte, is_separator}, ListText.open_after, Lists.{Item, item_at}}
use Rattle.mpf_values.specs.Reading.{is_name, items_from, items_of, list_at, event_at}
use Rattle.mpf_values.proofs.{EventTexts.event_computes, NameTexts.IsName-from_is_name}
use Rattle.setting_values.specs.{Kinds.{Bounds, at_least}, Reading.most_items}
use Rattle.setting_values.specs.Values.{WrittenName, HandledEvent, written_at, handled_at}
use Rattle.config_faults.specs.Faults.{RowsFault, Spot}
use Rattle.setting_values.specs.Reading.{◌>>=◌, each_read, count_at, written_in, handled_in, list_items_at, listed_at}

-- ---- bytes of a name

-- a byte of a name is no other byte
is_no : (other : ℕ) → is_name_byte other ≡ false → (b : ℕ) → is_name_byte b ≡ true → eqb b other ≡ false
is_no other none b h = by (eqb b other) refl
  where
    by : (e : Bool) → eqb b other ≡ e → eqb b other ≡ false
    by true e = absurd (let no : false ≡ true = sym none ∙ subst (λ c. is_name_byte c ≡ true) (eqb-true b other e) h
        in cc)
    by false e = e

no_separator : (b : ℕ) → is_name_byte b ≡ true → is_separator b ≡ false
no_separator b h = or_from (eqb b 44) (is_blank b) (is_no 44 refl b h)
    (or_from (eqb b 32) (eqb b 9) (is_no 32 refl b h) (is_no 9 refl b h))

opens_none : (b : ℕ) → is_name_byte b ≡ true → open_after 0 b ≡ 0
opens_none b h = rw (is_no 123 refl b h, is_no 125 refl b h) refl

one_piece : (text : List ℕ) → list_all is_name_byte text ≡ true → items_from 0 text ≡ (text, [])
one_piece [] h = refl
one_piece (b ∷ bs) h =
    let a = and_parts (is_name_byte b) (list_all is_name_byte bs) h in
    rw (no_separator b a.0, opens_none b a.0, one_piece bs a.1) refl

-- ---- names

one_item : (text : List ℕ) → is_name text ≡ true → items_of text ≡ text ∷ []
unfolding items_of
one_item x1 h = search (rules, and_parts, one_piece)

-- a name is the event of this name, handled always
pub name_is_event : (text : List ℕ) → is_name text ≡ true
    → event_at text ≡ Some (record { name = text; condition = None })
name_is_event text h =
    (event_computes text).complete (record { name = text; condition = None })
    (record { rest = []; parts = sym (append-nil text); is_name = IsName-from_is_name text h; is_under = refl })

-- ---- lists

never : (n : ℕ) → nat_lt n 0 ≡ false
never n = by (nat_lt n 0) refl
  where
    by : (b : Bool) → nat_lt n 0 ≡ b → nat_lt n 0 ≡ false
    by true e = absurd (let lt : n < 0 = ltb-true n 0 e in omega (arith, lt))
    by false e = e

not_long : {A : Type 0} (long : Bool) (d r : Result A RowsFault) → long ≡ false → cond long d r ≡ r
not_long x1 d r e = search rules

module _ {B : Type 0} (f : Spot → Item → Result B RowsFault) (spot : Spot) where
  one_items : (most : ℕ) (bounds : Bounds) (line : ℕ) (text : List ℕ) → is_name text ≡ true
      → list_items_at most bounds spot (scalar line text)
      ≡ (count_at most bounds spot 1 >>= λ _. Ok (item_at line text ∷ []))
  unfolding list_items_at list_at
  one_items most bounds line text named = search (rules, not_long, nat_lt, never, one_item)

  one_read : (item : Item) (y : B) → f spot item ≡ Ok y → (r : Result (Unit {0}) RowsFault)
      → (r >>= λ _. Ok (y ∷ [])) ≡ ((r >>= λ _. Ok (item ∷ [])) >>= each_read (f spot))
  unfolding each_read
  one_read item y is x4 = search rules

  -- what a name is read as that is the text of a list
  one_listed : (most : ℕ) (bounds : Bounds) (line : ℕ) (text : List ℕ) (y : B) → is_name text ≡ true
      → f spot (item_at line text) ≡ Ok y
      → (count_at most bounds spot 1 >>= λ _. Ok (y ∷ [])) ≡ listed_at f most bounds spot (scalar line text)
  one_listed most bounds line text y named is =
      one_read (item_at line text) y is (count_at most bounds spot 1)
      ∙ sym (ap (λ (r : Result (List Item) RowsFault). r >>= each_read (f spot))
      (one_items most bounds line text named))

  pub one_name : (most : ℕ) (bounds : Bounds) (node : Node) (text : List ℕ) (y : B) → text_in node ≡ Some text
      → is_name text ≡ true → f spot (item_at (line_of node) text) ≡ Ok y
      → (count_at most bounds spot 1 >>= λ _. Ok (y ∷ [])) ≡ listed_at f most bounds spot node
  one_name most bounds x3 text y here named is = search (rules, same_Some, one_listed, none-some)

pub one_written : (most : ℕ) (bounds : Bounds) (spot : Spot) (node : Node) (text : List ℕ) → text_in node ≡ Some text
    → is_name text ≡ true
    → (count_at most bounds spot 1 >>= λ _. Ok (written_at (line_of node) text ∷ []))
    ≡ listed_at written_in most bounds spot node
unfolding written_in
one_written most bounds spot node text here named =
    one_name written_in spot most bounds node text (written_at (line_of node) text) here named (rw named refl)

pub one_handled : (most : ℕ) (bounds : Bounds) (spot : Spot) (node : Node) (text : List ℕ) → text_in node ≡ Some text
    → is_name text ≡ true
    → (count_at most bounds spot 1 >>= λ _. Ok
    (handled_at (line_of node) (record { name = text; condition = None }) ∷ []))
    ≡ listed_at handled_in most bounds spot node
unfolding handled_in
one_handled most bounds spot node text here named =
    one_name handled_in spot most bounds node text
    (handled_at (line_of node) (record { name = text; condition = None })) here named
    (rw (name_is_event text named) refl)

-- a name is a step: the event of this name, handled always
pub one_step : (spot : Spot) (node : Node) (text : List ℕ) (w : WrittenName) → text_in node ≡ Some text
    → is_name text ≡ true → w ≡ written_at (line_of node) text
    → listed_at handled_in most_items (at_least 1) spot node
    ≡ Ok (handled_at w.line (record { name = w.text; condition = None }) ∷ [])
unfolding count_at
one_step spot node text w here named is =
    sym (ap step_said is ∙ one_handled most_items (at_least 1) spot node text here named)
  where
    step_said : WrittenName → Result (List HandledEvent) RowsFault
    step_said v = Ok (handled_at v.line (record { name = v.text; condition = None }) ∷ [])
