-- Handled events are read as they are written.
use Rattle.std.proofs.Common.{rules, ◌≡◌, ℕ, Bool, true, false, cond, eqb, List, [], ◌∷◌, ◌++◌, length, Option, Some}
use Rattle.std.proofs.Common.{None, ℤ, codes, refl, sym, ap, subst, ◌∙◌, inl, inr, arith, take-append-drop}
use Rattle.std.specs.Str.{bytes_eq}
use Rattle.std.proofs.lemmas.{Bool.{eqb-true, ne_eqb}, Option.{same_Some, cond_some}, Slice.Eq.bytes_eq-Decides}
use Rattle.yaml_bytes.{specs.{Bytes.is_blank, Plain.{Are, AreBlank}, Numbers.AreDigits}, proofs.Steps.chosen}
use Rattle.mpf_values.specs.declared.handled.Comparison.{Comparison, TheVariants.GreaterOrEqual}
use Rattle.mpf_values.specs.{Integers.{with_sign, IsInteger}, Names.IsName}
use Rattle.mpf_values.specs.declared.handled.Comparison.TheVariants.{Equal, NotEqual, Less, LessOrEqual, Greater}
use Rattle.mpf_values.specs.Bytes.{is_name_byte, is_operator_byte, is_word_byte}
use Rattle.mpf_values.specs.Events.{EventCondition, Event, IsOperator, equal, not_equal, less, less_or_equal, greater}
use Rattle.mpf_values.specs.Events.{greater_or_equal, IsCondition, IsUnder, IsEvent}
use Rattle.mpf_values.specs.Reading.{◌>>=◌, front, behind, name_at, integer_at, behind_word, variable_at, operator_at}
use Rattle.mpf_values.specs.Reading.{comparison_at, last_integer_at, condition_at, event_at}
use Rattle.mpf_values.proofs.{Steps.{bind_some, guard_true}, NameTexts.{name_sound, name_complete}}
use Rattle.mpf_values.proofs.Fronts.{begins, parts, are_front, front_is, behind_is, begins_behind, no_bytes}
use Rattle.mpf_values.proofs.ByteKinds.{no_blank, digit_is_no_blank, digit_is_no_operator, digits_are_word}
use Rattle.mpf_values.proofs.{IntegerTexts.integer_computes, Computing.Computes}

-- ---- words

word_sound : (word text rest : List ℕ) → behind_word word text ≡ Some rest → text ≡ word ++ rest
word_sound word text rest e = search (rules, cond_some, bytes_eq-Decides, take-append-drop)

-- ---- operators

operator_is : (text word : List ℕ) (c d : Comparison) → bytes_eq text word ≡ true → IsOperator word d → Some d ≡ Some c
    → IsOperator text c
operator_is text word c d e h is = rw ((bytes_eq-Decides text word).0 e, ← same_Some d c is) h

operator_sound : (text : List ℕ) (c : Comparison) → operator_at text ≡ Some c → IsOperator text c
unfolding operator_at
operator_sound text c e =
    let last : Option Comparison = cond (bytes_eq text (codes ">=")) (Some GreaterOrEqual) None in
    let at_greater : Option Comparison = cond (bytes_eq text (codes ">")) (Some Greater) last in
    let at_less_or_equal : Option Comparison = cond (bytes_eq text (codes "<=")) (Some LessOrEqual) at_greater in
    let at_less : Option Comparison = cond (bytes_eq text (codes "<")) (Some Less) at_less_or_equal in
    let at_not_equal : Option Comparison = cond (bytes_eq text (codes "!=")) (Some NotEqual) at_less in
    elim (chosen (bytes_eq text (codes "==")) (Some Equal) at_not_equal (Some c) e) [
      | inl a ↦ operator_is text (codes "==") c Equal a.0 equal a.1
      | inr b ↦ elim (chosen (bytes_eq text (codes "!=")) (Some NotEqual) at_less (Some c) b.1) [
        | inl a ↦ operator_is text (codes "!=") c NotEqual a.0 not_equal a.1
        | inr d ↦ elim (chosen (bytes_eq text (codes "<")) (Some Less) at_less_or_equal (Some c) d.1) [
          | inl a ↦ operator_is text (codes "<") c Less a.0 less a.1
          | inr f ↦ elim (chosen (bytes_eq text (codes "<=")) (Some LessOrEqual) at_greater (Some c) f.1) [
            | inl a ↦ operator_is text (codes "<=") c LessOrEqual a.0 less_or_equal a.1
            | inr g ↦ elim (chosen (bytes_eq text (codes ">")) (Some Greater) last (Some c) g.1) [
              | inl a ↦ operator_is text (codes ">") c Greater a.0 greater a.1
              | inr h ↦
                  let a = guard_true (bytes_eq text (codes ">=")) (Some GreaterOrEqual) c h.1 in
                  operator_is text (codes ">=") c GreaterOrEqual a.0 greater_or_equal a.1
            ]
          ]
        ]
      ]
    ]

operator_complete : {text : List ℕ} {c : Comparison} → IsOperator text c → operator_at text ≡ Some c
unfolding operator_at
operator_complete x1 = search rules

-- an operator is bytes of one, and begins no blank and no name
record Operator (text : List ℕ) : Type 0 where
  bytes : Are is_operator_byte text
  blank : (rest : List ℕ) → begins is_blank (text ++ rest) ≡ false
  name : (rest : List ℕ) → begins is_name_byte (text ++ rest) ≡ false

operator_bytes : {text : List ℕ} {c : Comparison} → IsOperator text c → Operator text
operator_bytes equal = record { bytes = (refl, (refl, tt)); blank = λ rest. refl; name = λ rest. refl }
operator_bytes not_equal = record { bytes = (refl, (refl, tt)); blank = λ rest. refl; name = λ rest. refl }
operator_bytes less = record { bytes = (refl, tt); blank = λ rest. refl; name = λ rest. refl }
operator_bytes less_or_equal = record { bytes = (refl, (refl, tt)); blank = λ rest. refl; name = λ rest. refl }
operator_bytes greater = record { bytes = (refl, tt); blank = λ rest. refl; name = λ rest. refl }
operator_bytes greater_or_equal = record { bytes = (refl, (refl, tt)); blank = λ rest. refl; name = λ rest. refl }

-- ---- integers

-- an integer has no blank and no brace, and begins no operator
record Integer (text : List ℕ) : Type 0 where
  bytes : Are is_word_byte text
  blank : (rest : List ℕ) → begins is_blank (text ++ rest) ≡ false
  operator : (rest : List ℕ) → begins is_operator_byte (text ++ rest) ≡ false

signed_bytes : (negative : Bool) (digits : List ℕ) → AreDigits digits → Integer (with_sign negative digits)
signed_bytes true digits h =
    record { bytes = (refl, digits_are_word digits h.each); blank = λ rest. refl; operator = λ rest. refl }
signed_bytes false [] h = absurd (omega (arith, h.some))
signed_bytes false (d ∷ ds) h =
    record {
      bytes = digits_are_word (d ∷ ds) h.each;
      blank = λ rest. digit_is_no_blank d h.each.0;
      operator = λ rest. digit_is_no_operator d h.each.0;
    }

integer_bytes : (text : List ℕ) (n : ℤ) → IsInteger text n → Integer text
integer_bytes text n h = subst Integer (sym h.parts) (signed_bytes h.negative h.digits h.are_digits)

-- ---- what is read is a condition

-- a variable that was read
record Variable (text variable rest : List ℕ) : Type 0 where
  inside : List ℕ
  left : List ℕ
  parts : text ≡ codes "{" ++ (inside ++ (codes "current_player." ++ (variable ++ (left ++ rest))))
  inside_blank : AreBlank inside
  left_blank : AreBlank left
  is_name : IsName variable

variable_sound : (text : List ℕ) (r : List ℕ × List ℕ) → variable_at text ≡ Some r → Variable text r.0 r.1
unfolding variable_at
variable_sound text r e =
    let named_from : List ℕ → Option (List ℕ × List ℕ) =
    λ (at_name : List ℕ). name_at (front is_name_byte at_name) >>= λ variable. Some
    (variable, behind is_blank (behind is_name_byte at_name)) in
    let a = bind_some (behind_word (codes "{") text)
    (λ inside. behind_word (codes "current_player.") (behind is_blank inside) >>= named_from) r e in
    let b = bind_some (behind_word (codes "current_player.") (behind is_blank a.0)) named_from r a.2 in
    let rest = behind is_name_byte b.0 in
    let d = bind_some (name_at (front is_name_byte b.0)) (λ variable. Some (variable, behind is_blank rest)) r b.2 in
    let n = name_sound (front is_name_byte b.0) d.0 d.1 in
    let tail : b.0 ≡ d.0 ++ (front is_blank rest ++ behind is_blank rest) =
    sym (parts is_name_byte b.0) ∙ ap (λ (xs : List ℕ). xs ++ rest) (sym n.0)
    ∙ ap (λ (xs : List ℕ). d.0 ++ xs) (sym (parts is_blank rest)) in
    let inner : a.0 ≡ front is_blank a.0 ++ (codes "current_player."
    ++ (d.0 ++ (front is_blank rest ++ behind is_blank rest))) =
    sym (parts is_blank a.0) ∙ ap (λ (xs : List ℕ). front is_blank a.0 ++ xs)
    (word_sound (codes "current_player.") (behind is_blank a.0) b.0 b.1
    ∙ ap (λ (xs : List ℕ). codes "current_player." ++ xs) tail) in
    let found : Variable text d.0 (behind is_blank rest) = record {
      inside = front is_blank a.0;
      left = front is_blank rest;
      parts = word_sound (codes "{") text a.0 a.1 ∙ ap (λ (xs : List ℕ). codes "{" ++ xs) inner;
      inside_blank = are_front is_blank a.0;
      left_blank = are_front is_blank rest;
      is_name = subst IsName (sym n.0) n.1;
    } in
    subst (λ (s : List ℕ × List ℕ). Variable text s.0 s.1) (same_Some (d.0, behind is_blank rest) r d.2) found

-- a comparison that was read
record Compared (text : List ℕ) (c : Comparison) (rest : List ℕ) : Type 0 where
  operator : List ℕ
  right : List ℕ
  parts : text ≡ operator ++ (right ++ rest)
  right_blank : AreBlank right
  is_operator : IsOperator operator c

comparison_sound : (text : List ℕ) (r : Comparison × List ℕ) → comparison_at text ≡ Some r → Compared text r.0 r.1
unfolding comparison_at
comparison_sound text r e =
    let rest = behind is_operator_byte text in
    let a = bind_some (operator_at (front is_operator_byte text)) (λ c. Some (c, behind is_blank rest)) r e in
    let found : Compared text a.0 (behind is_blank rest) = record {
      operator = front is_operator_byte text;
      right = front is_blank rest;
      parts = sym (parts is_operator_byte text)
          ∙ ap (λ (xs : List ℕ). front is_operator_byte text ++ xs) (sym (parts is_blank rest));
      right_blank = are_front is_blank rest;
      is_operator = operator_sound (front is_operator_byte text) a.0 a.1;
    } in
    subst (λ (s : Comparison × List ℕ). Compared text s.0 s.1) (same_Some (a.0, behind is_blank rest) r a.2) found

-- a last integer that was read
record LastInteger (text : List ℕ) (n : ℤ) : Type 0 where
  number : List ℕ
  after : List ℕ
  parts : text ≡ number ++ (after ++ codes "}")
  after_blank : AreBlank after
  is_number : IsInteger number n

last_integer_sound : (text : List ℕ) (n : ℤ) → last_integer_at text ≡ Some n → LastInteger text n
unfolding last_integer_at
last_integer_sound text n e =
    let rest = behind is_word_byte text in
    let a = bind_some (integer_at (front is_word_byte text))
    (λ m. cond (bytes_eq (behind is_blank rest) (codes "}")) (Some m) None) n e in
    let b = cond_some (bytes_eq (behind is_blank rest) (codes "}")) a.0 n a.2 in
    let closing : behind is_blank rest ≡ codes "}" = (bytes_eq-Decides (behind is_blank rest) (codes "}")).0 b.0 in
    let tail : rest ≡ front is_blank rest ++ codes "}" = sym (parts is_blank rest)
    ∙ ap (λ (xs : List ℕ). front is_blank rest ++ xs) closing in
    record {
      number = front is_word_byte text;
      after = front is_blank rest;
      parts = sym (parts is_word_byte text) ∙ ap (λ (xs : List ℕ). front is_word_byte text ++ xs) tail;
      after_blank = are_front is_blank rest;
      is_number = subst (IsInteger (front is_word_byte text)) b.1
          ((integer_computes (front is_word_byte text)).sound a.0 a.1);
    }

condition_sound : (text : List ℕ) (c : EventCondition) → condition_at text ≡ Some c → IsCondition text c
unfolding condition_at
condition_sound text c e =
    let from_variable : List ℕ × List ℕ → Option EventCondition =
    λ (v : List ℕ × List ℕ). comparison_at v.1 >>= λ d. last_integer_at d.1 >>= λ n. Some
    (record { variable = v.0; comparison = d.0; number = n }) in
    let a = bind_some (variable_at text) from_variable c e in
    let v = variable_sound text a.0 a.1 in
    let b = bind_some (comparison_at a.0.1)
    (λ d. last_integer_at d.1 >>= λ n. Some (record { variable = a.0.0; comparison = d.0; number = n })) c a.2 in
    let o = comparison_sound a.0.1 b.0 b.1 in
    let d = bind_some (last_integer_at b.0.1) (λ n. Some (record { variable = a.0.0; comparison = b.0.0; number = n }))
    c b.2 in
    let i = last_integer_sound b.0.1 d.0 d.1 in
    let tail : a.0.1 ≡ o.operator ++ (o.right ++ (i.number ++ (i.after ++ codes "}"))) = o.parts
    ∙ ap (λ (xs : List ℕ). o.operator ++ (o.right ++ xs)) i.parts in
    let found : IsCondition text (record { variable = a.0.0; comparison = b.0.0; number = d.0 }) = record {
      inside = v.inside;
      left = v.left;
      operator = o.operator;
      right = o.right;
      number = i.number;
      after = i.after;
      parts = v.parts
          ∙ ap (λ (xs : List ℕ). codes "{" ++ (v.inside ++ (codes "current_player." ++ (a.0.0 ++ (v.left ++ xs)))))
          tail;
      inside_blank = v.inside_blank;
      left_blank = v.left_blank;
      right_blank = o.right_blank;
      after_blank = i.after_blank;
      is_variable = v.is_name;
      is_operator = o.is_operator;
      is_number = i.is_number;
    } in
    subst (IsCondition text) (same_Some (record { variable = a.0.0; comparison = b.0.0; number = d.0 }) c d.2) found

-- ---- a condition is read

variable_complete : (inside variable left rest : List ℕ) → AreBlank inside → IsName variable → AreBlank left
    → begins is_name_byte (left ++ rest) ≡ false → begins is_blank rest ≡ false
    → variable_at (codes "{" ++ (inside ++ (codes "current_player." ++ (variable ++ (left ++ rest)))))
    ≡ Some (variable, rest)
unfolding variable_at
variable_complete inside variable left rest are h blank ends stop =
    rw (
      behind_is is_blank inside (codes "current_player." ++ (variable ++ (left ++ rest))) are refl,
      front_is is_name_byte variable (left ++ rest) h.bytes ends,
      behind_is is_name_byte variable (left ++ rest) h.bytes ends,
      name_complete variable h,
      behind_is is_blank left rest blank stop,
    ) refl

comparison_complete : (operator right rest : List ℕ) (c : Comparison) → IsOperator operator c → AreBlank right
    → begins is_operator_byte rest ≡ false → begins is_blank rest ≡ false
    → comparison_at (operator ++ (right ++ rest)) ≡ Some (c, rest)
unfolding comparison_at
comparison_complete operator right rest c h blank ends stop =
    let o = operator_bytes h in
    let other = begins_behind is_blank is_operator_byte right rest (no_blank is_operator_byte refl refl) blank ends in
    rw (
      front_is is_operator_byte operator (right ++ rest) o.bytes other,
      behind_is is_operator_byte operator (right ++ rest) o.bytes other,
      operator_complete h,
      behind_is is_blank right rest blank stop,
    ) refl

last_integer_complete : (number after : List ℕ) (n : ℤ) → IsInteger number n → AreBlank after
    → last_integer_at (number ++ (after ++ codes "}")) ≡ Some n
unfolding last_integer_at
last_integer_complete number after n h blank =
    let i = integer_bytes number n h in
    let other = begins_behind is_blank is_word_byte after (codes "}") (no_blank is_word_byte refl refl) blank refl in
    rw (
      front_is is_word_byte number (after ++ codes "}") i.bytes other,
      behind_is is_word_byte number (after ++ codes "}") i.bytes other,
      (integer_computes number).complete n h,
      behind_is is_blank after (codes "}") blank refl,
    ) refl

condition_complete : (text : List ℕ) (c : EventCondition) → IsCondition text c → condition_at text ≡ Some c
unfolding condition_at
condition_complete text c h =
    let last = h.number ++ (h.after ++ codes "}") in
    let tail = h.operator ++ (h.right ++ last) in
    let o = operator_bytes h.is_operator in
    let i = integer_bytes h.number c.number h.is_number in
    let ends = begins_behind is_blank is_name_byte h.left tail (no_blank is_name_byte refl refl) h.left_blank
    (o.name (h.right ++ last)) in
    let variable = variable_complete h.inside c.variable h.left tail h.inside_blank h.is_variable h.left_blank ends
    (o.blank (h.right ++ last)) in
    let comparison = comparison_complete h.operator h.right last c.comparison h.is_operator h.right_blank
    (i.operator (h.after ++ codes "}")) (i.blank (h.after ++ codes "}")) in
    let integer = last_integer_complete h.number h.after c.number h.is_number h.after_blank in
    rw (ap variable_at h.parts ∙ variable, comparison, integer) refl

-- ---- events

event_sound : (text : List ℕ) (e : Event) → event_at text ≡ Some e → IsEvent text e
unfolding event_at
event_sound text e is =
    let rest = behind is_name_byte text in
    let with_condition : List ℕ → Option Event =
    λ (name : List ℕ). condition_at rest >>= λ c. Some (record { name = name; condition = Some c }) in
    let a = bind_some (name_at (front is_name_byte text))
    (λ name. cond (eqb (length rest) 0) (Some (record { name = name; condition = None })) (with_condition name)) e
    is in
    let n = name_sound (front is_name_byte text) a.0 a.1 in
    let name : IsName a.0 = subst IsName (sym n.0) n.1 in
    let whole : text ≡ a.0 ++ rest = sym (parts is_name_byte text) ∙ ap (λ (xs : List ℕ). xs ++ rest) (sym n.0) in
    elim (chosen (eqb (length rest) 0) (Some (record { name = a.0; condition = None })) (with_condition a.0) (Some e)
    a.2) [
      | inl b ↦
          let nothing : rest ≡ [] = no_bytes rest (eqb-true (length rest) 0 b.0) in
          subst (IsEvent text) (same_Some (record { name = a.0; condition = None }) e b.1)
          (record { rest = rest; parts = whole; is_name = name; is_under = nothing })
      | inr b ↦
          let d = bind_some (condition_at rest) (λ c. Some (record { name = a.0; condition = Some c })) e b.1 in
          subst (IsEvent text) (same_Some (record { name = a.0; condition = Some d.0 }) e d.2)
          (record { rest = rest; parts = whole; is_name = name; is_under = condition_sound rest d.0 d.1 })
    ]

under_complete : (name rest : List ℕ) (o : Option EventCondition) → IsName name → IsUnder rest o
    → event_at (name ++ rest) ≡ Some (record { name = name; condition = o })
unfolding event_at
under_complete name rest None h none =
    rw (
      none,
      front_is is_name_byte name [] h.bytes refl,
      behind_is is_name_byte name [] h.bytes refl,
      name_complete name h,
    ) refl
under_complete name rest (Some c) h is =
    let brace : begins is_name_byte rest ≡ false = rw is.parts refl in
    let some : eqb (length rest) 0 ≡ false = rw is.parts (ne_eqb _ 0 (λ e. omega arith)) in
    rw (
      front_is is_name_byte name rest h.bytes brace,
      behind_is is_name_byte name rest h.bytes brace,
      name_complete name h,
      some,
      condition_complete rest c is,
    ) refl

event_complete : (text : List ℕ) (e : Event) → IsEvent text e → event_at text ≡ Some e
event_complete text e h = ap event_at h.parts ∙ under_complete e.name h.rest e.condition h.is_name h.is_under

pub event_computes : (text : List ℕ) → Computes (event_at text) (IsEvent text)
event_computes text = record { sound = event_sound text; complete = event_complete text }
