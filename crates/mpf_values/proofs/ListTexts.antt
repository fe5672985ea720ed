-- The items of a list text are those that are read, and no others.
use Rattle.std.proofs.Common.{rules, ◌≡◌, ℕ, ◌==◌, Bool, true, false, List, [], ◌∷◌, ◌++◌, refl, sym, ap, subst, ◌∙◌}
use Rattle.std.proofs.lemmas.Bool.{eqb-true, and_parts}
use Rattle.yaml_bytes.specs.Plain.{Are}
use Rattle.mpf_values.specs.{Bytes.is_separator, Reading.{onto_items, onto_item, items_from, items_of}}
use Rattle.mpf_values.specs.ListText.{open_after, open_behind, ends_item, IsItemText, EndsBefore, IsListText}
use Rattle.mpf_values.proofs.ListItems.{opens_none, separator_step, ends_step}

-- no byte is a separator outside braces, if so many are open before
abbrev IsWholeFrom : ℕ → List ℕ → Type 0
IsWholeFrom n [] = Unit {0}
IsWholeFrom n (b ∷ bs) = (ends_item n b ≡ false) × IsWholeFrom (open_after n b) bs

-- a piece ends with its text, or before a separator, if so many braces are open after it
abbrev EndsFrom : ℕ → List ℕ → Type 0
EndsFrom n [] = Unit {0}
EndsFrom n (b ∷ behind) = ends_item n b ≡ true

whole_at : (n : ℕ) (item front rest : List ℕ) (b : ℕ) → IsWholeFrom n item → item ≡ front ++ b ∷ rest
    → ends_item (open_behind n front) b ≡ false
whole_at n [] [] rest b h e = absurd cc
whole_at n [] (c ∷ front) rest b h e = absurd cc
whole_at n (a ∷ item) [] rest b h e = search rules
whole_at n (a ∷ item) (c ∷ front) rest b h e =
    let same : a ≡ c = cc in
    let behind : item ≡ front ++ b ∷ rest = cc in
    rw (← same) (whole_at (open_after n a) item front rest b h.1 behind)

whole_from : (n : ℕ) (item : List ℕ) → ((front rest : List ℕ) (b : ℕ) → item ≡ front ++ b ∷ rest
    → ends_item (open_behind n front) b ≡ false) → IsWholeFrom n item
whole_from n [] h = tt
whole_from n (b ∷ bs) h = (
  h [] bs b refl,
  whole_from (open_after n b) bs
      (λ front rest c e. h (b ∷ front) rest c (ap (λ (xs : List ℕ). b ∷ xs) e)),
)

ends_from : (item behind : List ℕ) → EndsBefore item behind → EndsFrom (open_behind 0 item) behind
ends_from item [] h = tt
ends_from item (b ∷ behind) h = h

ends_before : (item behind : List ℕ) → EndsFrom (open_behind 0 item) behind → EndsBefore item behind
ends_before item [] h = tt
ends_before item (b ∷ behind) h = h

-- ---- what is read is a list text

-- what a text begins with, inside so many braces, and the list text after it
record Cut (n : ℕ) (text item : List ℕ) (items : List (List ℕ)) : Type 0 where
  behind : List ℕ
  parts : text ≡ item ++ behind
  whole : IsWholeFrom n item
  ends : EndsFrom (open_behind n item) behind
  list : IsListText behind items

from_cut : (text item : List ℕ) (items : List (List ℕ)) → Cut 0 text item items
    → IsListText text (onto_items item items)
from_cut text [] items h = subst (λ xs. IsListText xs items) (sym h.parts) h.list
from_cut text (b ∷ item) items h =
    let is_item : IsItemText (b ∷ item) =
    record { some = λ e. cc; whole = λ front rest c e. whole_at 0 (b ∷ item) front rest c h.whole e } in
    ([], h.behind, h.parts, tt, is_item, ends_before (b ∷ item) h.behind h.ends, h.list)

-- a separator in front of a list text
in_front : (b : ℕ) (bs : List ℕ) (items : List (List ℕ)) → is_separator b ≡ true → IsListText bs items
    → IsListText (b ∷ bs) items
in_front b bs [] s h = (s, h)
in_front b bs (item ∷ items) s h = (b ∷ h.0, h.1, ap (λ (xs : List ℕ). b ∷ xs) h.2, (s, h.3), h.4, h.5, h.6)

cut_step : (n b : ℕ) (bs item : List ℕ) (items : List (List ℕ)) (ends : Bool) → ends_item n b ≡ ends
    → Cut (open_after n b) bs item items
    → Cut n (b ∷ bs) (onto_item ends b (item, items)).0 (onto_item ends b (item, items)).1
cut_step n b bs item items true e h =
    let both = and_parts (n == 0) (is_separator b) e in
    let zero_is : n ≡ 0 = eqb-true n 0 both.0 in
    let none : open_after n b ≡ 0 = rw zero_is (opens_none b (b == 123) (b == 125) refl refl both.1) in
    let list = from_cut bs item items (subst (λ k. Cut k bs item items) none h) in
    record {
      behind = b ∷ bs;
      parts = refl;
      whole = tt;
      ends = e;
      list = in_front b bs (onto_items item items) both.1 list;
    }
cut_step n b bs item items false e h =
    record {
      behind = h.behind;
      parts = ap (λ (xs : List ℕ). b ∷ xs) h.parts;
      whole = (e, h.whole);
      ends = h.ends;
      list = h.list;
    }

cut_of : (n : ℕ) (text : List ℕ) → Cut n text (items_from n text).0 (items_from n text).1
cut_of n [] = record { behind = []; parts = refl; whole = tt; ends = tt; list = tt }
cut_of n (b ∷ bs) = cut_step n b bs (items_from (open_after n b) bs).0 (items_from (open_after n b) bs).1
    (ends_item n b) refl (cut_of (open_after n b) bs)

pub is_list_text : (text : List ℕ) → IsListText text (items_of text)
unfolding items_of
is_list_text text = from_cut text (items_from 0 text).0 (items_from 0 text).1 (cut_of 0 text)

-- ---- a list text is read so

none_in : (text : List ℕ) → Are is_separator text → items_of text ≡ []
unfolding items_of
none_in [] h = refl
none_in (b ∷ bs) h = separator_step b bs h.0 ∙ none_in bs h.1

skips : (before text : List ℕ) → Are is_separator before → items_of (before ++ text) ≡ items_of text
skips [] text h = refl
skips (b ∷ before) text h = separator_step b (before ++ text) h.0 ∙ skips before text h.1

piece_of : (n : ℕ) (item behind : List ℕ) → IsWholeFrom n item → EndsFrom (open_behind n item) behind
    → items_from n (item ++ behind) ≡ (item, items_of behind)
unfolding items_of
piece_of n [] [] w e = refl
piece_of n [] (b ∷ behind) w e = rw e (ap (λ (items : List (List ℕ)). ([], items)) (ends_step n b behind e))
piece_of n (b ∷ item) behind w e = rw (w.0, piece_of (open_after n b) item behind w.1 e) refl

item_in_front : (item behind : List ℕ) → IsItemText item → EndsBefore item behind
    → items_of (item ++ behind) ≡ item ∷ items_of behind
unfolding items_of
item_in_front [] behind h e = absurd (h.some refl)
item_in_front (b ∷ item) behind h e = rw (piece_of 0 (b ∷ item) behind (whole_from 0 (b ∷ item) h.whole)
    (ends_from (b ∷ item) behind e)) refl

pub one_list : (text : List ℕ) (items : List (List ℕ)) → IsListText text items → items_of text ≡ items
one_list text [] h = none_in text h
one_list text (item ∷ items) h = search (rules, skips, item_in_front, one_list h.1 items h.6)
