-- The items of a list text, one after the other.
use Rattle.std.proofs.Common.{rules, ◌≡◌, ℕ, ◌+◌, ◌≤◌, ◌<◌, ◌==◌, Bool, true, false, List, [], ◌∷◌, length, take, drop}
use Rattle.std.proofs.{Common.{refl, sym, ap, subst, ◌∙◌, arith}, lemmas.Bool.eqb-true}
use Rattle.mpf_values.specs.{Bytes.is_separator, ListText.{open_after, ends_item}}
use Rattle.mpf_values.specs.Reading.{behind, onto_items, items_from, items_of, item_len}
use Rattle.mpf_values.proofs.Fronts.{begins, behind_yes, behind_no, stops}

-- a separator opens no brace
pub opens_none : (b : ℕ) (is_open is_close : Bool) → b == 123 ≡ is_open → b == 125 ≡ is_close → is_separator b ≡ true
    → open_after 0 b ≡ 0
opens_none b x2 x3 e d s = search rules

pub separator_step : (b : ℕ) (bs : List ℕ) → is_separator b ≡ true → items_of (b ∷ bs) ≡ items_of bs
unfolding items_of
separator_step b bs s = search rules

behind_step : (b : ℕ) (bs : List ℕ) (s : Bool) → is_separator b ≡ s → items_of bs ≡ items_of (behind is_separator bs)
    → items_of (b ∷ bs) ≡ items_of (behind is_separator (b ∷ bs))
behind_step b bs x3 e h = search (rules, separator_step, behind_yes, behind_no)

-- separators in front of a text are dropped
without_separators : (text : List ℕ) → items_of text ≡ items_of (behind is_separator text)
without_separators [] = refl
without_separators (b ∷ bs) = behind_step b bs (is_separator b) refl (without_separators bs)

-- none comes first after them
first_is_none : (text : List ℕ) (b : ℕ) (bs : List ℕ) → behind is_separator text ≡ b ∷ bs → is_separator b ≡ false
first_is_none text b bs is = subst (λ xs. begins is_separator xs ≡ false) is (stops is_separator text)

cut_step : (n b : ℕ) (bs : List ℕ) (ends : Bool) → ends_item n b ≡ ends
    → items_from (open_after n b) bs
    ≡ (take (item_len (open_after n b) bs) bs, items_of (drop (item_len (open_after n b) bs) bs))
    → (ends_item n b ≡ true → onto_items (items_from (open_after n b) bs).0 (items_from (open_after n b) bs).1
    ≡ items_of (b ∷ bs))
    → items_from n (b ∷ bs) ≡ (take (item_len n (b ∷ bs)) (b ∷ bs), items_of (drop (item_len n (b ∷ bs)) (b ∷ bs)))
cut_step n b bs x4 e h s = search rules

ends_zero : (b : ℕ) (bs : List ℕ) → ends_item 0 b ≡ true
    → onto_items (items_from (open_after 0 b) bs).0 (items_from (open_after 0 b) bs).1 ≡ items_of (b ∷ bs)
unfolding items_of
ends_zero b bs e = rw e refl

pub ends_cases : (n b : ℕ) (bs : List ℕ) (none : Bool) → n == 0 ≡ none → ends_item n b ≡ true
    → onto_items (items_from (open_after n b) bs).0 (items_from (open_after n b) bs).1 ≡ items_of (b ∷ bs)
ends_cases n b bs true z e = let is_zero : n ≡ 0 = eqb-true n 0 z in rw is_zero (ends_zero b bs (rw is_zero at e))
ends_cases n b bs false z e = absurd (let no_end : false ≡ true = rw z at e in cc)

-- when an item ends, the others begin afresh
pub ends_step : (n b : ℕ) (bs : List ℕ) → ends_item n b ≡ true
    → onto_items (items_from (open_after n b) bs).0 (items_from (open_after n b) bs).1 ≡ items_of (b ∷ bs)
ends_step n b bs e = ends_cases n b bs (n == 0) refl e

-- the item that a text begins with, and the items of the rest
cut : (n : ℕ) (text : List ℕ) → items_from n text
    ≡ (take (item_len n text) text, items_of (drop (item_len n text) text))
unfolding items_of
cut n [] = refl
cut n (b ∷ bs) = cut_step n b bs (ends_item n b) refl (cut (open_after n b) bs) (ends_step n b bs)

item_first : (b : ℕ) (bs : List ℕ) → is_separator b ≡ false
    → items_of (b ∷ bs) ≡ take (item_len 0 (b ∷ bs)) (b ∷ bs) ∷ items_of (drop (item_len 0 (b ∷ bs)) (b ∷ bs))
unfolding items_of
item_first b bs e = search (rules, cut)

item_has_bytes : (b : ℕ) (bs : List ℕ) → is_separator b ≡ false → 0 < item_len 0 (b ∷ bs)
item_has_bytes b bs e = rw e (omega arith)

-- ---- what the code goes by

pub no_item : (text rest : List ℕ) → rest ≡ behind is_separator text → length rest == 0 ≡ true → items_of text ≡ []
unfolding items_of
no_item text [] is none = without_separators text ∙ ap items_of (sym is)
no_item text (b ∷ bs) is none = let zero_long : length (b ∷ bs) ≡ 0 = eqb-true (length (b ∷ bs)) 0 none
    in absurd (omega arith)

pub first_item : (text rest item after : List ℕ) (n : ℕ) → rest ≡ behind is_separator text → length rest == 0 ≡ false
    → n ≡ item_len 0 rest → item ≡ take n rest → after ≡ drop n rest
    → items_of text ≡ item ∷ items_of after
first_item text [] item after n is some len i a = absurd cc
first_item text (b ∷ bs) item after n is some len i a = search (rules, first_is_none, without_separators, item_first)

pub first_is_shorter : (text rest after : List ℕ) (n : ℕ) → rest ≡ behind is_separator text → length rest == 0 ≡ false
    → n ≡ item_len 0 rest → length rest ≤ length text → length after + n ≡ length rest
    → length after < length text
first_is_shorter text [] after n is some len le a = absurd cc
first_is_shorter text (b ∷ bs) after n is some len le a = search (rules, first_is_none, item_has_bytes)
