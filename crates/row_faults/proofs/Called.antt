-- A shot that the sections of a text define is found among those of all texts.
use Rattle.std.proofs.Common.{rules, ◌≡◌, ℕ, Bool, true, false, ◌||◌, if◌then◌else◌, List, [], ◌∷◌, ◌++◌, fold, Option}
use Rattle.std.proofs.{Common.{Some, None, is_some, sym, ap, ◌∙◌}, lemmas.List.Elements.{All-nil, All-cons, All-weaker}}
use Rattle.std.specs.{List.{All, flat_map, list_any}, Str.bytes_eq}
use Rattle.std.proofs.lemmas.List.{Concat.flat_map-append, Folds.list_any-append}
use Rattle.mpf_sections.specs.{Rows.{Shot, SectionRows}, TypedShots.shots_in}
use Rattle.mpf_config.specs.Rows.{ModeRows, Rows}
use Rattle.machine_definitions.specs.Shots.{all_sections, latest_shot, shot_called}
use Rattle.row_faults.specs.ShotFaults.{is_own_shot}

module _ (name : List ℕ) where
  abbrev has_it : Shot → Bool
  has_it s = bytes_eq name s.name.text

  either-some : (b : Bool) (s : Shot) (found : Option Shot)
      → is_some (if b then Some s else found) ≡ (is_some found || b)
  either-some x1 s x3 = search rules

  or-around : (a b c : Bool) → ((a || b) || c) ≡ (a || (b || c))
  or-around x1 b c = search rules

  or-none : (a : Bool) → (a || false) ≡ a
  or-none x1 = search rules

  latest-some : (found : Option Shot) (ss : List Shot)
      → is_some (fold (latest_shot name) found ss) ≡ (is_some found || list_any has_it ss)
  latest-some found [] = sym (or-none (is_some found))
  latest-some found (s ∷ ss) =
      search (rules, either-some, or-around, is_some, latest-some (latest_shot name found s) ss)

  or-left : (a b : Bool) → a ≡ true → (a || b) ≡ true
  or-left x1 b e = search rules

  or-right : (a b : Bool) → b ≡ true → (a || b) ≡ true
  or-right x1 b e = search rules

  -- shots of some sections, and of more
  own-append : (some more : List SectionRows)
      → is_own_shot (some ++ more) name ≡ (is_own_shot some name || is_own_shot more name)
  own-append some more = ap (list_any has_it) (flat_map-append shots_in some more)
      ∙ list_any-append has_it (flat_map shots_in some) (flat_map shots_in more)

  abbrev sections_of : List ModeRows → List SectionRows
  sections_of ms = flat_map (λ m. m.sections) ms

  own-of-modes : (ms : List ModeRows) → All
      (λ m. is_own_shot m.sections name ≡ true → is_own_shot (sections_of ms) name ≡ true) ms
  own-of-modes [] = All-nil (λ m. is_own_shot m.sections name ≡ true → is_own_shot (sections_of []) name ≡ true)
  own-of-modes (m ∷ ms) = search (rules, All-cons, own-append, or-left, All-weaker, or-right, own-of-modes ms)

  called-some : (rows : Rows) → is_some (shot_called rows name)
      ≡ (is_own_shot rows.machine name || is_own_shot (sections_of rows.modes) name)
  called-some rows = latest-some None (flat_map shots_in (all_sections rows))
      ∙ own-append rows.machine (sections_of rows.modes)

  pub machine-called : (rows : Rows) → is_own_shot rows.machine name ≡ true → is_some (shot_called rows name) ≡ true
  machine-called rows own = called-some rows
      ∙ or-left (is_own_shot rows.machine name) (is_own_shot (sections_of rows.modes) name) own

  pub mode-called : (rows : Rows) → All (λ m. is_own_shot m.sections name ≡ true
      → is_some (shot_called rows name) ≡ true) rows.modes
  mode-called rows = search (rules, All-weaker, is_some, called-some, or-right, own-of-modes)
