-- The pairs of a mapping, from a place on.
use Rattle.std.proofs.Common.{◌≡◌, ℕ, ◌+◌, ◌≤◌, ◌<◌, List, [], ◌∷◌, length, drop, get_or, add-one, ap, sym, ◌∙◌}
use Rattle.std.proofs.{Math.Seq.drop-cons, lemmas.List.drop_all}
use Rattle.yaml_subset.specs.{declared.tree.{Key.Key, Tree.Tree}, View.pair_view}
use Rattle.setting_values.specs.View.{pairs_view}

pub pairs_at : (entries : List (Key × Tree)) (i : ℕ) (entry : Key × Tree) → i < length entries
    → entry ≡ get_or entries i entry
    → pairs_view (drop i entries) ≡ pair_view entry ∷ pairs_view (drop (i + 1) entries)
pairs_at entries i entry lt is =
    let cut : drop i entries ≡ get_or entries i entry ∷ drop (i + 1) entries = rw add-one (drop-cons entries i entry lt)
    in
    ap pairs_view cut ∙ ap (λ (e : Key × Tree). pair_view e ∷ pairs_view (drop (i + 1) entries)) (sym is)

pub none_behind : (entries : List (Key × Tree)) (i : ℕ) → length entries ≤ i → pairs_view (drop i entries) ≡ []
none_behind entries i le = ap pairs_view (drop_all i entries le)
