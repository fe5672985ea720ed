-- Names of modes, of which each is taken once.
use Rattle.std.proofs.Common.{rules, ◌≡◌, ℕ, Bool, true, false, not, ◌||◌, List, [], ◌∷◌, refl, ap}
use Rattle.std.{specs.Str.bytes_eq, proofs.lemmas.Bool.not-true}
use Rattle.yaml_subset.specs.Keys.{is_among}
use Rattle.config_faults.specs.Faults.{Spot}
use Rattle.mpf_config.specs.{BundleText.machine_owner, Rows.WrittenName, Reading.modes_new_at}

-- which names were taken matters, and not in which order
abbrev SameNames : List (List ℕ) → List (List ℕ) → Type 0
SameNames names others = (q : List ℕ) → is_among names q ≡ is_among others q

same_step : (names others : List (List ℕ)) (k : List ℕ) → SameNames names others → SameNames (k ∷ names) (k ∷ others)
same_step names others k h q = ap (λ (b : Bool). bytes_eq k q || b) (h q)

same_new : (spot : Spot) (names others : List (List ℕ)) (ws : List WrittenName) → SameNames names others
    → modes_new_at spot names ws ≡ modes_new_at spot others ws
same_new spot names others [] h = refl
same_new spot names others (w ∷ ws) h =
    rw (h w.text, same_new spot (w.text ∷ names) (w.text ∷ others) ws (same_step names others w.text h)) refl

-- a name that is neither the machine's nor taken
pub takes_next : (spot : Spot) (names known : List (List ℕ)) (taken : Bool) (w : WrittenName)
    (ws all : List WrittenName) → all ≡ w ∷ ws → bytes_eq w.text machine_owner ≡ false
    → taken ≡ not (is_among names w.text) → taken ≡ true
    → ((q : List ℕ) → is_among known q ≡ (bytes_eq w.text q || is_among names q))
    → modes_new_at spot known ws ≡ modes_new_at spot names all
takes_next spot names known taken w ws all e other fresh is k = search (rules, not-true, same_new)
