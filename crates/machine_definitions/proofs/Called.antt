-- What holds of each coil holds of one that is called by its name.
use Rattle.std.proofs.Common.{◌≡◌, ℕ, Bool, true, false, if◌then◌else◌, List, [], ◌∷◌, fold, Option, Some, None, IfSome}
use Rattle.std.proofs.{Common.subst, lemmas.List.Elements.{All-head, All-tail}}
use Rattle.std.specs.{List.{All, flat_map}, Str.bytes_eq}
use Rattle.mpf_sections.specs.{Rows.{Coil, SectionRows}, TypedCoils.coils_in}
use Rattle.machine_definitions.specs.Definitions.{latest_coil, coil_called}

module _ (P : Coil → Type 0) where
  either : (b : Bool) (c : Coil) (found : Option Coil) → P c → IfSome found P → IfSome (if b then Some c else found) P
  either true c found p h = p
  either false c found p h = h

  latest-all : (name : List ℕ) (found : Option Coil) (cs : List Coil) → IfSome found P → All P cs
      → IfSome (fold (latest_coil name) found cs) P
  latest-all name found [] h all = h
  latest-all name found (c ∷ cs) h all = latest-all name (latest_coil name found c) cs
      (either (bytes_eq name c.name.text) c found (All-head P c cs all) h) (All-tail P c cs all)

  pub called-such : (machine : List SectionRows) (name : List ℕ) (c : Coil) → All P (flat_map coils_in machine)
      → coil_called machine name ≡ Some c → P c
  called-such machine name c all is = subst (λ (o : Option Coil). IfSome o P) is
      (latest-all name None (flat_map coils_in machine) tt all)
