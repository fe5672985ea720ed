use Rattle.std.proofs.Common.{◌≡◌, ◌==◌, true, List, [], ◌∷◌, ◌++◌, ◌+◌, length, map, drop, refl, sym, ap, ◌∙◌, arith}
use Rattle.std.{specs.List.flat_map, proofs.lemmas.Bool.eqb-true}
use Rattle.mpf_sections.specs.{Rows.SectionRows, Typed.entries_of, View.{entry_view, section_view}}
use Rattle.mpf_sections.specs.TypedShots.{shot_groups_name, shot_group_of, shot_groups_in}
use Rattle.machine_definitions.proofs.Finding.{next-is}
use Rattle.row_faults.proofs.shot_faults.have_no_groups.Goals as goal

none_of : {X : Type 0} (xs : List X) → (length xs == 0) ≡ true → xs ≡ []
none_of [] e = refl
none_of (x ∷ xs) e = absurd (omega (arith, eqb-true (length (x ∷ xs)) 0 e))

no_groups : (s : SectionRows) → entries_of shot_groups_name s ≡ [] → shot_groups_in s ≡ []
unfolding shot_groups_in
no_groups s none = ap (map shot_group_of) none

pub loop-section-preserved : goal.loop-section-preserved
loop-section-preserved c =
    let l = c.loop-section in
    let entries = c.entries_of.result.now in
    let none : entries ≡ [] = none_of entries (sym c.is_empty.ensures ∙ c.if-not-is_empty.false) in
    let here = no_groups (section_view c.section-item.result) (sym c.entries_of.ensures ∙ ap (map entry_view) none) in
    let rest = flat_map shot_groups_in (map section_view (drop (l.section-index + 1) c.args.sections.now)) in
    ap (λ (own : List _). own ++ rest) (sym here)
    ∙ next-is (λ (sections : List _). flat_map shot_groups_in (map section_view sections)) c.args.sections.now
    l.section-index c.section-item.result c.loop-section-test.true c.section-item.is
    ∙ l.invariant
