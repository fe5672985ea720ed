-- The lines with content are those that reading finds.
use Rattle.std.proofs.Common.{rules, ◌≡◌, ℕ, ◌+◌, cond, List, [], ◌∷◌, ◌++◌, length, Option, Some, None, Result, Ok}
use Rattle.std.{proofs.Common.{refl, sym, ap, subst, ◌∙◌, inl, inr}, specs.Option.option_to_list}
use Rattle.yaml_subset.specs.{declared.place.PlacedFault.PlacedFault, Placed.fault_at}
use Rattle.yaml_subset.specs.declared.fault.TextFaultKind.TheVariants.{NotInSubset, Tab}
use Rattle.yaml_bytes.specs.Bytes.{begins_blank, is_over, is_document_marker}
use Rattle.yaml_subset.{specs.TextLines.{TextLine, Holds, HaveContent}, proofs.Blemishes.{clean_sound, clean_complete}}
use Rattle.yaml_bytes.specs.Scanning.{behind_blanks, spaces_len, behind_spaces}
use Rattle.yaml_subset.specs.Reading.{content_at, blemish_at, add_line, contents_from}
use Rattle.yaml_bytes.proofs.{Steps.{guard_false, chosen, ok_is}, PlainTexts.{is_behind_blanks, behind_blanks-is}}
use Rattle.yaml_bytes.proofs.Spaces.{spaces_parts, spaces_len-is, drop_spaces, blanks_are_spaces}

-- ---- one line

abbrev found_at : ℕ → List ℕ → TextLine
found_at n raw = record { number = n; indent = spaces_len raw; text = behind_spaces raw }

content_sound : (n : ℕ) (raw : List ℕ) (found : Option TextLine) → content_at n raw ≡ Ok found → Holds n raw found
unfolding content_at
content_sound n raw found e =
    let made : Result (Option TextLine) PlacedFault =
    cond (is_document_marker raw) (fault_at NotInSubset n (length raw)) (Ok (Some (found_at n raw))) in
    let indented : Result (Option TextLine) PlacedFault =
    cond (begins_blank (behind_spaces raw)) (fault_at Tab n (length (behind_spaces raw))) made in
    elim (chosen (is_over (behind_blanks raw)) (Ok None) indented (Ok found) e) [
      | inl p ↦ subst (Holds n raw) (ok_is None found p.1) (behind_blanks raw, is_behind_blanks raw, p.0)
      | inr p ↦
          let t = guard_false (begins_blank (behind_spaces raw)) made
          (record { kind = Tab; line = n; bytes_left = length (behind_spaces raw) }) found p.1 in
          let m = guard_false (is_document_marker raw) (Ok (Some (found_at n raw)))
          (record { kind = NotInSubset; line = n; bytes_left = length raw }) found t.1 in
          let same = blanks_are_spaces raw (behind_spaces raw) (spaces_len raw) (spaces_parts raw) t.0 in
          subst (Holds n raw) (ok_is (Some (found_at n raw)) found m.1) (
            refl,
            record {
              parts = spaces_parts raw;
              no_more = t.0;
              not_over = ap is_over (sym same)
                  ∙ p.0;
              no_marker = m.0;
            },
          )
    ]

content_complete : (n : ℕ) (raw : List ℕ) (found : Option TextLine) → Holds n raw found → content_at n raw ≡ Ok found
unfolding content_at
content_complete n raw None h = rw (behind_blanks-is raw h.0 h.1, h.2) refl
content_complete n raw (Some l) h = search (rules, spaces_len-is, drop_spaces, blanks_are_spaces)

-- ---- all lines

add_none : (r : Result (Option TextLine) PlacedFault) (blemish : Option PlacedFault)
    (rest : List TextLine × Option PlacedFault) (lines : List TextLine) → add_line r blemish rest ≡ (lines, None)
    → (found : Option TextLine) × (r ≡ Ok found) × (blemish ≡ None) × (rest.1 ≡ None)
    × (lines ≡ option_to_list found ++ rest.0)
add_none x1 x2 rest lines e = search rules

pub contents_sound : (n : ℕ) (raws : List (List ℕ)) (lines : List TextLine) → contents_from n raws ≡ (lines, None)
    → HaveContent n raws lines
unfolding contents_from
contents_sound n [] lines e = sym (ap (λ (p : List TextLine × Option PlacedFault). p.0) e)
contents_sound n (raw ∷ raws) lines e =
    let a = add_none (content_at n raw) (blemish_at n raw) (contents_from (n + 1) raws) lines e in
    let rest = (contents_from (n + 1) raws).0 in
    let k : contents_from (n + 1) raws ≡ (rest, None) = ap (λ (f : Option PlacedFault). (rest, f)) a.3 in
    let clean = clean_sound n raw a.2 in (
      a.0,
      rest,
      record { utf8 = clean.0; is_allowed = clean.1; holds = content_sound n raw a.0 a.1 },
      contents_sound (n + 1) raws rest k,
      a.4,
    )

pub contents_complete : (n : ℕ) (raws : List (List ℕ)) (lines : List TextLine) → HaveContent n raws lines
    → contents_from n raws ≡ (lines, None)
unfolding contents_from
contents_complete n [] lines h = rw h refl
contents_complete n (raw ∷ raws) lines h =
    rw (
      content_complete n raw h.0 h.2.holds,
      clean_complete n raw h.2.utf8 h.2.is_allowed,
      contents_complete (n + 1) raws h.1 h.3,
      h.4,
    ) refl

pub one_content : (n : ℕ) (raws : List (List ℕ)) (lines others : List TextLine) → HaveContent n raws lines
    → HaveContent n raws others → lines ≡ others
one_content n raws lines others h k = ap (λ (p : List TextLine × Option PlacedFault). p.0)
    (sym (contents_complete n raws lines h) ∙ contents_complete n raws others k)
