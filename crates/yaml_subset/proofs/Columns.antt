-- What comes after the `-` of a line, as a line at its own column.
use Rattle.std.proofs.{Common.{◌≡◌, ℕ, suc, ◌+◌, List, ◌∷◌, drop, sym, ap, ◌∙◌, arith}, lemmas.List.drop-drop}
use Rattle.yaml_subset.specs.declared.line.TextLine as lines
use Rattle.yaml_bytes.specs.Scanning.{spaces_len}
use Rattle.yaml_subset.specs.{TextLines.TextLine, Reading.inner, ParserViews.line_view}

pub inner_is : (l : lines.TextLine) (after : List ℕ) (spaces : ℕ) → drop l.indent l.raw.now ≡ 45 ∷ after
    → spaces ≡ spaces_len after
    → line_view (record { number = l.number; indent = l.indent + 1 + spaces; raw = l.raw }) ≡ inner (line_view l) after
inner_is l after spaces parts len =
    let raw = l.raw.now in
    let column : l.indent + 1 + spaces ≡ l.indent + (1 + spaces) = omega arith in
    let next : l.indent + (1 + spaces) ≡ l.indent + suc spaces = omega arith in
    let text : drop (l.indent + (1 + spaces)) raw ≡ drop spaces after =
    ap (λ k. drop k raw) next ∙ sym (drop-drop (suc spaces) l.indent raw) ∙ ap (drop (suc spaces)) parts in
    let at : ℕ → TextLine = λ i. record { number = l.number; indent = i; text = drop i raw } in
    let reads : List ℕ → TextLine = λ xs. record { number = l.number; indent = l.indent + (1 + spaces); text = xs } in
    let of : ℕ → TextLine = λ n. record { number = l.number; indent = l.indent + (1 + n); text = drop n after } in
    ap at column ∙ ap reads text ∙ ap of len
