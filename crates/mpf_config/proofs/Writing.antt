-- The line of a fault, as it is written piece by piece.
use Rattle.std.proofs.Common.{◌≡◌, ℕ, ◌≤◌, false, List, [], ◌∷◌, ◌++◌, length, take, Option, Result, OnOk, refl, ap}
use Rattle.std.proofs.{Common.{subst, append_assoc, codes}, lemmas.Bool.or_parts, KnownBytes.Appends-trans}
use Rattle.std.specs.{List.{flat_map, list_any}, Fmt.decimal, Io.KnownBytes.Appends}
use Rattle.mpf_config.specs.{Rows.RowsFault, FaultLine.{with_blank, fault_line}}
use Rattle.config_faults.specs.FaultNames.{number_of, kind_name}
use Rattle.mpf_config.specs.Escaped.{is_control, escaped_byte, escape_bytes}
use Rattle.yaml_bytes.proofs.Writing.{last_piece, all_pieces}

abbrev front : List ℕ → List ℕ → List ℕ
front number name = codes "error " ++ (number ++ 32 ∷ (name ++ 32 ∷ []))

abbrev between : List ℕ → List ℕ
between line = 32 ∷ (line ++ 32 ∷ [])

-- the pieces, one after the other
pieces : (number name text line key : List ℕ) →
    ((front number name ++ text) ++ between line) ++ key ++ 10 ∷ []
    ≡ codes "error" ++ with_blank number ++ with_blank name ++ with_blank text ++ with_blank line ++ with_blank key
    ++ 10 ∷ []
pieces number name text line key = simp append_assoc

pub written : {T E : Type 0} (r : Result T E) (f : RowsFault) (number : ℕ) (name : List ℕ)
    (w0 w1 w2 w3 w4 w5 : Option (List ℕ))
    → number ≡ number_of f.kind → name ≡ kind_name f.kind
    → Appends w0 w1 (front (decimal number) name) → Appends w1 w2 (escape_bytes f.text)
    → Appends w2 w3 (between (decimal f.line)) → Appends w3 w4 (escape_bytes f.key)
    → OnOk r (Appends w4 w5 (10 ∷ [])) → OnOk r (Appends w0 w5 (fault_line f))
written r f number name w0 w1 w2 w3 w4 w5 n k a b c d e =
    let text = escape_bytes f.text in
    let key = escape_bytes f.key in
    let x1 = front (decimal number) name in
    let x2 = x1 ++ text in
    let x3 = x2 ++ between (decimal f.line) in
    let line : (x3 ++ key) ++ 10 ∷ [] ≡ fault_line f =
    rw (← n, ← k) (pieces (decimal number) name text (decimal f.line) key) in
    let one = Appends-trans w0 w1 w2 x1 text a b in
    let two = Appends-trans w0 w2 w3 x2 (between (decimal f.line)) one c in
    last_piece r w0 w4 w5 (x3 ++ key) (10 ∷ []) (fault_line f) line (Appends-trans w0 w3 w4 x3 key two d) e

-- ---- byte by byte

pub escaped_all : (text : List ℕ) (i : ℕ) (a b : Option (List ℕ)) → length text ≤ i
    → Appends a b (flat_map escaped_byte (take i text)) → Appends a b (escape_bytes text)
unfolding escape_bytes
escaped_all text i a b whole h = all_pieces escaped_byte text i a b whole h

-- ---- a text that nothing is escaped in

same_text : (text : List ℕ) → list_any is_control text ≡ false → text ≡ escape_bytes text
unfolding escape_bytes
same_text [] e = refl
same_text (b ∷ bs) e = let p = or_parts (is_control b) (list_any is_control bs) e
    in rw p.0 (ap (λ (rest : List ℕ). b ∷ rest) (same_text bs p.1))

pub as_it_is : {T E : Type 0} (text : List ℕ) (r : Result T E) (a b : Option (List ℕ))
    → list_any is_control text ≡ false → OnOk r (Appends a b text) → OnOk r (Appends a b (escape_bytes text))
as_it_is text r a b none h = subst (λ (bs : List ℕ). OnOk r (Appends a b bs)) (same_text text none) h
