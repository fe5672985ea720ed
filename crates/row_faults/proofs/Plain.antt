-- Faults of texts with plain names: two of them print the same line if and only if they are equal.
use Rattle.std.proofs.Common.{rules, ◌≡◌, ℕ, ◌+◌, suc, zero, Bool, true, false, not, ◌||◌, ◌==◌, Decides, List, [], ◌∷◌}
use Rattle.std.proofs.Common.{◌++◌, map, drop, get_or, if◌then◌else◌, append_assoc, refl, sym, ap, ◌∙◌, subst}
use Rattle.std.{proofs.Common.{true≢false, arith}, specs.{List.list_any, Fmt.decimal, Str.bytes_eq}}
use Rattle.std.proofs.lemmas.{Slice.Eq.bytes_eq-Decides, List.{append_cancel_left, append_cancel_right, map-append}}
use Rattle.std.proofs.lemmas.List.Elements.{All-nil, All-cons, All-head, All-tail, All-append}
use Rattle.indexmap.specs.IndexSet.{insert_key}
use Rattle.yaml_subset.{specs.Keys.is_among, proofs.KeySets.among-push}
use Rattle.mpf_config.specs.{Escaped.{is_control, escape_bytes}, FaultLine.with_blank}
use Rattle.row_faults.specs.{declared.fault.RowFault.RowFault, FaultView.RowFaultView}
use Rattle.row_faults.specs.declared.fault.RowFaultKind.{RowFaultKind, TheVariants.{TimerAtEnd, BallRoute}}
use Rattle.row_faults.specs.declared.fault.RowFaultKind.TheVariants.{Name, PulseLimit, PowerLimit, HoldNotAllowed}
use Rattle.row_faults.specs.{View.{row_fault_view, row_faults_view}, RowFaults.listed_once, FaultsOf.printed_line}
use Rattle.row_faults.specs.Plain.{is_mark, is_plain, IsPlain, ArePlain}
use Rattle.row_faults.specs.FaultText.{row_fault_number, row_title, row_place, row_fault_line}
use Rattle.row_faults.proofs.{Apart.{number_at, place_is, same_line}, RowFaults.same_lines}

-- ---- plain names

not_space : (y : ℕ) (ys : List ℕ) → is_plain (y ∷ ys) ≡ true → y ≡ 32 → ⊥
not_space y ys p is = true≢false (sym p ∙ ap (λ (b : ℕ). is_plain (b ∷ ys)) is)

head_plain : (y : ℕ) (ys : List ℕ) → is_plain (y ∷ ys) ≡ true → is_control y ≡ false
head_plain y ys p = by (is_control y) (y == 32) (list_any is_mark ys) p
  where
    by : (c s r : Bool) → not ((c || s) || r) ≡ true → c ≡ false
    by true s r e = absurd (true≢false (sym e))
    by false s r e = refl

tail_plain : (y : ℕ) (ys : List ℕ) → is_plain (y ∷ ys) ≡ true → is_plain ys ≡ true
tail_plain y ys p = by (is_mark y) (list_any is_mark ys) p
  where
    by : (b r : Bool) → not (b || r) ≡ true → not r ≡ true
    by true r e = absurd (true≢false (sym e))
    by false r e = e

-- a plain name is printed as it is
pub printed : (text : List ℕ) → is_plain text ≡ true → text ≡ escape_bytes text
unfolding escape_bytes
printed [] p = refl
printed (b ∷ bs) p = rw (head_plain b bs p) (ap (λ (rest : List ℕ). b ∷ rest) (printed bs (tail_plain b bs p)))

-- what stands before the first space
same_word : (xs ys a b : List ℕ) → is_plain xs ≡ true → is_plain ys ≡ true → xs ++ 32 ∷ a ≡ ys ++ 32 ∷ b → xs ≡ ys
same_word [] [] a b p q e = refl
same_word [] (y ∷ ys) a b p q e = absurd (not_space y ys q (sym (ap (λ (zs : List ℕ). get_or zs 0 0) e)))
same_word (x ∷ xs) [] a b p q e = absurd (not_space x xs p (ap (λ (zs : List ℕ). get_or zs 0 0) e))
same_word (x ∷ xs) (y ∷ ys) a b p q e =
    let heads : x ≡ y = ap (λ (zs : List ℕ). get_or zs 0 0) e in
    let tails : xs ++ 32 ∷ a ≡ ys ++ 32 ∷ b = ap (drop 1) e in
    let rest : xs ≡ ys = same_word xs ys a b (tail_plain x xs p) (tail_plain y ys q) tails in
    λ i. heads i ∷ rest i

-- ---- one line

-- a kind as a function of its number
abbrev kind_by : ℕ → RowFaultKind
kind_by zero = Name
kind_by (suc zero) = Name
kind_by (suc (suc zero)) = PulseLimit
kind_by (suc (suc (suc zero))) = PowerLimit
kind_by (suc (suc (suc (suc zero)))) = HoldNotAllowed
kind_by (suc (suc (suc (suc (suc zero))))) = TimerAtEnd
kind_by (suc (suc (suc (suc (suc (suc n)))))) = BallRoute

kind_is : (k : RowFaultKind) → kind_by (row_fault_number k) ≡ k
kind_is x1 = search rules

same_kind : (k m : RowFaultKind) (a b : List ℕ) → row_title k ++ a ≡ row_title m ++ b → k ≡ m
same_kind k m a b e =
    let numbers : 48 + row_fault_number k ≡ 48 + row_fault_number m = sym (number_at k a)
    ∙ ap (λ (xs : List ℕ). get_or xs 6 0) e ∙ number_at m b in
    let same : row_fault_number k ≡ row_fault_number m = omega (arith, numbers) in
    sym (kind_is k) ∙ ap kind_by same ∙ kind_is m

-- what a line has behind the text, and behind the number of the line
abbrev behind_text : RowFaultView → List ℕ
behind_text f = with_blank (decimal f.line) ++ (with_blank f.name ++ 10 ∷ [])

-- faults of plain texts that print the same line are equal
same_fault : (f g : RowFaultView) → IsPlain f → IsPlain g → row_fault_line f ≡ row_fault_line g → f ≡ g
same_fault f g p q e =
    let kinds : f.kind ≡ g.kind = same_kind f.kind g.kind (row_place f.text f.line f.name)
    (row_place g.text g.line g.name) e in
    let places : row_place f.text f.line f.name ≡ row_place g.text g.line g.name =
    append_cancel_left (row_title g.kind) (row_place f.text f.line f.name) (row_place g.text g.line g.name)
    (ap (λ (kind : RowFaultKind). row_title kind ++ row_place f.text f.line f.name) (sym kinds) ∙ e) in
    let parts : with_blank (escape_bytes f.text) ++ behind_text f ≡ with_blank (escape_bytes g.text) ++ behind_text g =
    sym (place_is f.text f.name f.line) ∙ places ∙ place_is g.text g.name g.line in
    let words : f.text ++ behind_text f ≡ g.text ++ behind_text g =
    ap (λ (text : List ℕ). text ++ behind_text f) (printed f.text p.0) ∙ ap (drop 1) parts
    ∙ ap (λ (text : List ℕ). text ++ behind_text g) (sym (printed g.text q.0)) in
    let texts : f.text ≡ g.text = same_word f.text g.text (decimal f.line ++ (with_blank f.name ++ 10 ∷ []))
    (decimal g.line ++ (with_blank g.name ++ 10 ∷ [])) p.0 q.0 words in
    let lines : f.line ≡ g.line = same_line f g texts p.1 q.1 e in
    let behind : behind_text f ≡ behind_text g =
    append_cancel_left g.text (behind_text f) (behind_text g)
    (ap (λ (text : List ℕ). text ++ behind_text f) (sym texts) ∙ words) in
    let ends : with_blank f.name ++ 10 ∷ [] ≡ with_blank g.name ++ 10 ∷ [] =
    append_cancel_left (with_blank (decimal g.line)) (with_blank f.name ++ 10 ∷ []) (with_blank g.name ++ 10 ∷ [])
    (ap (λ (line : ℕ). with_blank (decimal line) ++ (with_blank f.name ++ 10 ∷ [])) (sym lines) ∙ behind) in
    let names : f.name ≡ g.name = append_cancel_right f.name g.name (10 ∷ []) (ap (drop 1) ends) in
    λ i. record { kind = kinds i; text = texts i; line = lines i; name = names i }

-- ---- each once

module _ (eq : RowFault → RowFault → Bool)
    (same : (f g : RowFault) → Decides (eq f g) (row_fault_view f ≡ row_fault_view g)) where
  alike : (f g : RowFault) → IsPlain (row_fault_view f) → IsPlain (row_fault_view g)
      → eq f g ≡ bytes_eq (printed_line g) (printed_line f)
  alike f g p q =
      agree (eq f g) (bytes_eq (printed_line g) (printed_line f))
      (λ holds. (bytes_eq-Decides (printed_line g) (printed_line f)).1
      (ap row_fault_line (sym ((same f g).0 holds))))
      (λ holds. (same f g).1 (sym (same_fault (row_fault_view g) (row_fault_view f) q p
      ((bytes_eq-Decides (printed_line g) (printed_line f)).0 holds))))
    where
      agree : (a b : Bool) → (a ≡ true → b ≡ true) → (b ≡ true → a ≡ true) → a ≡ b
      agree true b there back = sym (there refl)
      agree false true there back = back refl
      agree false false there back = refl

  found : (f : RowFault) (keys : List RowFault) → IsPlain (row_fault_view f) → ArePlain (row_faults_view keys)
      → list_any (eq f) keys ≡ is_among (map printed_line keys) (printed_line f)
  found f [] p ps = refl
  found f (g ∷ keys) p ps =
      rw (
        alike f g p (All-head IsPlain (row_fault_view g) (row_faults_view keys) ps),
        found f keys p (All-tail IsPlain (row_fault_view g) (row_faults_view keys) ps),
      ) refl

  -- one fault more
  pub took-one : (keys new : List RowFault) (x : RowFault) (before after : List RowFault) (all : List RowFaultView)
      → before ≡ x ∷ after → new ≡ insert_key eq keys x → ArePlain (row_faults_view keys)
      → ArePlain (row_faults_view before)
      → row_faults_view keys ++ listed_once (map printed_line keys) (row_faults_view before) ≡ all
      → (row_faults_view new ++ listed_once (map printed_line new) (row_faults_view after) ≡ all)
      × ArePlain (row_faults_view new) × ArePlain (row_faults_view after)
  took-one keys new x before after all next is ps bs whole =
      let rs : ArePlain (row_faults_view (x ∷ after)) =
      subst (λ (fs : List RowFault). ArePlain (row_faults_view fs)) next bs in
      let first : IsPlain (row_fault_view x) = All-head IsPlain (row_fault_view x) (row_faults_view after) rs in
      let start : row_faults_view keys ++ listed_once (map printed_line keys) (row_faults_view (x ∷ after)) ≡ all =
      ap (λ (fs : List RowFault). row_faults_view keys ++ listed_once (map printed_line keys) (row_faults_view fs))
      (sym next) ∙ whole in
      let made = by (list_any (eq x) keys) refl (sym (found x keys first ps)) first start in
      subst (λ (ks : List RowFault). (row_faults_view ks ++ listed_once (map printed_line ks) (row_faults_view after)
      ≡ all) × ArePlain (row_faults_view ks) × ArePlain (row_faults_view after)) (sym is)
      (made.0, made.1, All-tail IsPlain (row_fault_view x) (row_faults_view after) rs)
    where
      plain_with : IsPlain (row_fault_view x) → ArePlain (row_faults_view (keys ++ x ∷ []))
      plain_with first = subst (λ (fs : List RowFaultView). ArePlain fs) (sym (map-append row_fault_view keys (x ∷ [])))
          (All-append IsPlain (row_faults_view keys) (row_fault_view x ∷ []) ps
          (All-cons IsPlain (row_fault_view x) [] first (All-nil IsPlain)))

      known : (q : List ℕ) → is_among (printed_line x ∷ map printed_line keys) q
          ≡ is_among (map printed_line (keys ++ x ∷ [])) q
      known q = sym (among-push (map printed_line keys) (printed_line x) q)
          ∙ ap (λ (ls : List (List ℕ)). is_among ls q) (sym (map-append printed_line keys (x ∷ [])))

      by : (b : Bool) → list_any (eq x) keys ≡ b
          → is_among (map printed_line keys) (printed_line x) ≡ list_any (eq x) keys → IsPlain (row_fault_view x)
          → row_faults_view keys ++ listed_once (map printed_line keys) (row_faults_view (x ∷ after)) ≡ all
          → (row_faults_view (insert_key eq keys x)
          ++ listed_once (map printed_line (insert_key eq keys x)) (row_faults_view after) ≡ all)
          × ArePlain (row_faults_view (insert_key eq keys x))
      by true taken there first start = rw taken (again, ps)
        where
          again : row_faults_view keys ++ listed_once (map printed_line keys) (row_faults_view after) ≡ all
          again = ap (λ (b : Bool). row_faults_view keys
              ++ (if b then listed_once (map printed_line keys) (row_faults_view after) else row_fault_view x
              ∷ listed_once (printed_line x ∷ map printed_line keys) (row_faults_view after))) (sym (there ∙ taken))
              ∙ start
      by false taken there first start = rw taken (fresh, plain_with first)
        where
          fresh : row_faults_view (keys ++ x ∷ [])
              ++ listed_once (map printed_line (keys ++ x ∷ [])) (row_faults_view after) ≡ all
          fresh =
              ap (λ (fs : List RowFaultView). fs
              ++ listed_once (map printed_line (keys ++ x ∷ [])) (row_faults_view after))
              (map-append row_fault_view keys (x ∷ []))
              ∙ append_assoc (row_faults_view keys) (row_fault_view x ∷ [])
              (listed_once (map printed_line (keys ++ x ∷ [])) (row_faults_view after))
              ∙ ap (λ (fs : List RowFaultView). row_faults_view keys ++ row_fault_view x ∷ fs)
              (sym (same_lines (printed_line x ∷ map printed_line keys) (map printed_line (keys ++ x ∷ []))
              (row_faults_view after) known))
              ∙ ap (λ (b : Bool). row_faults_view keys
              ++ (if b then listed_once (map printed_line keys) (row_faults_view after) else row_fault_view x
              ∷ listed_once (printed_line x ∷ map printed_line keys) (row_faults_view after))) (sym (there ∙ taken))
              ∙ start
