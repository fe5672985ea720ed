-- Numbers of a certificate are read as they are written.
use Rattle.std.proofs.Common.{rules, ◌≡◌, ℕ, ◌^◌, ◌<◌, ◌==◌, ◌||◌, not, nat_lt, Bool, true, false, Option, Some, None}
use Rattle.std.proofs.Common.{option_and_then, List, length, get_or, refl, sym, ap, subst, ◌∙◌, arith}
use Rattle.std.specs.{List.All, Char.is_ascii_digit, Fmt.decimal}
use Rattle.std.proofs.lemmas.Bool.{or_right, eqb-true, eq-eqb, ne_eqb, ltb-true, lt-ltb, not-false, cond-true}
use Rattle.std.proofs.lemmas.Fmt.{decimal_nonempty, decimal_digit, first_decimal, digits_decimal, digits_value-decimal}
use Rattle.std.proofs.lemmas.{Fmt.decimal-digits_value, List.Sums.AllPass-from_list_all}
use Rattle.std.proofs.lemmas.Option.{cond_some, option_and_then_some}
use Rattle.yaml_bytes.specs.Numbers.{value_of_digits, AreDigits, IsNumber, number_at}
use Rattle.yaml_bytes.proofs.{AllBytes.{Are-from_list_all, list_all-from_Are}, Each.none_of}
use Rattle.yaml_bytes.proofs.WrittenNumbers.{own, number_sound, number_complete}
use Rattle.config_checker.specs.CertificateOf.{is_plain, within_32_bits, number_in}
use Rattle.mpf_values.proofs.Steps.{guard_true}

-- ---- what a word is that says a number

pub record SaysNumber (word : List ℕ) (n : ℕ) : Type 0 where
  pub number : IsNumber word n
  pub plain : is_plain word ≡ true
  pub small : n < 2 ^ 32

pub says_number : (word : List ℕ) (n : ℕ) → number_in word ≡ Some n → SaysNumber word n
says_number word n e =
    let a = guard_true (is_plain word) (option_and_then within_32_bits (number_at word)) n e in
    option_and_then_some within_32_bits (number_at word) n a.1 (λ m is fits.
    let b = cond_some (nat_lt m (2 ^ 32)) m n fits in
    record {
      number = number_sound word n (is ∙ ap Some b.1);
      plain = a.0;
      small = subst (λ k. k < 2 ^ 32) b.1 (ltb-true m (2 ^ 32) b.0);
    })

pub number_said : (word : List ℕ) (n : ℕ) → SaysNumber word n → number_in word ≡ Some n
number_said word n h = rw (h.plain, number_complete word n h.number, lt-ltb n (2 ^ 32) h.small) refl

pub no_number : (word : List ℕ) → ((n : ℕ) → SaysNumber word n → ⊥) → number_in word ≡ None
no_number word h = none_of (number_in word) (λ n e. h n (says_number word n e))

-- a byte that is no digit is not in digits
pub not_in_digits : (c : ℕ) → is_ascii_digit c ≡ false → (word : List ℕ) → AreDigits word
    → All (λ b. (b == c) ≡ false) word
not_in_digits c other word h = λ i d l. ne_eqb (get_or word i d) c
    (λ e. none_is_both (is_ascii_digit (get_or word i d))
    (AllPass-from_list_all is_ascii_digit word (list_all-from_Are is_ascii_digit word h.each) i d l)
    (ap is_ascii_digit e ∙ other))
  where
    none_is_both : (t : Bool) → t ≡ true → t ≡ false → ⊥
    none_is_both x1 h k = search rules

-- ---- a number, and how it is written

alone : (word : List ℕ) → is_plain word ≡ true → get_or word 0 0 ≡ 48 → length word ≡ 1
alone word plain e = eqb-true (length word) 1
    (first_of (length word == 1) (get_or word 0 0 == 48) plain (eq-eqb (get_or word 0 0) 48 e))
  where
    first_of : (x y : Bool) → (x || not y) ≡ true → y ≡ true → x ≡ true
    first_of x1 x2 h e = search rules

pub is_written : (word : List ℕ) (n : ℕ) → SaysNumber word n → word ≡ decimal n
is_written word n h =
    let is = h.number in
    let small : value_of_digits word < 2 ^ 64 = omega (arith, is.value, is.fits) in
    sym (decimal-digits_value own word (list_all-from_Are is_ascii_digit word is.digits.each) is.digits.some
    (alone word h.plain) small) ∙ ap decimal is.value

decimal_is_plain : (n : ℕ) → n < 2 ^ 64 → is_plain (decimal n) ≡ true
decimal_is_plain x1 small = search (rules, small, decimal_digit, or_right, get_or, ne_eqb, first_decimal)

pub written_says : (n : ℕ) → n < 2 ^ 32 → SaysNumber (decimal n) n
written_says n small =
    let within : n < 2 ^ 64 = omega arith in
    record {
      number =
          record {
            digits = record {
              some = decimal_nonempty n within;
              each = Are-from_list_all is_ascii_digit (decimal n) (digits_decimal own n within);
            };
            value = digits_value-decimal own n within;
            fits = within;
          };
      plain = decimal_is_plain n within;
      small = small;
    }

-- ---- how a number is read

pub plain_number : (word : List ℕ) (o : Option ℕ) → false ≡ not (is_plain word) → o ≡ number_at word
    → number_in word ≡ option_and_then within_32_bits o
plain_number word o plain e = cond-true (is_plain word) (option_and_then within_32_bits (number_at word)) None
    (not-false (is_plain word) (sym plain)) ∙ ap (option_and_then within_32_bits) (sym e)
