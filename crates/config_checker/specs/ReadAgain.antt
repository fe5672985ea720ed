-- A certificate that is written is read again.
use Rattle.std.specs.Prelude.{◌≡◌, ◌⊎◌, ℕ, List, Ok}
use Rattle.mpf_config.specs.{declared.config.Config.Config, Rows.Rows, View.rows_view, Reading.rows_at}
use Rattle.written_machine.specs.CheckedView.{CheckedView}
use Rattle.config_checker.specs.{CertificateText.certificate_text, Checking.{checked_at, checked_with_at}}

-- With the text of its certificate what was accepted is accepted again, with the same weights and the same bound.
abbrev pub IsReadAgain : Rows → CheckedView → Type 0
IsReadAgain rows c = checked_with_at rows (certificate_text c) ≡ Ok c

-- So it is for every configuration with the weights that `check` finds.
abbrev pub FoundIsReadAgain : Type 0
FoundIsReadAgain = (config : Config) (c : CheckedView)
    → checked_at (rows_view config) ≡ Ok c → IsReadAgain (rows_view config) c

-- So it is for every configuration with the weights of a certificate of either version.
abbrev pub GivenIsReadAgain : Type 0
GivenIsReadAgain = (config : Config) (text : List ℕ) (c : CheckedView)
    → checked_with_at (rows_view config) text ≡ Ok c → IsReadAgain (rows_view config) c

-- it is accepted with the weights that were found, or with those of some certificate
abbrev pub IsAcceptedOf : Rows → CheckedView → Type 0
IsAcceptedOf rows c = (checked_at rows ≡ Ok c) ⊎ ((text : List ℕ) × (checked_with_at rows text ≡ Ok c))

-- So it is for the rows of every bundle, however they were accepted.
abbrev pub ReadIsReadAgain : Type 0
ReadIsReadAgain = (bundle : List ℕ) (rows : Rows) (c : CheckedView) → rows_at bundle ≡ Ok rows → IsAcceptedOf rows c
    → IsReadAgain rows c
