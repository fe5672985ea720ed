-- The bundle of a machine, of texts at their paths.
use Rattle.std.specs.Prelude.{◌≡◌, ◌<◌, ◌⊎◌, ℕ, Option, None, Some, option_map, Result, Ok, Err, List, [], ◌∷◌, ◌++◌}
use Rattle.std.specs.Prelude.{codes, length, slice_index, slice_get, take, string_bytes, ◌^◌, IfSome, IsSomeAnd}
use Rattle.std.specs.{Global.Vec, Str.Lossy.utf8_lossy}
use Rattle.memchr.specs.Find.{OccursAt}
use Rattle.mpf_config.specs.{Rows.RowsFault, BundleText.{machine_name, mode_text_name}, Reading.mode_names_at}
use Rattle.pinball_shell.specs.{declared.fault.{ShellFault.ShellFault, Failure.Failure}, Joined.join_text}
use Rattle.pinball_shell.specs.declared.fault.ShellFault.TheVariants.{NoMemory, Read, Write, TooLong, WrongDevice}

-- ---- what is at a path

-- What is known of a path: nothing; that no text is there; or which text is.
abbrev pub Known : Type 0
Known = Option (Option (List ℕ))

-- what was found is what is known to be there
abbrev pub IsTextAt : Known → Option (Vec ℕ) → Type 0
IsTextAt known text_there = IfSome known (λ text. option_map (λ t. t.items) text_there ≡ text)

-- the path of a text in a folder
abbrev pub path_of : List ℕ → List ℕ → List ℕ
path_of folder name = folder ++ codes "/" ++ utf8_lossy name

-- ---- the modes that a machine text lists

abbrev pub names_or_none : Result (List (List ℕ)) RowsFault → List (List ℕ)
names_or_none (Ok names) = names
names_or_none (Err fault) = []

-- Only a text with the word `modes`, or with a backslash, may list some.
pub data MayListModes (text : List ℕ) : Type 0 where
  word : (at : ℕ) → OccursAt text (codes "modes") at → MayListModes text
  escape : (at : ℕ) → at < length text → slice_index text at ≡ 92 → MayListModes text

-- These are the names of the modes that it lists. There are none where reading it meets a fault.
pub record AreListed (text : List ℕ) (modes : List (List ℕ)) : Type 0 where
  pub read : MayListModes text → modes ≡ names_or_none (mode_names_at text)
  pub none : ¬ (MayListModes text) → modes ≡ []

-- ---- the bundle

-- The machine text is there. The bundle of it alone is this, and these are the modes that it lists.
abbrev pub IsMachineRead : Known → List ℕ → List (List ℕ) → Type 0
IsMachineRead None bundle modes = Unit {0}
IsMachineRead (Some None) bundle modes = ⊥
IsMachineRead (Some (Some text)) bundle modes = (bundle ≡ join_text [] machine_name text) × AreListed text modes

-- a bundle with the text of a name, where there is one
abbrev pub with_text : List ℕ → List ℕ → Option (List ℕ) → List ℕ
with_text bundle name None = bundle
with_text bundle name (Some text) = join_text bundle name text

-- the text of a mode is joined to a bundle, where it has one
abbrev pub IsModeJoined : (List ℕ → Known) → (folder mode before after : List ℕ) → Type 0
IsModeJoined text_at folder mode before after =
    IfSome (text_at (path_of folder (mode_text_name mode)))
    (λ text. after ≡ with_text before (mode_text_name mode) text)

-- so are those of all these modes, one after another
abbrev pub AreJoined : (List ℕ → Known) → (folder : List ℕ) → (modes : List (List ℕ)) → (before after : List ℕ) → Type 0
AreJoined text_at folder [] before after = after ≡ before
AreJoined text_at folder (mode ∷ more) before after =
    (mid : List ℕ) × IsModeJoined text_at folder mode before mid × AreJoined text_at folder more mid after

-- It is the bundle of the machine in the folder: the machine text, and the texts of the modes that it lists, joined.
pub record IsBundleIn (text_at : List ℕ → Known) (folder bundle : List ℕ) : Type 0 where
  pub machine : List ℕ
  pub modes : List (List ℕ)
  pub begun : IsMachineRead (text_at (path_of folder machine_name)) machine modes
  pub bundle_is : AreJoined text_at folder modes machine bundle

-- ---- a text that cannot be read

-- It is a fault of reading a text: there is no memory for it, it cannot be read, or it is too long.
abbrev pub IsOfReading : ShellFault → Type 0
IsOfReading NoMemory = Unit {0}
IsOfReading Read = Unit {0}
IsOfReading TooLong = Unit {0}
IsOfReading Write = ⊥
IsOfReading WrongDevice = ⊥

-- It is not known what is at a path; or no text is there.
abbrev pub MayLack : Known → Type 0
MayLack known = (known ≡ None) ⊎ (known ≡ Some None)

-- It is not known what is at this path; or it is that of the machine text, which is not there.
abbrev pub MayBeUnread : (List ℕ → Known) → (folder path : List ℕ) → Type 0
MayBeUnread text_at folder path = (text_at path ≡ None)
    ⊎ ((path ≡ path_of folder machine_name) × MayLack (text_at path))

-- If the fault is `Read`, the file is that of such a text.
abbrev pub NamesUnread : (List ℕ → Known) → (folder : List ℕ) → Failure → Type 0
NamesUnread text_at folder failure =
    failure.fault ≡ Read → (path : List ℕ) × (option_map string_bytes failure.file ≡ Some path)
    × MayBeUnread text_at folder path

-- ---- a text that is too long

-- The text that is there has more than 8 MiB; or it is not known what is there.
abbrev pub MayExceed : Known → Type 0
MayExceed known = IfSome known (λ text. IsSomeAnd text (λ bytes. 2 ^ 23 < length bytes))

-- With what is there, if it is known, under this name, a bundle has more than 8 MiB.
abbrev pub MakesTooLong : Known → (name bundle : List ℕ) → Type 0
MakesTooLong known name bundle = IfSome known (λ text. 2 ^ 23 < length (with_text bundle name text))

-- So it is with the text of this name, and this is its path.
abbrev pub IsOverWith : (List ℕ → Known) → (folder name bundle path : List ℕ) → Type 0
IsOverWith text_at folder name bundle path = (path ≡ path_of folder name) × MakesTooLong (text_at path) name bundle

-- So it is with the text of one of these modes, behind the texts of those before it.
pub record IsOverAt (text_at : List ℕ → Known) (folder : List ℕ) (modes : List (List ℕ)) (bundle path : List ℕ)
    : Type 0 where
  pub place : ℕ
  pub mode : List ℕ
  pub there : slice_get modes place ≡ Some mode
  pub before : List ℕ
  pub joins : AreJoined text_at folder (take place modes) bundle before
  pub over : IsOverWith text_at folder (mode_text_name mode) before path

-- The bundle up to the text at this path has more than 8 MiB. It is that of the machine, or of a mode that it lists.
pub data IsTooLongAt (text_at : List ℕ → Known) (folder path : List ℕ) : Type 0 where
  machine : IsOverWith text_at folder machine_name [] path → IsTooLongAt text_at folder path
  mode : (bundle : List ℕ) (modes : List (List ℕ)) → IsMachineRead (text_at (path_of folder machine_name)) bundle modes
      → IsOverAt text_at folder modes bundle path → IsTooLongAt text_at folder path

-- If the fault is `TooLong`, a file is named, and this holds of its path.
abbrev pub NamesTooLong : Failure → (List ℕ → Type 0) → Type 0
NamesTooLong failure holds =
    failure.fault ≡ TooLong → (path : List ℕ) × (option_map string_bytes failure.file ≡ Some path) × holds path
