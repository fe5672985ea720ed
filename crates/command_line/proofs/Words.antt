-- What the words of the command line ask for.
use Rattle.std.proofs.Common.{◌≡◌, inl, inr, ℕ, true, false, List, [], ◌∷◌, Option, Some, None, IsSome, Result, Ok, Err}
use Rattle.std.proofs.Common.{IfOk, IfErr, refl, sym, ap, ap₂, ◌∙◌, subst, option_map, codes}
use Rattle.clap.specs.Words.{HasKind, Kinds, Row, Text, is_simple, is_simple_and_free, kind_of}
use Rattle.clap.specs.declared.error.{Error.Error, kind.ErrorKind.TheVariants.OutOfMemory}
use Rattle.clap.proofs.OnLiterals.{clap_on_literals}
use Rattle.command_line.specs.CommandLine.{pinball_app, AskView, check, verify, play, ask_view, asked_at}
use Rattle.command_line.specs.CommandLine.{where_no_fault, begins_with_hyphen, Asks}
use Rattle.command_line.specs.declared.ask.{Ask.Ask, AskFault.{AskFault, TheVariants.NoMemory}}

pub pinball_app_is_simple : is_simple pinball_app ≡ true
unfolding pinball_app clap_on_literals
pinball_app_is_simple = refl

pub pinball_app_is_free : is_simple_and_free pinball_app ≡ true
unfolding pinball_app clap_on_literals
pinball_app_is_free = refl

pub check_is_asked : asked_at (codes "check" ∷ []) ≡ Some (check None)
unfolding asked_at pinball_app clap_on_literals
check_is_asked = refl

pub check_folder_is_asked : (folder : List ℕ) → begins_with_hyphen folder ≡ false
    → asked_at (codes "check" ∷ folder ∷ []) ≡ Some (check (Some folder))
unfolding asked_at pinball_app clap_on_literals
check_folder_is_asked [] plain = refl
check_folder_is_asked (x ∷ xs) plain = simp plain

pub verify_is_asked : (path : List ℕ) → begins_with_hyphen path ≡ false
    → asked_at (codes "verify" ∷ path ∷ []) ≡ Some (verify path None)
unfolding asked_at pinball_app clap_on_literals
verify_is_asked [] plain = refl
verify_is_asked (x ∷ xs) plain = simp plain

pub verify_folder_is_asked : (path folder : List ℕ) → begins_with_hyphen path ≡ false
    → begins_with_hyphen folder ≡ false
    → asked_at (codes "verify" ∷ path ∷ folder ∷ []) ≡ Some (verify path (Some folder))
unfolding asked_at pinball_app clap_on_literals
verify_folder_is_asked [] [] plain bare = refl
verify_folder_is_asked [] (y ∷ ys) plain bare = simp bare
verify_folder_is_asked (x ∷ xs) [] plain bare = simp plain
verify_folder_is_asked (x ∷ xs) (y ∷ ys) plain bare = simp (plain, bare)

pub play_is_asked : (path : List ℕ) → begins_with_hyphen path ≡ false
    → asked_at (codes "play" ∷ path ∷ []) ≡ Some (play path None)
unfolding asked_at pinball_app clap_on_literals
play_is_asked [] plain = refl
play_is_asked (x ∷ xs) plain = simp plain

pub play_folder_is_asked : (path folder : List ℕ) → begins_with_hyphen path ≡ false → begins_with_hyphen folder ≡ false
    → asked_at (codes "play" ∷ path ∷ folder ∷ []) ≡ Some (play path (Some folder))
unfolding asked_at pinball_app clap_on_literals
play_folder_is_asked [] [] plain bare = refl
play_folder_is_asked [] (y ∷ ys) plain bare = simp bare
play_folder_is_asked (x ∷ xs) [] plain bare = simp plain
play_folder_is_asked (x ∷ xs) (y ∷ ys) plain bare = simp (plain, bare)

-- the name and the rows of what was met, each known by itself, are known together
pub met_together : {B : Type 0} (met : Option B) (name_of : B → Text) (rows_of : B → List Row) (name : Text)
    (rows : List Row)
    → Some name ≡ option_map name_of met → Some rows
    ≡ option_map (λ (p : Text × List Row). p.1) (option_map {U = Text × List Row} (λ b. (name_of b, rows_of b)) met)
    → option_map {U = Text × List Row} (λ b. (name_of b, rows_of b)) met ≡ Some (name, rows)
met_together None name_of rows_of name rows named found = cc
met_together (Some b) name_of rows_of name rows named found =
    let same_name : name_of b ≡ name = cc in
    let same_rows : rows_of b ≡ rows = cc in
    ap₂ (λ (n : Text) (r : List Row). Some (n, r)) same_name same_rows

-- words that ask for something are answered with that, or memory ran out
pub asks : (r : Result Ask AskFault) (words given : List Text) (what : AskView) → words ≡ given
    → asked_at given ≡ Some what
    → IfOk r (λ ask. asked_at words ≡ Some (ask_view ask))
    → IfErr r (λ fault. IsSome (asked_at words) → fault ≡ NoMemory) → Asks what r
asks (Ok ask) words given what same asked answers only =
    let some : Some (ask_view ask) ≡ Some what = sym answers ∙ ap asked_at same ∙ asked in cc
asks (Err fault) words given what same asked answers only = only (subst IsSome (sym (ap asked_at same ∙ asked)) refl)

-- an answer of `clap` comes only for words without a fault
pub answered : (kinds : Kinds) (asked : Option AskView) → kinds ≡ [] → where_no_fault kinds asked ≡ asked
answered [] asked none = refl
answered (kind ∷ more) asked none = cc

-- an error of words that ask for something is want of memory
pub out_of_memory : (kinds : Kinds) (asked : Option AskView) (error : Error) → HasKind kinds error
    → IsSome (where_no_fault kinds asked) → kind_of error ≡ OutOfMemory
out_of_memory kinds asked error (inl memory) some = memory
out_of_memory [] asked error (inr among) some = absurd among
out_of_memory (kind ∷ more) asked error (inr among) some = cc
