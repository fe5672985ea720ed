-- With which text a bundle is too long.
use Rattle.std.proofs.Common.{◌≡◌, ℕ, ◌<◌, Option, Some, option_map, List, length, map, take, get_or, ap, sym, ◌∙◌}
use Rattle.std.proofs.{Common.{subst, []}, lemmas.{List.take-map, Option.{slice_get-map, slice_get-get_or}}}
use Rattle.std.specs.{Global.Vec, Prelude.string_bytes}
use Rattle.mpf_config.specs.BundleText.{machine_name, mode_text_name}
use Rattle.pinball_shell.specs.declared.fault.{Failure.Failure, ShellFault.{ShellFault, TheVariants.TooLong}}
use Rattle.pinball_shell.specs.Status.{file_at_fault}
use Rattle.machine_folder.specs.Bundles.{Known, path_of, IsMachineRead, AreJoined, IsOverWith, IsOverAt, NamesTooLong}
use Rattle.machine_folder.specs.Bundles.{IsTooLongAt, MakesTooLong, machine, mode}

-- the bundle is with the text of the next mode
pub mode-over : (text_at : List ℕ → Known) (folder : List ℕ) (modes : List (Vec ℕ)) (n : ℕ) (this : Vec ℕ)
    (name bundle before path : List ℕ) → n < length modes → this ≡ get_or modes n this → name ≡ this.items
    → AreJoined text_at folder (map (λ m. m.items) (take n modes)) bundle before
    → IsOverWith text_at folder (mode_text_name name) before path
    → IsOverAt text_at folder (map (λ m. m.items) modes) bundle path
mode-over text_at folder modes n this name bundle before path within is same joined over =
    let name_of : Vec ℕ → List ℕ = λ m. m.items in
    record {
      place = n;
      mode = name;
      there = slice_get-map name_of modes n
          ∙ ap (option_map name_of) (slice_get-get_or modes n this within ∙ ap Some (sym is)) ∙ ap Some (sym same);
      before = before;
      joins = subst (λ (ms : List (List ℕ)). AreJoined text_at folder ms bundle before)
          (sym (take-map name_of n modes)) joined;
      over = over;
    }

-- what failed for a mode failed for the modes
pub modes-over : (text_at : List ℕ → Known) (folder : List ℕ) (modes : List (Vec ℕ)) (n : ℕ) (this : Vec ℕ)
    (name bundle before : List ℕ) (failure : Failure) → n < length modes → this ≡ get_or modes n this
    → name ≡ this.items → AreJoined text_at folder (map (λ m. m.items) (take n modes)) bundle before
    → NamesTooLong failure (IsOverWith text_at folder (mode_text_name name) before)
    → NamesTooLong failure (IsOverAt text_at folder (map (λ m. m.items) modes) bundle)
modes-over text_at folder modes n this name bundle before failure within is same joined named too_long =
    let at = named too_long in
    (at.0, at.1, mode-over text_at folder modes n this name bundle before at.0 within is same joined at.2)

-- what failed for the modes failed for the machine
pub machine-over : (text_at : List ℕ → Known) (folder bundle : List ℕ) (modes : List (List ℕ)) (failure : Failure)
    → IsMachineRead (text_at (path_of folder machine_name)) bundle modes
    → NamesTooLong failure (IsOverAt text_at folder modes bundle) → NamesTooLong failure (IsTooLongAt text_at folder)
machine-over text_at folder bundle modes failure read named too_long =
    let at = named too_long in (at.0, at.1, mode bundle modes read at.2)

-- what failed for the machine text
pub first-over : (text_at : List ℕ → Known) (folder path : List ℕ) (fault : ShellFault) (failure : Failure)
    → failure.fault ≡ fault → option_map string_bytes failure.file ≡ file_at_fault fault path
    → path ≡ path_of folder machine_name → (fault ≡ TooLong → MakesTooLong (text_at path) machine_name [])
    → NamesTooLong failure (IsTooLongAt text_at folder)
first-over text_at folder path fault failure same file is over too_long =
    let at : fault ≡ TooLong = sym same ∙ too_long in
    (path, file ∙ ap (λ f. file_at_fault f path) at, machine (is, over at))
