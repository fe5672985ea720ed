-- What was heard from a link, and told to it, in one order.
use Rattle.std.specs.Prelude.{◌≡◌, ℕ, ◌<◌, Bool, if◌then◌else◌, Option, None, Some, Result, Ok, Err, List, [], ◌∷◌}
use Rattle.std.specs.{Prelude.{◌++◌, length, take, min}, List.flat_map, Str.Lines.lines, Io.KnownBytes.append_known}
use Rattle.pinball_shell.specs.declared.fault.ShellFault.{ShellFault, TheVariants.{Read, TooLong}}

-- a line that was heard, without its end; or a text that was told
pub data Talk : Type 0 where
  Heard : (line : List ℕ) → Talk
  Told : (text : List ℕ) → Talk

-- ---- a talk as one list of numbers

-- A line that was heard is 256, its bytes, and 257. A link that shows no lines leaves it out.
abbrev pub heard_text : Bool → List ℕ → List ℕ
heard_text shows line = if shows then 256 ∷ line ++ 257 ∷ [] else []

-- a text that was told is its bytes
abbrev pub talk_text : Bool → Talk → List ℕ
talk_text shows (Heard line) = heard_text shows line
talk_text shows (Told text) = text

-- The transcript of a talk. No byte is above 255, so it says where each line was heard. Of a link that shows no lines
-- it is all that was told.
abbrev pub transcript : Bool → List Talk → List ℕ
transcript shows talk = flat_map (talk_text shows) talk

-- ---- what a link reports

-- the transcript of the talk so far, and the text that is left to be heard
pub record LinkView : Type 0 where
  pub talk : List ℕ
  pub remainder : List ℕ

-- This holds of what a link reports before and after. One that reports goes on to report.
abbrev pub IfReported : Option LinkView → Option LinkView → (LinkView → LinkView → Type 0) → Type 0
IfReported None new holds = Unit {0}
IfReported (Some before) None holds = ⊥
IfReported (Some before) (Some after) holds = holds before after

-- a text was told
pub record HasTold (text : List ℕ) (before after : LinkView) : Type 0 where
  pub talk : after.talk ≡ before.talk ++ text
  pub remainder : after.remainder ≡ before.remainder

-- What telling does: so many bytes of the text were told, or nothing was.
abbrev pub Tells : {E : Type 0} → (text : List ℕ) → (old new : Option LinkView) → Result ℕ E → Type 0
Tells text old new (Ok len) = IfReported old new (HasTold (take len text))
Tells text old new (Err fault) = IfReported old new (λ v w. w ≡ v)

-- a line was heard: the next one of the text that is left
pub record HasHeard (shows : Bool) (line : List ℕ) (before after : LinkView) : Type 0 where
  pub talk : after.talk ≡ before.talk ++ heard_text shows line
  pub remainder : lines before.remainder ≡ line ∷ lines after.remainder

-- nothing was heard: no line is left
pub record IsOver (before after : LinkView) : Type 0 where
  pub same : after ≡ before
  pub none : lines before.remainder ≡ []

-- the next line of a text has more bytes than this
abbrev pub HasLongLine : ℕ → List ℕ → Type 0
HasLongLine limit text = (line : List ℕ) × (more : List (List ℕ)) × (lines text ≡ line ∷ more) × (limit < length line)

-- Hearing failed: a read failed, or the next line is too long. Nothing was heard.
pub record HasNotHeard (limit : ℕ) (fault : ShellFault) (before after : LinkView) : Type 0 where
  pub same : after ≡ before
  pub long : fault ≡ TooLong → HasLongLine limit before.remainder

-- the bytes that a longest line has
abbrev pub longest_line : ℕ
longest_line = 4096

-- What hearing does: the line is at the front of the room, no line is left, or there is a fault.
abbrev pub Hears : Bool → (room : List ℕ) → (old new : Option LinkView) → Result (Option ℕ) ShellFault → Type 0
Hears shows room old new (Ok (Some len)) = IfReported old new (HasHeard shows (take len room))
Hears shows room old new (Ok None) = IfReported old new IsOver
Hears shows room old new (Err fault) = IfReported old new (HasNotHeard (min longest_line (length room)) fault)
