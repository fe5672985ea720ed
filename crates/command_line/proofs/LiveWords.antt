-- What the words of `pinball_live` ask for.
use Rattle.std.proofs.Common.{◌≡◌, inl, inr, ℕ, Bool, true, false, codes, List, [], ◌∷◌, Option, Some, IsSome, Result}
use Rattle.std.proofs.Common.{Ok, Err, IfOk, IfErr, refl, sym, ap, ◌∙◌, subst}
use Rattle.clap.specs.Words.{App, HasKind, Kinds, Row, Rule, Text, first_of, with_rule, is_simple, is_simple_and_free}
use Rattle.clap.specs.{Words.kind_of, declared.error.{Error.Error, kind.ErrorKind.TheVariants.OutOfMemory}}
use Rattle.clap.proofs.OnLiterals.{clap_on_literals}
use Rattle.command_line.specs.CommandLine.{begins_with_hyphen, path_rule}
use Rattle.command_line.specs.declared.{ask.AskFault.{AskFault, TheVariants.NoMemory}, live.LiveAsk.LiveAsk}
use Rattle.command_line.specs.LiveCommand.{live_app, live_program_app, flag_rule, is_true, asked_of, asked_in}
use Rattle.command_line.specs.LiveCommand.{LiveAskView, run, view_of, asked_if, live_asked_at, AsksLive}

pub live_app_is_simple : is_simple live_app ≡ true
unfolding live_app clap_on_literals
live_app_is_simple = refl

pub live_app_is_free : is_simple_and_free live_app ≡ true
unfolding live_app clap_on_literals
live_app_is_free = refl

pub run_is_asked : (folder : List ℕ) → begins_with_hyphen folder ≡ false
    → live_asked_at (folder ∷ []) ≡ Some (run folder false)
unfolding live_asked_at live_app clap_on_literals
run_is_asked [] plain = refl
run_is_asked (x ∷ xs) plain = simp plain

-- the command line is made an argument at a time
pub app_is_live : (bare one two three : App) (path work any_work : Rule) → bare ≡ live_program_app
    → path ≡ path_rule → work ≡ flag_rule (codes "work") → any_work ≡ flag_rule (codes "any-work")
    → one ≡ with_rule bare path → two ≡ with_rule one work → three ≡ with_rule two any_work → three ≡ live_app
unfolding live_app
app_is_live bare one two three path work any_work is_bare is_path is_work is_any one_is two_is three_is = cc

-- what is asked for is by the three values
pub asked_by_values : (rows : List Row) (path work any_work : Option Text) (works any : Bool)
    → path ≡ first_of (codes "path") rows → work ≡ first_of (codes "work") rows
    → any_work ≡ first_of (codes "any-work") rows
    → works ≡ is_true work → any ≡ is_true any_work → asked_of path works any ≡ asked_in rows
asked_by_values rows path work any_work works any path_is work_is any_work_is works_is any_is = cc

-- words that ask for something are answered with that, or memory ran out
pub asks_live : (r : Result LiveAsk AskFault) (words given : List Text) (what : LiveAskView) → words ≡ given
    → live_asked_at given ≡ Some what
    → IfOk r (λ ask. live_asked_at words ≡ Some (view_of ask))
    → IfErr r (λ fault. IsSome (live_asked_at words) → fault ≡ NoMemory) → AsksLive what r
asks_live (Ok ask) words given what same asked answers only =
    let some : Some (view_of ask) ≡ Some what = sym answers ∙ ap live_asked_at same ∙ asked in cc
asks_live (Err fault) words given what same asked answers only =
    only (subst IsSome (sym (ap live_asked_at same ∙ asked)) refl)

-- an answer of `clap` comes only for words without a fault
pub live_answered : (kinds : Kinds) (asked : Option LiveAskView) → kinds ≡ [] → asked_if kinds asked ≡ asked
live_answered [] asked none = refl
live_answered (kind ∷ more) asked none = cc

-- an error of words that ask for something is want of memory
pub no_memory : (kinds : Kinds) (asked : Option LiveAskView) (error : Error) → HasKind kinds error
    → IsSome (asked_if kinds asked) → kind_of error ≡ OutOfMemory
no_memory kinds asked error (inl memory) some = memory
no_memory [] asked error (inr among) some = absurd among
no_memory (kind ∷ more) asked error (inr among) some = cc
