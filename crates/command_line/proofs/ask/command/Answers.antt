use Rattle.std.proofs.Common.{◌≡◌, [], ◌∷◌, Some, None, Global, map, string_bytes, codes}
use Rattle.command_line.{specs.CommandLine.{check, verify, play}, proofs.Words.asks}
use Rattle.command_line.proofs.Words as words
use Rattle.command_line.proofs.ask.command.Goals as goal

pub returns-clause-checks : goal.returns-clause-checks
returns-clause-checks c = λ words_are.
    let given : map (string_bytes {Z = Global}) c.deref.result.now ≡ codes "check" ∷ [] =
    rw c.deref.ensures.value words_are in
    asks c.read_words.result _ _ (check None) given words.check_is_asked c.read_words.ensures.asks
    c.read_words.ensures.fails

pub returns-clause-checks_folder : goal.returns-clause-checks_folder
returns-clause-checks_folder c = λ folder plain words_are.
    let given : map (string_bytes {Z = Global}) c.deref.result.now ≡ codes "check" ∷ folder ∷ [] =
    rw c.deref.ensures.value words_are in
    asks c.read_words.result _ _ (check (Some folder)) given (words.check_folder_is_asked folder plain)
    c.read_words.ensures.asks c.read_words.ensures.fails

pub returns-clause-verifies : goal.returns-clause-verifies
returns-clause-verifies c = λ path plain words_are.
    let given : map (string_bytes {Z = Global}) c.deref.result.now ≡ codes "verify" ∷ path ∷ [] =
    rw c.deref.ensures.value words_are in
    asks c.read_words.result _ _ (verify path None) given (words.verify_is_asked path plain) c.read_words.ensures.asks
    c.read_words.ensures.fails

pub returns-clause-verifies_folder : goal.returns-clause-verifies_folder
returns-clause-verifies_folder c = λ path folder plain bare words_are.
    let given : map (string_bytes {Z = Global}) c.deref.result.now ≡ codes "verify" ∷ path ∷ folder ∷ [] =
    rw c.deref.ensures.value words_are in
    asks c.read_words.result _ _ (verify path (Some folder)) given (words.verify_folder_is_asked path folder plain bare)
    c.read_words.ensures.asks c.read_words.ensures.fails

pub returns-clause-plays : goal.returns-clause-plays
returns-clause-plays c = λ path plain words_are.
    let given : map (string_bytes {Z = Global}) c.deref.result.now ≡ codes "play" ∷ path ∷ [] =
    rw c.deref.ensures.value words_are in
    asks c.read_words.result _ _ (play path None) given (words.play_is_asked path plain) c.read_words.ensures.asks
    c.read_words.ensures.fails

pub returns-clause-plays_folder : goal.returns-clause-plays_folder
returns-clause-plays_folder c = λ path folder plain bare words_are.
    let given : map (string_bytes {Z = Global}) c.deref.result.now ≡ codes "play" ∷ path ∷ folder ∷ [] =
    rw c.deref.ensures.value words_are in
    asks c.read_words.result _ _ (play path (Some folder)) given (words.play_folder_is_asked path folder plain bare)
    c.read_words.ensures.asks c.read_words.ensures.fails
