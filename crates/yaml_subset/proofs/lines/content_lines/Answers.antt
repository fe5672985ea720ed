use Rattle.std.proofs.Common.{◌≡◌, ◌<◌, Option, Some, None, List, ℕ, ◌∷◌, length, sym, ap, ◌∙◌, arith}
use Rattle.std.specs.{Borrow.Bor, Option.IfSome}
use Rattle.yaml_bytes.specs.{Lines.{lines_of, lines_after}, View.option_slice}
use Rattle.yaml_subset.specs.{Reading.contents_from, ParserViews.{lines_view, line_option_view}}
use Rattle.yaml_subset.proofs.LineCuts.{room, goes_on, stops, stops_behind, all_read}
use Rattle.yaml_subset.proofs.lines.content_lines.Goals as goal

less_room : (rest after : Option (Bor (List ℕ))) (current : Bor (List ℕ)) → rest ≡ Some current
    → IfSome after (λ s. length s.now < length current.now) → room after < room rest
less_room rest None current e h = rw e (omega arith)
less_room rest (Some s) current e h = rw e (omega arith)

pub loop-rest-preserved : goal.loop-rest-preserved
loop-rest-preserved c =
    let shrinks = less_room c.loop-rest.rest c.split_line.result.1 c.in-Some.current c.in-Some.is
    c.split_line.ensures.shorter in
    let total = contents_from 1 (lines_of c.args.text.now) in
    let rest = option_slice (λ after. after) c.loop-rest.rest in
    let raw = c.split_line.result.0.now in
    let after = option_slice (λ after. after) c.split_line.result.1 in
    let lines : lines_after rest ≡ raw ∷ lines_after after = rw c.in-Some.is c.split_line.ensures.lines in
    record {
      few = omega arith;
      so_far = rw c.in_ok-push_line.ensures
          (goes_on (lines_view c.loop-rest.lines.items) c.loop-rest.number rest raw after total lines
          c.loop-rest.invariant.so_far (line_option_view c.in-Ok.kept_line) c.in-Ok.ensures
          (sym c.blemish.ensures ∙ c.in_default-blemish.is));
    }

pub returns-in-Err : goal.returns-in-Err
returns-in-Err c =
    let rest = option_slice (λ after. after) c.loop-rest.rest in
    let raw = c.split_line.result.0.now in
    let after = option_slice (λ after. after) c.split_line.result.1 in
    let lines : lines_after rest ≡ raw ∷ lines_after after = rw c.in-Some.is c.split_line.ensures.lines in
    stops (lines_view c.loop-rest.lines.items) c.loop-rest.number rest raw after
    (contents_from 1 (lines_of c.args.text.now)) lines c.loop-rest.invariant.so_far c.in-Err.fault c.in-Err.ensures

pub returns-in-Some-blemish : goal.returns-in-Some-blemish
returns-in-Some-blemish c =
    let rest = option_slice (λ after. after) c.loop-rest.rest in
    let raw = c.split_line.result.0.now in
    let after = option_slice (λ after. after) c.split_line.result.1 in
    let lines : lines_after rest ≡ raw ∷ lines_after after = rw c.in-Some.is c.split_line.ensures.lines in
    rw c.in_ok-push_line.ensures
    (stops_behind (lines_view c.loop-rest.lines.items) c.loop-rest.number rest raw after
    (contents_from 1 (lines_of c.args.text.now)) lines c.loop-rest.invariant.so_far
    (line_option_view c.in-Ok.kept_line) c.in-Some-blemish.fault c.in-Ok.ensures
    (sym c.blemish.ensures ∙ c.in-Some-blemish.is))

pub returns : goal.returns
returns c = all_read (lines_view c.loop-rest.lines.items) c.loop-rest.number
    (option_slice (λ after. after) c.loop-rest.rest) (contents_from 1 (lines_of c.args.text.now))
    (ap (option_slice (λ after. after)) c.in_default.is) c.loop-rest.invariant.so_far
