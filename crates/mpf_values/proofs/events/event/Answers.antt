use Rattle.mpf_values.specs.{Events.IsEvent, Reading.event_at, View.event_view}
use Rattle.mpf_values.proofs.{Computing.{is_found, is_only, is_refused}, EventTexts.event_computes}
use Rattle.mpf_values.proofs.events.event.Goals as goal

pub returns-clause-found : goal.returns-clause-found
returns-clause-found c = is_found event_view (IsEvent c.args.text.now) (event_at c.args.text.now)
    (event_computes c.args.text.now) c.handled_event.result c.handled_event.ensures

pub returns-clause-only : goal.returns-clause-only
returns-clause-only c = is_only event_view (IsEvent c.args.text.now) (event_at c.args.text.now)
    (event_computes c.args.text.now) c.handled_event.result c.handled_event.ensures

pub returns-clause-refused : goal.returns-clause-refused
returns-clause-refused c = is_refused event_view (IsEvent c.args.text.now) (event_at c.args.text.now)
    (event_computes c.args.text.now) c.handled_event.result c.handled_event.ensures
