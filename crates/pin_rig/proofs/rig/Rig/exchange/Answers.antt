use Rattle.std.proofs.Common.{ap, sym, ◌∙◌, subst}
use Rattle.machine_core.specs.Core.{CoreView}
use Rattle.pin_rig.specs.{Exchange.{MayTakePlace, IsTakenOut}, RigState.IsHeld, Rig.RigView}
use Rattle.pin_rig.proofs.{Acting.rig_of, Exchanging.{may-there, may-row, taken-out}}
use Rattle.pin_rig.proofs.rig.Rig.exchange.Goals as goal

pub exchange-requires-clause-there : goal.exchange-requires-clause-there
exchange-requires-clause-there g c =
    let rig = c.self.inside in
    let row = g.D.Device.row_of c.args.device in
    let state = g.D.Device.state_of c.args.device in
    let may = subst (λ (v : RigView). MayTakePlace v c.args.row row state) (sym c.self.view_is) c.in-Ok.ensures in
    may-there rig.checked.now rig.core rig.driver rig.shown_lines c.self.invariant c.args.row row state may

pub exchange-requires-clause-row : goal.exchange-requires-clause-row
exchange-requires-clause-row g c =
    let rig = c.self.inside in
    let row = g.D.Device.row_of c.args.device in
    let state = g.D.Device.state_of c.args.device in
    let may = subst (λ (v : RigView). MayTakePlace v c.args.row row state) (sym c.self.view_is) c.in-Ok.ensures in
    may-row rig.checked.now rig.core rig.driver rig.shown_lines c.self.invariant c.args.row row state may

pub exchange-requires-clause-state : goal.exchange-requires-clause-state
exchange-requires-clause-state g c =
    let row = g.D.Device.row_of c.args.device in
    let state = g.D.Device.state_of c.args.device in
    let may = subst (λ (v : RigView). MayTakePlace v c.args.row row state) (sym c.self.view_is) c.in-Ok.ensures in
    may.state_is

pub invariant_of-self : goal.invariant_of-self
invariant_of-self g c =
    let rig = c.self.inside in
    subst (λ (core : CoreView). IsHeld rig.checked.now core rig.driver rig.shown_lines) (sym c.exchange.ensures.same)
    c.self.invariant

pub returns-in-Ok-clause-same : goal.returns-in-Ok-clause-same
returns-in-Ok-clause-same g c =
    let rig = c.self.inside in
    ap (λ (core : CoreView). rig_of rig.checked.now core rig.driver rig.shown_lines) c.exchange.ensures.same
    ∙ c.self.view_is

pub returns-in-Ok-clause-takes : goal.returns-in-Ok-clause-takes
returns-in-Ok-clause-takes g c =
    let rig = c.self.inside in
    let row = g.D.Device.row_of in
    let state = g.D.Device.state_of in
    let device = c.args.device in
    let taken = c.exchange.result in
    let may = subst (λ (v : RigView). MayTakePlace v c.args.row (row device) (state device)) (sym c.self.view_is)
    c.in-Ok.ensures in
    subst (λ (v : RigView). IsTakenOut v c.args.row (row taken) (state taken)) c.self.view_is
    (taken-out rig.checked.now rig.core rig.driver rig.shown_lines c.self.invariant c.args.row (row device)
    (state device) may (row taken) (state taken) c.exchange.ensures.row c.exchange.ensures.state)
