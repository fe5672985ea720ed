use Rattle.pin_rig.proofs.rig.Rig.act.Goals as goal

pub take-requires : goal.take-requires
take-requires g c = (c.args.input, c.in_ok-stimulus.ensures)
