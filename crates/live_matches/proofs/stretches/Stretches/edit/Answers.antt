use Rattle.live_matches.proofs.Stretched.{edit_behind, edit_below, edit_fits, over_edit}
use Rattle.live_matches.proofs.stretches.Stretches.edit.Goals as goal

pub edit-requires-clause-edit : goal.edit-requires-clause-edit
edit-requires-clause-edit c =
    let near = c.drop_near.ensures in
    edit_fits c.args.edit c.args.self.now.entries c.settle_to.new.self c.drop_near.new.entries c.settle_to.ensures near.gone near.far c.requires.fits

pub edit-requires-clause-before : goal.edit-requires-clause-before
edit-requires-clause-before c =
    let near = c.drop_near.ensures in
    edit_below c.args.edit c.args.self.now.entries c.settle_to.new.self c.drop_near.new.entries c.settle_to.ensures near.gone near.far

pub edit-requires-clause-after : goal.edit-requires-clause-after
edit-requires-clause-after c =
    let near = c.drop_near.ensures in
    edit_behind c.args.edit c.args.self.now.entries c.settle_to.new.self c.drop_near.new.entries c.settle_to.ensures near.gone near.far c.requires.rising

pub returns : goal.returns
returns c =
    let near = c.drop_near.ensures in
    over_edit c.args.edit c.args.self.now.entries c.settle_to.new.self c.drop_near.new.entries c.settle_to.ensures near.gone near.far
    c.edit.new.self c.edit.ensures
