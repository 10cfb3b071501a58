use Rattle.rc_iter.proofs.Asked.{now, onward}
use Rattle.rc_iter.proofs.ask.ask.Goals as goal

pub returns-clause-lawful : goal.returns-clause-lawful
returns-clause-lawful g c = onward g.F.FnMut _ _ _ _ _ c.requires.lawful c.finder.ensures

pub returns-clause-keeps : goal.returns-clause-keeps
returns-clause-keeps g c = (now g.F.FnMut _ _ _ _ _ c.requires.lawful c.finder.ensures).keeps

pub returns-clause-within : goal.returns-clause-within
returns-clause-within g c = (now g.F.FnMut _ _ _ _ _ c.requires.lawful c.finder.ensures).within

pub returns-clause-exact : goal.returns-clause-exact
returns-clause-exact g c find h = now g.F.FnMut _ _ _ _ _ h c.finder.ensures

pub returns-clause-stays : goal.returns-clause-stays
returns-clause-stays g c find h = onward g.F.FnMut _ _ _ _ _ h c.finder.ensures
