use Rattle.rc_determinize.proofs.OpenLemmas.{added}
use Rattle.rc_determinize.proofs.open.add.Goals as goal

pub returns : goal.returns
returns c = added c.args.listed.now c.insert.new.self c.args.place c.insert.result c.insert.ensures.member c.insert.ensures.after
