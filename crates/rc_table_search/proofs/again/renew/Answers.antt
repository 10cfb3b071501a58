use Rattle.std.proofs.Common.{◌∙◌, arith}
use Rattle.rc_table_search.proofs.again.renew.Goals as goal

pub returns : goal.returns
returns g c seen bound enough t = record {
  past = let e = c.new.ensures.era ∙ c.era.ensures in omega (arith, e);
  marks = λ same below k has. absurd (c.new.ensures.empty k has);
}
