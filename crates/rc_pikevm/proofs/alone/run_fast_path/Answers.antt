use Rattle.std.proofs.Common.{sym}
use Rattle.rc_pikevm.proofs.UnderwayLemmas.{widened}
use Rattle.rc_pikevm.proofs.alone.run_fast_path.Goals as goal

pub returns-clause-come : goal.returns-clause-come
returns-clause-come g c rule from is p =
    let wide = c.begin-here.ensures.same.width in
    widened wide (c.go_alone.ensures.come rule from (widened (sym wide) (c.begin-here.ensures.come rule from is p)))
