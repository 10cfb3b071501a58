use Rattle.std.proofs.Common.{◌≡◌, length, sym, arith}
use Rattle.rc_pikevm.proofs.RowLemmas.{length-threads_of}
use Rattle.rc_pikevm.proofs.threads.Threads.len.Goals as goal

pub returns : goal.returns
returns c =
    let a = c.self.inside in
    let len : length a.heads.items ≡ length c.args.self.now.items =
    rw (← c.self.view_is) (sym (length-threads_of a.width a.heads.items a.rows.items)) in
    omega arith
