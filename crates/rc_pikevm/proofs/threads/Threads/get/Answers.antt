use Rattle.std.proofs.Common.{◌≡◌, ◌+◌, ◌-◌, ◌*◌, ◌≤◌, length, vec_len, sym, arith, rules}
use Rattle.std.proofs.lemmas.Nat.{row_fits}
use Rattle.rc_pikevm.proofs.RowLemmas.{length-threads_of, slice_get-threads_of}
use Rattle.rc_pikevm.proofs.threads.Threads.get.Goals as goal

pub index-head-requires : goal.index-head-requires
index-head-requires c =
    let a = c.self.inside in
    let len : length a.heads.items ≡ length c.args.self.now.items =
    rw (← c.self.view_is) (sym (length-threads_of a.width a.heads.items a.rows.items)) in
    search rules

pub overflow_mul-from : goal.overflow_mul-from
overflow_mul-from c =
    let a = c.self.inside in
    let len : length a.heads.items ≡ length c.args.self.now.items =
    rw (← c.self.view_is) (sym (length-threads_of a.width a.heads.items a.rows.items)) in
    let fits : c.args.index * a.width + a.width ≤ vec_len a.heads * a.width =
    row_fits c.args.index a.width (vec_len a.heads) a.width (omega arith) (omega arith) in
    search rules

pub overflow_add-result : goal.overflow_add-result
overflow_add-result c =
    let a = c.self.inside in
    let len : length a.heads.items ≡ length c.args.self.now.items =
    rw (← c.self.view_is) (sym (length-threads_of a.width a.heads.items a.rows.items)) in
    let fits : c.args.index * a.width + a.width ≤ vec_len a.heads * a.width =
    row_fits c.args.index a.width (vec_len a.heads) a.width (omega arith) (omega arith) in
    search rules

pub offset_bounds-deref-from : goal.offset_bounds-deref-from
offset_bounds-deref-from c =
    let a = c.self.inside in
    let len : length a.heads.items ≡ length c.args.self.now.items =
    rw (← c.self.view_is) (sym (length-threads_of a.width a.heads.items a.rows.items)) in
    let fits : c.args.index * a.width + a.width ≤ vec_len a.heads * a.width =
    row_fits c.args.index a.width (vec_len a.heads) a.width (omega arith) (omega arith) in
    search rules

pub slice_bounds-result-end : goal.slice_bounds-result-end
slice_bounds-result-end c =
    let a = c.self.inside in
    let len : length a.heads.items ≡ length c.args.self.now.items =
    rw (← c.self.view_is) (sym (length-threads_of a.width a.heads.items a.rows.items)) in
    let fits : c.args.index * a.width + a.width ≤ vec_len a.heads * a.width =
    row_fits c.args.index a.width (vec_len a.heads) a.width (omega arith) (omega arith) in
    search rules

pub returns-clause-item : goal.returns-clause-item
returns-clause-item c =
    let a = c.self.inside in
    let len : length a.heads.items ≡ length c.args.self.now.items =
    rw (← c.self.view_is) (sym (length-threads_of a.width a.heads.items a.rows.items)) in
    let width : c.args.index * a.width + a.width - c.args.index * a.width ≡ a.width = omega arith in
    rw (← c.self.view_is, width, c.deref.ensures.value, c.index-head.ensures)
    (slice_get-threads_of a.width a.heads.items a.rows.items c.args.index c.index-head.result.now (omega arith))
