use Rattle.std.proofs.Common.{◌≡◌, ◌+◌, ◌*◌, ◌≤◌, ◌∙◌, length, vec_len, vec_capacity, ap, sym, arith, length-append}
use Rattle.std.proofs.lemmas.Nat.{row_fits}
use Rattle.std.proofs.Math.Nat.{mul-le-mul_left}
use Rattle.rc_pikevm.specs.Threads.{ThreadList}
use Rattle.rc_pikevm.proofs.RowLemmas.{length-threads_of, threads_of_append}
use Rattle.rc_pikevm.proofs.threads.Threads.push.Goals as goal

pub push_reserved-requires : goal.push_reserved-requires
push_reserved-requires c =
    let a = c.self.inside in
    let len : length a.heads.items ≡ length c.args.self.now.items =
    rw (← c.self.view_is) (sym (length-threads_of a.width a.heads.items a.rows.items)) in
    let room : vec_capacity a.heads ≡ c.args.self.now.room = ap (λ (t : ThreadList). t.room) c.self.view_is in
    omega arith

pub append-requires : goal.append-requires
append-requires c =
    let a = c.self.inside in
    let len : length a.heads.items ≡ length c.args.self.now.items =
    rw (← c.self.view_is) (sym (length-threads_of a.width a.heads.items a.rows.items)) in
    let room : vec_capacity a.heads ≡ c.args.self.now.room = ap (λ (t : ThreadList). t.room) c.self.view_is in
    let width : a.width ≡ c.args.self.now.width = ap (λ (t : ThreadList). t.width) c.self.view_is in
    let fits : vec_len a.heads * a.width + a.width ≤ vec_capacity a.heads * a.width =
    row_fits (vec_len a.heads) a.width (vec_capacity a.heads) a.width (omega arith) (omega arith) in
    let narrow : vec_capacity a.heads * a.width ≤ vec_capacity a.heads * a.most = mul-le-mul_left (vec_capacity a.heads) (omega (arith, c.self.invariant)) in
    omega (arith, c.self.invariant)

pub invariant_of-self : goal.invariant_of-self
invariant_of-self c =
    let a = c.self.inside in
    let len : length a.heads.items ≡ length c.args.self.now.items =
    rw (← c.self.view_is) (sym (length-threads_of a.width a.heads.items a.rows.items)) in
    let room : vec_capacity a.heads ≡ c.args.self.now.room = ap (λ (t : ThreadList). t.room) c.self.view_is in
    let width : a.width ≡ c.args.self.now.width = ap (λ (t : ThreadList). t.width) c.self.view_is in
    let cells = ap length c.append.ensures.items ∙ length-append a.rows.items c.args.slots.now in
    rw (c.push_reserved.ensures.len, c.push_reserved.ensures.capacity, c.append.ensures.capacity) (omega (arith, c.append.new.cells.ok.0))

pub returns : goal.returns
returns c =
    let a = c.self.inside in
    let len : length a.heads.items ≡ length c.args.self.now.items =
    rw (← c.self.view_is) (sym (length-threads_of a.width a.heads.items a.rows.items)) in
    let width : a.width ≡ c.args.self.now.width = ap (λ (t : ThreadList). t.width) c.self.view_is in
    rw (c.push_reserved.ensures.items, c.append.ensures.items, c.push_reserved.ensures.capacity, c.append.ensures.capacity, ← c.self.view_is)
    (ap (λ ts. record { items = ts; room = vec_capacity a.heads; cells = vec_capacity a.rows; most = a.most; width = a.width })
    (threads_of_append a.width a.heads.items a.rows.items c.args.slots.now c.args.head
    (rw (← a.rows.ok.0, ← a.heads.ok.0) c.self.invariant.0) (omega arith)))
