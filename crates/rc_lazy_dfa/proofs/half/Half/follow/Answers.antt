use Rattle.std.proofs.Common.{◌≡◌, ◌+◌, ◌<◌, ◌∙◌, length, inl, inr, refl, sym, subst, ap, arith}
use Rattle.rc_determinize.specs.Places.{state_of}
use Rattle.rc_lazy_dfa.specs.Cells.{column_of}
use Rattle.rc_lazy_dfa.specs.Stores.{Grows, Spends, frame_of, Names}
use Rattle.rc_lazy_dfa.specs.declared.store.Store.{Store}
use Rattle.rc_lazy_dfa.proofs.StepLemmas.{cell_inside, cell_says, column_by, letter_by, cell_made, unread_by, read_by, led_within, there_still, same_still}
use Rattle.rc_lazy_dfa.proofs.WriteLemmas.{spends_written}
use Rattle.rc_lazy_dfa.proofs.half.Half.follow.Goals as goal
use Rattle.rc_lazy_dfa.proofs.half.Half.follow.Goals.{After-column-column, After-may_read, In_ok-named}

column : (g : _) (c : After-column-column g) → c.column-column.result ≡ column_of g.f.classes g.f.width c.args.letter
column g c =
    column_by g.f c.args.automaton.now c.args.direction c.args.self.now.store.width c.column-column.result c.args.letter c.requires.0 c.requires.1.0.held.width
    c.column-column.ensures

pub column-column-requires-clause-letter : goal.column-column-requires-clause-letter
column-column-requires-clause-letter g c = letter_by g.f c.args.automaton.now c.args.direction c.args.letter c.requires.0 c.requires.1.1.1

inside : (g : _) (c : After-column-column g) → (c.args.row + c.column-column.result < length c.args.self.now.store.cells.items)
    × (c.args.row + c.column-column.result < 18446744073709551616)
inside g c =
    cell_inside g.f c.args.self.now.store c.args.row c.requires.1.0.held c.requires.1.1.0 c.column-column.result c.args.letter c.requires.1.1.1 (column g c)

pub overflow_add-row : goal.overflow_add-row
overflow_add-row g c = let at = inside g (goal.at.overflow_add-row g c).After-column-column in omega (arith, at.1)

pub index-known-requires : goal.index-known-requires
index-known-requires g c =
    let at = inside g (goal.at.index-known-requires g c).After-column-column in
    let size = c.args.self.now.store.cells.ok.0 in
    omega (arith, at.0, size)

pub returns-then-known-ne-UNKNOWN-clause-leads : goal.returns-then-known-ne-UNKNOWN-clause-leads
returns-then-known-ne-UNKNOWN-clause-leads g c = λ s r.
    cell_says g.f c.args.self.now.store c.args.row c.column-column.result c.index-known.result.now c.index-known.result.now c.args.letter s c.requires.1.0.held
    c.requires.1.1.1 (column g (goal.at.returns-then-known-ne-UNKNOWN-clause-leads g c).After-column-column) c.index-known.ensures c.if-known-ne-UNKNOWN.true r

pub write-requires : goal.write-requires
write-requires g c =
    let h = c.requires.1.0.held in
    let p = c.requires.1.1.0 in
    let unread = unread_by g.f (frame_of c.args.automaton.now c.args.direction) c.may_read.result c.args.letter c.requires.0 c.if-not-may_read.true (c.may_read.ensures c.args.direction).1 in (
      h,
      cell_made g.f c.args.self.now.store.states c.args.row c.column-column.result _ c.args.letter h.frame c.requires.1.1.1
          (column g (goal.at.write-requires g c).After-column-column) p.id p.there p.row_is (λ s r. inl (refl, unread)),
    )

pub returns-then-not-may_read-clause-leads : goal.returns-then-not-may_read-clause-leads
returns-then-not-may_read-clause-leads g c = λ s r.
    inl (refl, unread_by g.f (frame_of c.args.automaton.now c.args.direction) c.may_read.result c.args.letter c.requires.0 c.if-not-may_read.true (c.may_read.ensures c.args.direction).1)

pub name-requires : goal.name-requires
name-requires g c =
    let h = c.requires.1.0.held in
    let p = c.requires.1.1.0 in
    (c.in_ok-lead.ensures.half, led_within g.f c.args.self.now.store c.args.row h p c.args.letter (state_of c.lead.new.self.to) c.in_ok-lead.ensures.leads)

grows : (g : _) (c : In_ok-named g) → c.in_ok-named.named.kept ≡ Rattle.std.proofs.Common.true → Grows c.args.self.now.store.states c.name.new.self.store.states
grows g c kept = subst (λ (s : Store). Grows s.states c.name.new.self.store.states) c.in_ok-lead.ensures.store (c.in_ok-named.ensures.named.grows kept)

pub write-requires-then-named : goal.write-requires-then-named
write-requires-then-named g c =
    let h = c.requires.1.0.held in
    let p = c.requires.1.1.0 in
    let store = c.args.self.now.store in
    let new = c.name.new.self.store.states in
    let k = grows g (goal.at.write-requires-then-named g c).In_ok-named c.if-named.true in
    let readable = read_by g.f (frame_of c.args.automaton.now c.args.direction) c.may_read.result c.args.letter c.requires.0 c.if-not-may_read.false (c.may_read.ensures c.args.direction).0 in (
      c.in_ok-named.ensures.half.held,
      cell_made g.f new c.args.row c.column-column.result c.in_ok-named.named.cell c.args.letter h.frame c.requires.1.1.1
          (column g (goal.at.write-requires-then-named g c).After-column-column) p.id (there_still g.f store c.args.row h p new k) p.row_is
          (λ s r. inr (readable, (state_of c.lead.new.self.to, c.in_ok-lead.ensures.leads s (same_still g.f store c.args.row h p new k s r), c.in_ok-named.ensures.named.names))),
    )

pub returns-then-named-clause-leads : goal.returns-then-named-clause-leads
returns-then-named-clause-leads g c = λ s r.
    let readable = read_by g.f (frame_of c.args.automaton.now c.args.direction) c.may_read.result c.args.letter c.requires.0 c.if-not-may_read.false (c.may_read.ensures c.args.direction).0 in
    inr (
      readable,
      (
        state_of c.lead.new.self.to,
        c.in_ok-lead.ensures.leads s r,
        subst (λ xs. Names g.f.width xs c.in_ok-named.named.cell (state_of c.lead.new.self.to)) (sym c.write-then-named.ensures.writes.states) c.in_ok-named.ensures.named.names,
      ),
    )

pub returns-else-named-clause-leads : goal.returns-else-named-clause-leads
returns-else-named-clause-leads g c = λ s r.
    let readable = read_by g.f (frame_of c.args.automaton.now c.args.direction) c.may_read.result c.args.letter c.requires.0 c.if-not-may_read.false (c.may_read.ensures c.args.direction).0 in
    inr (readable, (state_of c.lead.new.self.to, c.in_ok-lead.ensures.leads s r, c.in_ok-named.ensures.named.names))

spent : (g : _) (c : In_ok-named g) → Spends g.f c.args.self.now.store c.name.new.self.store 1
spent g c = subst (λ (s : Store). Spends g.f s c.name.new.self.store 1) c.in_ok-lead.ensures.store c.in_ok-named.ensures.spends

pub returns-then-named-clause-spends : goal.returns-then-named-clause-spends
returns-then-named-clause-spends g c =
    spends_written g.f c.args.self.now.store c.name.new.self.store c.write-then-named.new.self 1
    (spent g (goal.at.returns-then-named-clause-spends g c).In_ok-named) c.write-then-named.ensures.writes

pub returns-else-named-clause-spends : goal.returns-else-named-clause-spends
returns-else-named-clause-spends g c = spent g (goal.at.returns-else-named-clause-spends g c).In_ok-named

pub returns-then-named-clause-grows : goal.returns-then-named-clause-grows
returns-then-named-clause-grows g c = λ kept.
    subst (λ xs. Grows c.args.self.now.store.states xs) (sym c.write-then-named.ensures.writes.states)
    (grows g (goal.at.returns-then-named-clause-grows g c).In_ok-named kept)

pub returns-in_err-named-clause-spends : goal.returns-in_err-named-clause-spends
returns-in_err-named-clause-spends g c = subst (λ (s : Store). Spends g.f s c.name.new.self.store 1) c.in_ok-lead.ensures.store c.in_err-named.ensures.spends
