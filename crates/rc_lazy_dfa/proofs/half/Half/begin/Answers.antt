use Rattle.std.proofs.Common.{◌≡◌, ◌+◌, ◌*◌, ◌<◌, ◌∙◌, slice_index_or, inl, inr, refl, sym, subst, ap, arith}
use Rattle.rc_determinize.specs.Places.{state_of}
use Rattle.rc_lazy_dfa.specs.Cells.{column_of}
use Rattle.rc_lazy_dfa.specs.Stores.{BeginsByLetter, MayReadLetter, frame_of, IsColumn, Names, mode_of}
use Rattle.rc_lazy_dfa.proofs.StepLemmas.{column_is, start_fits, start_inside, start_says, column_by, letter_by, start_made, unread_by, read_by, begun_by, begins_within}
use Rattle.rc_lazy_dfa.proofs.half.Half.begin.Goals as goal
use Rattle.rc_lazy_dfa.proofs.half.Half.begin.Goals.{After-mode-mode, In_ok-begin}

column : (g : _) (c : After-mode-mode g) → c.column-column.result ≡ column_of g.f.classes g.f.width c.args.letter
column g c =
    column_by g.f c.args.automaton.now c.args.direction c.args.self.now.store.width c.column-column.result c.args.letter c.requires.0 c.requires.1.0.held.width
    c.column-column.ensures

index : (g : _) (c : After-mode-mode g) → c.mode-mode.result * c.args.self.now.store.width + c.column-column.result ≡ mode_of c.args.anchored.now * g.f.width + c.column-column.result
index g c =
    ap (λ n. n * c.args.self.now.store.width + c.column-column.result) c.mode-mode.ensures.value
    ∙ ap (λ w. mode_of c.args.anchored.now * w + c.column-column.result) c.requires.1.0.held.width

pub column-column-requires-clause-letter : goal.column-column-requires-clause-letter
column-column-requires-clause-letter g c = letter_by g.f c.args.automaton.now c.args.direction c.args.letter c.requires.0 c.requires.1.1.1

pub overflow_mul-mode : goal.overflow_mul-mode
overflow_mul-mode g c =
    let h = start_fits g.f c.args.self.now.store c.args.anchored.now c.mode-mode.result c.column-column.result c.args.letter c.requires.1.0.held c.requires.1.1.0
    c.requires.1.1.1 c.mode-mode.ensures.value (column g (goal.at.overflow_mul-mode g c).After-mode-mode) in
    omega (arith, h)

pub overflow_add-mode : goal.overflow_add-mode
overflow_add-mode g c =
    let h = start_fits g.f c.args.self.now.store c.args.anchored.now c.mode-mode.result c.column-column.result c.args.letter c.requires.1.0.held c.requires.1.1.0
    c.requires.1.1.1 c.mode-mode.ensures.value (column g (goal.at.overflow_add-mode g c).After-mode-mode) in
    omega (arith, h)

pub index-known-requires : goal.index-known-requires
index-known-requires g c =
    let h = c.requires.1.0.held in
    let s = c.args.self.now.store in
    let at : IsColumn g.f c.args.letter c.column-column.result =
    subst (λ k. IsColumn g.f c.args.letter k) (sym (column g (goal.at.index-known-requires g c).After-mode-mode)) (column_is g.f c.args.letter h.frame c.requires.1.1.1) in
    let inside = start_inside g.f s c.args.anchored.now c.column-column.result c.args.letter h c.requires.1.1.0 at in
    subst (λ n. n < s.starts.len) (sym (index g (goal.at.index-known-requires g c).After-mode-mode))
    (subst (λ n. mode_of c.args.anchored.now * g.f.width + c.column-column.result < n) (sym s.starts.ok.0) inside)

pub returns-then-known-ne-UNKNOWN-clause-begins : goal.returns-then-known-ne-UNKNOWN-clause-begins
returns-then-known-ne-UNKNOWN-clause-begins g c =
    let d = (goal.at.returns-then-known-ne-UNKNOWN-clause-begins g c).After-mode-mode in
    let s = c.args.self.now.store in
    let cell = c.index-known.result.now in
    let value : cell ≡ slice_index_or s.starts.items (mode_of c.args.anchored.now * g.f.width + c.column-column.result) cell =
    c.index-known.ensures ∙ ap (λ i. slice_index_or s.starts.items i cell) (index g d) in
    start_says g.f s c.args.anchored.now c.column-column.result cell cell c.args.letter c.requires.1.0.held c.requires.1.1.0 c.requires.1.1.1 (column g d) value
    c.if-known-ne-UNKNOWN.true

pub write_start-requires : goal.write_start-requires
write_start-requires g c =
    let h = c.requires.1.0.held in
    let unread = unread_by g.f (frame_of c.args.automaton.now c.args.direction) c.may_read.result c.args.letter c.requires.0 c.if-not-may_read.true (c.may_read.ensures c.args.direction).1 in (
      h,
      start_made g.f c.args.self.now.store.states c.args.anchored.now c.mode-mode.result c.column-column.result _ c.args.letter h.frame c.requires.1.1.1
          c.mode-mode.ensures.value c.requires.1.1.0 (column g (goal.at.write_start-requires g c).After-mode-mode) (inl (refl, unread)),
    )

pub returns-then-not-may_read-clause-begins : goal.returns-then-not-may_read-clause-begins
returns-then-not-may_read-clause-begins g c =
    inl (refl, unread_by g.f (frame_of c.args.automaton.now c.args.direction) c.may_read.result c.args.letter c.requires.0 c.if-not-may_read.true (c.may_read.ensures c.args.direction).1)

begun : (g : _) (c : In_ok-begin g) → BeginsByLetter g.f c.args.anchored.now c.args.letter (state_of c.begin.new.to)
begun g c =
    begun_by g.f (frame_of c.args.automaton.now c.args.direction) (state_of c.begin.new.to) c.args.anchored.now c.args.letter c.requires.0 c.in_ok-begin.ensures

readable : (g : _) (c : In_ok-begin g) → MayReadLetter g.f.machine c.args.letter
readable g c =
    read_by g.f (frame_of c.args.automaton.now c.args.direction) c.may_read.result c.args.letter c.requires.0 c.if-not-may_read.false (c.may_read.ensures c.args.direction).0

pub name-requires : goal.name-requires
name-requires g c =
    let h = c.requires.1.0 in (
      record { held = h.held; scratch = h.scratch },
      begins_within g.f (state_of c.begin.new.to) c.args.anchored.now c.args.letter h.held.frame (begun g (goal.at.name-requires g c).In_ok-begin),
    )

pub write_start-requires-then-named : goal.write_start-requires-then-named
write_start-requires-then-named g c =
    let h = c.requires.1.0.held in
    let d = goal.at.write_start-requires-then-named g c in (
      c.in_ok-named.ensures.half.held,
      start_made g.f c.name.new.self.store.states c.args.anchored.now c.mode-mode.result c.column-column.result c.in_ok-named.named.cell c.args.letter h.frame c.requires.1.1.1
          c.mode-mode.ensures.value c.requires.1.1.0 (column g d.After-mode-mode)
          (inr (readable g d.In_ok-begin, (state_of c.begin.new.to, begun g d.In_ok-begin, c.in_ok-named.ensures.named.names))),
    )

pub returns-then-named-clause-begins : goal.returns-then-named-clause-begins
returns-then-named-clause-begins g c =
    let d = goal.at.returns-then-named-clause-begins g c in
    inr (
      readable g d.In_ok-begin,
      (
        state_of c.begin.new.to,
        begun g d.In_ok-begin,
        subst (λ xs. Names g.f.width xs c.in_ok-named.named.cell (state_of c.begin.new.to)) (sym c.write_start-then-named.ensures.writes.states) c.in_ok-named.ensures.named.names,
      ),
    )

pub returns-else-named-clause-begins : goal.returns-else-named-clause-begins
returns-else-named-clause-begins g c =
    let d = goal.at.returns-else-named-clause-begins g c in
    inr (readable g d.In_ok-begin, (state_of c.begin.new.to, begun g d.In_ok-begin, c.in_ok-named.ensures.named.names))
