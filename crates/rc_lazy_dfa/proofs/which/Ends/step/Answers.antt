use Rattle.std.proofs.Common.{◌≡◌, ◌∙◌, ◌⊎◌, ◌+◌, ◌<◌, ◌≤◌, true, false, length, slice_get, max, Some, sym, subst, ap, arith}
use Rattle.rc_dfa.specs.declared.automaton.Direction.TheVariants.{Overlapping}
use Rattle.rc_lazy_dfa.specs.Cells.{column_of}
use Rattle.rc_lazy_dfa.specs.declared.letters.Letter.TheVariants.{Alone}
use Rattle.rc_lazy_dfa.specs.Stores.{Held, frame_of}
use Rattle.rc_lazy_dfa.specs.Halves.{IsHalf, IsPlace}
use Rattle.rc_lazy_dfa.specs.Overlaps.{AreCollected, IsTold, IsUnderway}
use Rattle.rc_lazy_dfa.specs.declared.half.Half.{Half}
use Rattle.rc_lazy_dfa.specs.declared.store.Store.{Store}
use Rattle.rc_lazy_dfa.specs.declared.which.Ends.{Ends}
use Rattle.rc_lazy_dfa.proofs.StepLemmas.{read_by}
use Rattle.rc_lazy_dfa.proofs.WhichLemmas.{look_dies, look_full, look_goes, look_collects, look_some, none_collected, place_of_row, so_kept, still_collected}
use Rattle.rc_lazy_dfa.proofs.which.Ends.step.Goals as goal
use Rattle.rc_lazy_dfa.proofs.which.Ends.step.Goals.{then-not-named, else-not-named}

pub collect-requires : goal.collect-requires
collect-requires g c =
    let u = c.requires.1.1.0 in (
      c.requires.0,
      (
        c.insert.ensures.half,
        subst (λ (s : Store). IsPlace g.o.frame s c.args.stand.row) (sym c.insert.ensures.store)
            (place_of_row g.o c.args.self.now c.args.set.now c.args.stand.at c.args.stand.row u),
      ),
    )

pub follow-requires : goal.follow-requires
follow-requires g c =
    let u = c.requires.1.1.0 in
    let h = c.insert.ensures.half in
    let half = ap (λ (h : Half). h.store) c.collect.ensures.half in
    let byte : c.args.byte < 256 = let fits = c.ranges.byte.fits in omega (arith, fits) in (
      c.requires.0,
      (
        record {
          held = subst (λ (s : Store). Held g.o.frame s) (sym (c.serve.ensures.store ∙ half)) h.held;
          scratch = c.serve.ensures.scratch ∙ ap (λ (h : Half). h.scratch) c.collect.ensures.half ∙ h.scratch;
        },
        (
          subst (λ (s : Store). IsPlace g.o.frame s c.args.stand.row) (sym (c.serve.ensures.store ∙ half ∙ c.insert.ensures.store))
              (place_of_row g.o c.args.self.now c.args.set.now c.args.stand.at c.args.stand.row u),
          byte,
        ),
      ),
    )

pub returns-in_default : goal.returns-in_default
returns-in_default g c =
    let o = g.o in
    let r = c.requires in
    let u = r.1.1.0 in
    let read = read_by o.frame (frame_of c.args.automaton.now Overlapping) c.may_read.result (Alone (Some c.args.byte)) r.0 c.if-not-may_read.false (c.may_read.ensures Overlapping).0 in
    let byte : c.args.byte < 256 = let fits = c.ranges.byte.fits in omega (arith, fits) in
    let adds = c.insert.ensures.adds u.state u.in_row in
    look_some c.args.automaton.now o r.1.0 r.0 c.args.self.now c.args.set.now c.args.stand.at c.args.stand.row u c.args.byte r.1.1.1 byte read c.insert.new.set adds _ c.insert.ensures.half

pub returns-then-is_full : goal.returns-then-is_full
returns-then-is_full g c =
    let o = g.o in
    let r = c.requires in
    let u = r.1.1.0 in
    let read = read_by o.frame (frame_of c.args.automaton.now Overlapping) c.may_read.result (Alone (Some c.args.byte)) r.0 c.if-not-may_read.false (c.may_read.ensures Overlapping).0 in
    let byte : c.args.byte < 256 = let fits = c.ranges.byte.fits in omega (arith, fits) in
    let adds = c.insert.ensures.adds u.state u.in_row in
    look_full c.args.automaton.now o r.1.0 r.0 c.args.self.now c.args.set.now c.args.stand.at c.args.stand.row u c.args.byte r.1.1.1 byte read c.insert.new.set adds _ c.insert.ensures.half (c.is_full.ensures c.if-is_full.true)

pub returns-then-is_err : goal.returns-then-is_err
returns-then-is_err g c =
    let o = g.o in
    let r = c.requires in
    let u = r.1.1.0 in
    let read = read_by o.frame (frame_of c.args.automaton.now Overlapping) c.may_read.result (Alone (Some c.args.byte)) r.0 c.if-not-may_read.false (c.may_read.ensures Overlapping).0 in
    let byte : c.args.byte < 256 = let fits = c.ranges.byte.fits in omega (arith, fits) in
    let adds = c.insert.ensures.adds u.state u.in_row in
    look_some c.args.automaton.now o r.1.0 r.0 c.args.self.now c.args.set.now c.args.stand.at c.args.stand.row u c.args.byte r.1.1.1 byte read c.insert.new.set adds _ (subst (λ (h : Half). IsHalf o.frame h) (sym c.collect.ensures.half) c.insert.ensures.half)

pub returns-in_default-follow : goal.returns-in_default-follow
returns-in_default-follow g c =
    let o = g.o in
    let r = c.requires in
    let u = r.1.1.0 in
    let read = read_by o.frame (frame_of c.args.automaton.now Overlapping) c.may_read.result (Alone (Some c.args.byte)) r.0 c.if-not-may_read.false (c.may_read.ensures Overlapping).0 in
    let byte : c.args.byte < 256 = let fits = c.ranges.byte.fits in omega (arith, fits) in
    let adds = c.insert.ensures.adds u.state u.in_row in
    look_some c.args.automaton.now o r.1.0 r.0 c.args.self.now c.args.set.now c.args.stand.at c.args.stand.row u c.args.byte r.1.1.1 byte read c.insert.new.set adds _ c.follow.ensures.half

pub returns-then-named : goal.returns-then-named
returns-then-named g c =
    let o = g.o in
    let r = c.requires in
    let u = r.1.1.0 in
    let read = read_by o.frame (frame_of c.args.automaton.now Overlapping) c.may_read.result (Alone (Some c.args.byte)) r.0 c.if-not-may_read.false (c.may_read.ensures Overlapping).0 in
    let byte : c.args.byte < 256 = let fits = c.ranges.byte.fits in omega (arith, fits) in
    let adds = c.insert.ensures.adds u.state u.in_row in
    elim c.if-not-named.branch [
      | then-not-named w ↦ subst (λ (e : Ends). IsTold o e false c.insert.new.set) (sym w.self-is) (look_some c.args.automaton.now o r.1.0 r.0 c.args.self.now c.args.set.now c.args.stand.at c.args.stand.row u c.args.byte r.1.1.1 byte read c.insert.new.set adds _ c.follow.ensures.half)
      | else-not-named w ↦ subst (λ (e : Ends). IsTold o e false c.insert.new.set) (sym w.self-is) (look_some c.args.automaton.now o r.1.0 r.0 c.args.self.now c.args.set.now c.args.stand.at c.args.stand.row u c.args.byte r.1.1.1 byte read c.insert.new.set adds _ c.follow.ensures.half)
    ]

pub returns-then-has_died : goal.returns-then-has_died
returns-then-has_died g c =
    let o = g.o in
    let r = c.requires in
    let u = r.1.1.0 in
    let read = read_by o.frame (frame_of c.args.automaton.now Overlapping) c.may_read.result (Alone (Some c.args.byte)) r.0 c.if-not-may_read.false (c.may_read.ensures Overlapping).0 in
    let byte : c.args.byte < 256 = let fits = c.ranges.byte.fits in omega (arith, fits) in
    let adds = c.insert.ensures.adds u.state u.in_row in
    let was = c.serve.ensures.store ∙ ap (λ (h : Half). h.store) c.collect.ensures.half ∙ c.insert.ensures.store in
    let each = c.in-Ok.ensures.each u.state u.in_row in
    let died = sym c.has_died.ensures ∙ c.if-has_died.true in
    elim c.if-not-named.branch [
      | then-not-named w ↦ subst (λ (e : Ends). IsTold o e true c.insert.new.set) (sym w.self-is)
          (look_dies c.args.automaton.now o r.1.0 r.0 c.args.self.now c.args.set.now c.args.stand.at c.args.stand.row u c.args.byte r.1.1.1 byte read c.insert.new.set adds each c.serve.new.self.store was _ c.follow.ensures.half c.in-Ok-follow.named.cell c.if-named.false c.in-Ok-follow.ensures.leads died)
      | else-not-named w ↦ subst (λ (e : Ends). IsTold o e true c.insert.new.set) (sym w.self-is)
          (look_dies c.args.automaton.now o r.1.0 r.0 c.args.self.now c.args.set.now c.args.stand.at c.args.stand.row u c.args.byte r.1.1.1 byte read c.insert.new.set adds each c.serve.new.self.store was _ c.follow.ensures.half c.in-Ok-follow.named.cell c.if-named.false c.in-Ok-follow.ensures.leads died)
    ]

pub returns : goal.returns
returns g c =
    let o = g.o in
    let r = c.requires in
    let u = r.1.1.0 in
    let read = read_by o.frame (frame_of c.args.automaton.now Overlapping) c.may_read.result (Alone (Some c.args.byte)) r.0 c.if-not-may_read.false (c.may_read.ensures Overlapping).0 in
    let byte : c.args.byte < 256 = let fits = c.ranges.byte.fits in omega (arith, fits) in
    let adds = c.insert.ensures.adds u.state u.in_row in
    let was = c.serve.ensures.store ∙ ap (λ (h : Half). h.store) c.collect.ensures.half ∙ c.insert.ensures.store in
    let each = c.in-Ok.ensures.each u.state u.in_row in
    let alive = sym c.has_died.ensures ∙ c.if-has_died.false in
    let states = c.follow.new.self.store.states in
    let items = ap (λ v. v.items) c.insert.ensures.collected in
    let short = subst (λ xs. length c.collect.new.self.collected.items ≤ max (length xs) (c.args.stand.row + column_of o.frame.classes o.frame.width (Alone (Some c.args.byte)) + 1))
    items c.collect.ensures.short in
    elim c.if-not-named.branch [
      | then-not-named w ↦ subst (λ (e : Ends). IsUnderway o e (c.args.stand.at + 1) c.row_of.result c.insert.new.set) (sym w.self-is)
          (look_goes c.args.automaton.now o r.1.0 r.0 c.args.self.now c.args.set.now c.args.stand.at c.args.stand.row u c.args.byte r.1.1.1 byte read c.insert.new.set adds each c.serve.new.self.store was _ c.follow.ensures.half c.in-Ok-follow.named.cell c.if-named.false c.in-Ok-follow.ensures.leads
          c.row_of.result c.row_of.ensures alive
          (subst (λ xs. AreCollected o.frame states xs c.insert.new.set) (sym w.clear.ensures.items) (none_collected o.frame states c.insert.new.set)))
      | else-not-named w ↦ subst (λ (e : Ends). IsUnderway o e (c.args.stand.at + 1) c.row_of.result c.insert.new.set) (sym w.self-is)
          (look_goes c.args.automaton.now o r.1.0 r.0 c.args.self.now c.args.set.now c.args.stand.at c.args.stand.row u c.args.byte r.1.1.1 byte read c.insert.new.set adds each c.serve.new.self.store was _ c.follow.ensures.half c.in-Ok-follow.named.cell c.if-named.false c.in-Ok-follow.ensures.leads
          c.row_of.result c.row_of.ensures alive
          (still_collected o.frame c.serve.new.self.store.states states c.collect.new.self.collected.items c.insert.new.set
          (c.in-Ok-follow.ensures.grows (so_kept c.in-Ok-follow.named.kept w.if-not-named.false))
          (look_collects c.args.automaton.now o r.1.0 r.0 c.args.self.now c.args.set.now c.args.stand.at c.args.stand.row u c.args.byte r.1.1.1 byte read c.insert.new.set adds each c.serve.new.self.store was (record { half = c.follow.new.self; places = c.collect.new.self.places; collected = c.collect.new.self.collected })
          c.follow.ensures.half c.in-Ok-follow.named.cell c.if-named.false c.in-Ok-follow.ensures.leads c.collect.new.self.collected.items short
          (λ index here. subst (λ xs. (slice_get xs index ≡ Some true) ⊎ (index ≡ c.args.stand.row + column_of o.frame.classes o.frame.width (Alone (Some c.args.byte)))) items
          (c.collect.ensures.collected index here)))))
    ]
