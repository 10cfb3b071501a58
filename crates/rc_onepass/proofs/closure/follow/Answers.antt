use Rattle.std.proofs.Common.{◌≡◌, ◌∙◌, None, ap, arith, drop, length, refl, slice_index_or, subst, sym, take, ◌++◌}
use Rattle.rc_program.specs.Places.{place_of, places_of}
use Rattle.rc_onepass.specs.Rows.{Fills}
use Rattle.rc_onepass.proofs.ClosureLemmas.{followed, place_there, written}
use Rattle.rc_onepass.proofs.closure.follow.Goals as goal

pub returns-clause-followed : goal.returns-clause-followed
returns-clause-followed c single =
    let old = c.args.row.now.transitions in
    let same : take old.len (c.enter.new.transitions ++ drop (length c.enter.new.transitions) old.items) ≡ c.enter.new.transitions =
    written c.enter.new.transitions (drop (length c.enter.new.transitions) old.items) old.len
    (let a = c.enter.ensures.fills.long in let b = ap (λ ts. length ts) c.deref_mut.ensures.value in let o = old.ok.0 in omega (arith, a, b, o)) in
    followed (places_of c.args.places.now) c.args.row.now _ c.args.stack.now.items c.push_silent.new.stack.items c.args.visit
    (place_of c.in-Some.place.now) c.in_ok-slots.slots
    (place_there c.args.places.now c.args.visit.place c.in-Some.place.now c.in-Some.ensures.lookup.3.0 c.in-Some.ensures.lookup.1)
    (subst (λ ts. Fills old.items ts) (sym same) (subst (λ ts. Fills ts c.enter.new.transitions) c.deref_mut.ensures.value c.enter.ensures.fills))
    (c.if-not-enter_end.ensures.kept refl) (c.if-not-enter_end.ensures.entered refl)
    c.in_ok-slots.ensures.grows c.in_ok-slots.ensures.names c.in_ok-push_silent.ensures.stays c.in_ok-push_silent.ensures.pushed
    (λ b n l takes. ap (λ ts. slice_index_or ts b None) same ∙ c.enter.ensures.entered single b n l takes)
