use Rattle.std.proofs.Common.{◌<◌, ◌∙◌, ap, sym, subst, refl, [], false, ◌↔◌}
use Rattle.rc_determinize.specs.Sparse.{Members}
use Rattle.rc_determinize.specs.Places.{state_of}
use Rattle.rc_determinize.specs.Steps.{HasPlace}
use Rattle.rc_determinize.proofs.BackLemmas.{begun_are, is_prior}
use Rattle.rc_determinize.proofs.backward.prior.Goals as goal

pub add_list-requires : goal.add_list-requires
add_list-requires c q h =
    rw (ap (λ (m : Members). m.capacity) c.clear.ensures, c.scratch.view_is, c.requires.scratch)
    (c.requires.below q (subst (λ l. HasPlace q l) c.deref.ensures.value h))

pub go_back-requires : goal.go_back-requires
go_back-requires c =
    let size = ap (λ (m : Members). m.capacity) c.add_list.ensures ∙ ap (λ (m : Members). m.capacity) c.clear.ensures ∙ c.scratch.view_is ∙ c.requires.scratch in
    record {
      edges = c.requires.edges;
      entered = (
        size,
        λ q h. c.requires.below q (subst (λ l. HasPlace q l) c.deref.ensures.value
            ((begun_are c.clear.new.self c.add_list.new.set c.deref.result.now (ap (λ (m : Members). m.items) c.clear.ensures) c.add_list.ensures q).0 h)),
      );
      listed = c.clear-2.ensures ∙ ap (λ n. let m : Members = record { capacity = n; items = [] } in m) (c.scratch.invariant ∙ c.scratch.view_is ∙ c.requires.scratch);
    }

pub first_root-to-requires : goal.first_root-to-requires
first_root-to-requires c q h = subst (λ n. q < n) (sym c.go_back.ensures.sizes.0) (c.requires.roots q h)

pub returns-clause-prior : goal.returns-clause-prior
returns-clause-prior c places rev =
    is_prior places c.args.roots.now (state_of c.args.from.now) c.args.sides
    (state_of (record { list = c.rise_to.new.list; beside = c.args.sides.far; goes_on = false; matched = c.first_root-to.result }))
    c.add_list.new.set.items c.go_back.new.entered.items c.go_back.new.listed.items
    (λ q. subst (λ l. HasPlace q c.add_list.new.set.items ↔ HasPlace q l) c.deref.ensures.value
    (begun_are c.clear.new.self c.add_list.new.set c.deref.result.now (ap (λ (m : Members). m.items) c.clear.ensures) c.add_list.ensures q))
    (c.go_back.ensures.entered places rev) (c.go_back.ensures.listed places rev) c.in_ok-rise_to.ensures.members c.in_ok-rise_to.ensures.rising
    c.first_root-to.ensures refl refl
