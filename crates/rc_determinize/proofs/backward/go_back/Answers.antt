use Rattle.std.proofs.Common.{◌<◌, ap, ◌∙◌, refl, arith, length}
use Rattle.rc_determinize.specs.Machine.{add_all}
use Rattle.rc_determinize.specs.Sparse.{Members}
use Rattle.rc_determinize.specs.Reversed.{passes, reads_over, sources, into_at}
use Rattle.rc_determinize.proofs.BackLemmas.{sets_out, here_below, goes_back, all_back, all_got}
use Rattle.rc_determinize.proofs.backward.go_back.Goals as goal

pub places-init : goal.places-init
places-init c =
    sets_out c.args.reversed.now c.args.behind c.args.ahead c.args.before c.args.entered.now.items c.args.entered.now c.args.listed.now refl
    c.requires.entered.0 c.requires.entered.1 c.requires.listed

pub edges_into-edges-requires : goal.edges_into-edges-requires
edges_into-edges-requires c =
    let lt : c.places.index < length c.places.entered.items = let a = c.places-test.true in let b = c.len.ensures.value in omega (arith, a, b) in
    let k = here_below c.args.reversed.now c.args.behind c.args.ahead c.args.before c.args.entered.now.items c.places.entered c.places.listed c.places.index lt c.places.invariant in
    rw c.get.ensures k

pub add_still-requires : goal.add_still-requires
add_still-requires c = rw (c.edges_into-edges.ensures, c.places.invariant.entered_size) (c.requires.edges c.get.result)

pub add_reading-requires : goal.add_reading-requires
add_reading-requires c = rw (c.edges_into-edges.ensures, c.places.invariant.got_size) (c.requires.edges c.get.result)

pub places-preserved : goal.places-preserved
places-preserved c =
    let lt : c.places.index < length c.places.entered.items = let a = c.places-test.true in let b = c.len.ensures.value in omega (arith, a, b) in
    let es = c.edges_into-edges.ensures ∙ ap (λ p. into_at c.args.reversed.now p) c.get.ensures in
    goes_back c.args.reversed.now c.args.behind c.args.ahead c.args.before c.args.entered.now.items c.requires.edges
    c.places.entered c.add_still.new.set c.places.listed c.add_reading.new.set c.places.index lt
    (c.add_still.ensures ∙ ap (λ l. let m : Members = record c.places.entered { items = add_all c.places.entered.items (sources (passes c.args.behind c.args.ahead) l) } in m) es)
    (c.add_reading.ensures ∙ ap (λ l. let m : Members = record c.places.listed { items = add_all c.places.listed.items (sources (reads_over c.args.before) l) } in m) es)
    c.places.invariant

pub places-smaller : goal.places-smaller
places-smaller c =
    let a = c.places-test.true in let b = c.len.ensures.value in let few = c.len.ensures.set.few in let size = c.places.invariant.entered_size in
    omega (arith, a, b, few, size)

pub returns-clause-entered : goal.returns-clause-entered
returns-clause-entered c places rev =
    all_back places c.args.behind c.args.ahead c.args.before c.args.entered.now.items c.places.entered c.places.listed c.places.index
    (let a = c.places-test.false in let b = c.len.ensures.value in omega (arith, a, b)) (c.places.invariant.means places rev)

pub returns-clause-listed : goal.returns-clause-listed
returns-clause-listed c places rev =
    all_got places c.args.behind c.args.ahead c.args.before c.args.entered.now.items c.places.entered c.places.listed c.places.index
    (let a = c.places-test.false in let b = c.len.ensures.value in omega (arith, a, b)) (c.places.invariant.means places rev)
