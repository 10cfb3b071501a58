use Rattle.std.proofs.Common.{arith}
use Rattle.rc_program.specs.Programs.{search_of}
use Rattle.rc_pikevm.proofs.ReachLemmas.{search_inside, settled_whole}
use Rattle.rc_pikevm.proofs.reach.find_whole.Goals as goal

pub returns-clause-settled : goal.returns-clause-settled
returns-clause-settled g c =
    settled_whole c.args.kind (search_of c.args.program.now c.args.input.now) (search_inside c.args.program.now c.args.input.now) c.up_to_slice_end-reach.result
    (let k = c.find_by_kind-found.ensures.keeps in
    let value = rw (k.slice, k.content) at c.up_to_slice_end-reach.ensures.value in
    let fits = rw (k.slice, k.content) at c.up_to_slice_end-reach.ensures.fits in
    omega (arith, value, fits))
