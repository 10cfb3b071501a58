use Rattle.std.proofs.Common.{subst, get_or, ⊎_elim, arith}
use Rattle.std.proofs.lemmas.Bool.{cases_eq}
use Rattle.rc_determinize.specs.Steps.{HasPlace}
use Rattle.rc_determinize.proofs.SparseLemmas.{has_at}
use Rattle.rc_determinize.proofs.BackLemmas.{first_at, first_none}
use Rattle.rc_determinize.proofs.backward.first_root.Goals as goal

pub contains-requires : goal.contains-requires
contains-requires c = c.requires _ (has_at c.args.roots.now c.loop-i.i c.loop-i-test.true)

pub returns-then-contains : goal.returns-then-contains
returns-then-contains c =
    first_at (λ q. HasPlace q c.args.set.now.items) c.args.roots.now c.loop-i.i c.loop-i-test.true c.loop-i.invariant c.if-contains.ensures

pub loop-i-preserved : goal.loop-i-preserved
loop-i-preserved c k lt =
    ⊎_elim (λ same. subst (λ x. ¬ HasPlace (get_or c.args.roots.now x 0) c.args.set.now.items) same c.if-contains.ensures)
    (λ ne. c.loop-i.invariant k (omega (arith, lt, ne))) (cases_eq c.loop-i.i k)

pub returns : goal.returns
returns c = first_none (λ q. HasPlace q c.args.set.now.items) c.args.roots.now
    (λ k lt. c.loop-i.invariant k (let p = c.loop-i-test.false in omega (arith, lt, p)))
