use Rattle.std.proofs.Common.{◌≡◌, ℕ, true, false, List, IfOk, arith, refl, subst}
use Rattle.rc_text.specs.Text.{low, high}
use Rattle.rc_pattern.specs.Re.{Re}
use Rattle.rc_program.specs.Program.{program}
use Rattle.rc_program.specs.Kinds.{IsAnswerBy}
use Rattle.rc_literals.specs.Guard.{IsGuard}
use Rattle.rc_dfa_search.specs.declared.needles.Ending.{Ending}
use Rattle.rc_dfa_search.specs.declared.needles.Ending.TheVariants.{Ends, Nowhere}
use Rattle.rc_dfa_search.specs.Aims.{AreHalvesOf, search_for}
use Rattle.rc_dfa_search.specs.Legs.{GoesByNeedles}
use Rattle.rc_dfa_search.specs.Reaches.{BeginsWithin, IsEnding}
use Rattle.rc_dfa_search.proofs.JumpLemmas.{late_of, none_may, told_on}
use Rattle.rc_dfa_search.proofs.SettledLemmas.{none_yet}
use Rattle.rc_dfa_search.proofs.ToldLemmas.{kept_low, kept_whole}
use Rattle.rc_dfa_search.proofs.guarded.find_early.Given.{Over}
use Rattle.rc_dfa_search.proofs.guarded.find_early.Goals as goal
use Rattle.rc_dfa_search.proofs.guarded.find_early.Goals.{In_ok-from}

-- what the search from needle to needle says
ending : (g : Over) (c : In_ok-from g) (hs : List Re) (terminator : ℕ) (of : AreHalvesOf (g.H.Halves.AreOf c.args.halves.now) (record c.args.aim { earliest = false }) hs terminator) →
    GoesByNeedles (record c.args.aim { earliest = false }) c.args.input.now.anchored → IsGuard (program hs) terminator c.args.guard → (x : Ending) → c.in_ok-from.field-0 ≡ x →
    IsEnding c.args.aim.kind true of.ahead (search_for c.args.aim hs terminator c.args.input.now) x
ending g c hs terminator of goes guards x is =
    let s = c.args.input.now in
    subst (IsEnding c.args.aim.kind true of.ahead (search_for c.args.aim hs terminator s)) is
    (c.in_ok-from.ensures.ending (record c.args.aim { earliest = false }) hs terminator of guards goes
    (none_yet (search_for c.args.aim hs terminator s) c.args.bounds.low c.args.bounds.low (omega (arith, c.requires.bounds))))

-- where the run began that met a match
within : (g : Over) (c : In_ok-from g) (x : Ending) → c.in_ok-from.field-0 ≡ x → BeginsWithin (low c.args.input.now) (high c.args.input.now) x
within g c x is = subst (BeginsWithin (low c.args.input.now) (high c.args.input.now)) is c.in_ok-from.ensures.within

pub find_between-requires-clause-low : goal.find_between-requires-clause-low
find_between-requires-clause-low g c =
    let k = (goal.at.find_between-requires-clause-low g c).In_ok-from in
    let same = kept_low c.args.input.now c.seek_by_needles.new.input c.seek_by_needles.ensures.keeps in
    let w = (within g k (Ends c.in-Ends.from c.in-Ends.met c.in-Ends.reach) c.in-Ends.is).0 in
    omega (arith, same, w)

pub find_between-requires-clause-ordered : goal.find_between-requires-clause-ordered
find_between-requires-clause-ordered g c =
    let k = (goal.at.find_between-requires-clause-ordered g c).In_ok-from in
    let w = (within g k (Ends c.in-Ends.from c.in-Ends.met c.in-Ends.reach) c.in-Ends.is).1 in
    omega (arith, w, c.requires.bounds)

pub returns-in-Ends-clause-found : goal.returns-in-Ends-clause-found
returns-in-Ends-clause-found g c hs terminator of guards =
    let k = (goal.at.returns-in-Ends-clause-found g c).In_ok-from in
    let A = g.H.Halves.AreOf c.args.halves.now in
    let s = c.args.input.now in
    let w = within g k (Ends c.in-Ends.from c.in-Ends.met c.in-Ends.reach) c.in-Ends.is in
    let given = (ending g k hs terminator (late_of A c.args.aim hs terminator of s c.requires.early c.requires.goes) c.requires.goes guards
    (Ends c.in-Ends.from c.in-Ends.met c.in-Ends.reach) c.in-Ends.is).0 in
    told_on A c.args.aim hs terminator of s c.requires.early c.requires.goes (low s) (high s) refl refl (omega (arith, c.requires.bounds))
    c.in-Ends.from w.0 w.1 given c.seek_by_needles.new.input c.find_between.result c.seek_by_needles.ensures.keeps (c.find_between.ensures.found hs terminator of)

pub returns-in-Stuck-clause-found : goal.returns-in-Stuck-clause-found
returns-in-Stuck-clause-found g c hs terminator of guards =
    subst (λ q. IfOk c.find_between-in-Stuck.result (IsAnswerBy c.args.aim.kind c.args.aim.earliest q))
    (kept_whole c.args.aim hs terminator c.args.input.now c.seek_by_needles.new.input c.args.bounds.low c.seek_by_needles.ensures.keeps c.requires.bounds.0)
    (c.find_between-in-Stuck.ensures.found hs terminator of)

pub returns-in-Nowhere-clause-found : goal.returns-in-Nowhere-clause-found
returns-in-Nowhere-clause-found g c hs terminator of guards =
    let k = (goal.at.returns-in-Nowhere-clause-found g c).In_ok-from in
    let A = g.H.Halves.AreOf c.args.halves.now in
    let s = c.args.input.now in
    none_may A c.args.aim hs terminator of s c.requires.early c.requires.goes (low s) (high s) refl refl (omega (arith, c.requires.bounds))
    (ending g k hs terminator (late_of A c.args.aim hs terminator of s c.requires.early c.requires.goes) c.requires.goes guards Nowhere c.in-Nowhere.is)
