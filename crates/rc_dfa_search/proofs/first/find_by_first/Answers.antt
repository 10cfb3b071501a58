use Rattle.std.proofs.Common.{◌≡◌, ◌+◌, ◌<◌, ◌≤◌, ℕ, List, Option, Some, None, IfOk, IfSome, arith, inl, inr, subst, sym}
use Rattle.std.specs.Prelude.{MatchOption}
use Rattle.rc_text.specs.Text.{Keeps, low}
use Rattle.rc_pattern.specs.Re.{Re}
use Rattle.rc_program.specs.Program.{program}
use Rattle.rc_program.specs.Answer.{HasNoWalkFrom}
use Rattle.rc_program.specs.Kinds.{answer_by}
use Rattle.rc_needles.specs.Guards.{Guards}
use Rattle.rc_needles.specs.Prefilters.{needles_of}
use Rattle.rc_literals.specs.declared.guard.Start.{Start}
use Rattle.rc_dfa_reach.specs.RunReach.{seen_to}
use Rattle.rc_dfa_search.specs.Aims.{AreHalvesOf, search_for}
use Rattle.std.proofs.lemmas.Bool.{cases_lt}
use Rattle.rc_dfa_search.proofs.ToldLemmas.{kept_low, kept_same, kept_search, kept_then}
use Rattle.rc_dfa_search.proofs.BeginLemmas.{found_here, no_first, none_on, not_begun}
use Rattle.rc_dfa_search.proofs.SettledLemmas.{none_far, settled_here}
use Rattle.rc_dfa_search.specs.Firsts.{starting_at}
use Rattle.rc_dfa_search.specs.Legs.{GoesByNeedles}
use Rattle.rc_dfa_search.specs.Reaches.{NoneBeginBelow}
use Rattle.rc_dfa_search.proofs.first.find_by_first.Given.{Over}
use Rattle.rc_dfa_search.proofs.first.find_by_first.Goals as goal
use Rattle.rc_dfa_search.proofs.first.find_by_first.Goals.{After-next_start}

-- what the place tells where the next match may begin
told : (g : Over) (c : After-next_start g) (hs : List Re) (terminator : ℕ) → Guards (program hs) terminator (needles_of c.args.needles.now) → (o : Option Start) →
    c.next_start.result ≡ o → MatchOption o
    ((x : ℕ) → c.runs.at ≤ x → x ≤ c.args.bounds.high → HasNoWalkFrom (search_for c.args.aim hs terminator c.runs.input) x)
    (λ start. (x : ℕ) → c.runs.at ≤ x → x < start.from → HasNoWalkFrom (search_for c.args.aim hs terminator c.runs.input) x)
told g c hs terminator guards o is = subst (λ p. MatchOption p
    ((x : ℕ) → c.runs.at ≤ x → x ≤ c.args.bounds.high → HasNoWalkFrom (search_for c.args.aim hs terminator c.runs.input) x)
    (λ (start : Start). (x : ℕ) → c.runs.at ≤ x → x < start.from → HasNoWalkFrom (search_for c.args.aim hs terminator c.runs.input) x))
    is (c.next_start.ensures.passed (program hs) terminator c.args.aim.passes_over guards)

-- no walk begins before that place
passed : (g : Over) (c : After-next_start g) (hs : List Re) (terminator : ℕ) → AreHalvesOf (g.H.Halves.AreOf c.args.halves.now) c.args.aim hs terminator →
    Guards (program hs) terminator (needles_of c.args.needles.now) → (start : Start) → c.next_start.result ≡ Some start →
    (x : ℕ) → c.args.bounds.low ≤ x → x < start.from → HasNoWalkFrom (search_for c.args.aim hs terminator c.args.input.now) x
passed g c hs terminator of guards start is =
    none_on (program hs) terminator c.args.aim.passes_over c.args.input.now c.runs.input c.runs.invariant.keeps c.args.bounds.low c.runs.at start.from
    (c.runs.invariant.passed hs terminator of guards) (told g c hs terminator guards (Some start) is)

within : (g : Over) (c : After-next_start g) (start : Start) → c.next_start.result ≡ Some start →
    (c.args.bounds.low ≤ start.from) × (c.runs.at ≤ start.from) × (start.from ≤ c.args.bounds.high)
within g c start is =
    let w = subst (λ o. IfSome o (λ (s : Start). (c.runs.at ≤ s.from) × (s.from ≤ s.needle) × (s.needle < c.args.bounds.high))) is c.next_start.ensures.within in
    let a = w.0 in
    let b = w.1 in
    let n = w.2 in
    let l = c.runs.invariant.low in
    (omega (arith, a, l), a, omega (arith, b, n))

after : (g : Over) (c : After-next_start g) → Keeps c.args.input.now c.next_start.new.input
after g c = kept_then c.args.input.now c.runs.input c.next_start.new.input c.runs.invariant.keeps c.next_start.ensures.keeps

-- the place is in the bounds
above_low : (g : Over) (c : After-next_start g) (start : Start) → c.next_start.result ≡ Some start → low c.next_start.new.input ≤ start.from
above_low g c start is =
    let same = c.requires.bounds.0 in
    let kept = kept_low c.args.input.now c.next_start.new.input (after g c) in
    let above = (within g c start is).0 in omega (arith, same, kept, above)

pub returns-in_default-clause-found : goal.returns-in_default-clause-found
returns-in_default-clause-found g c hs terminator of guards =
    let k = (goal.at.returns-in_default-clause-found g c).After-next_start in
    let s = c.args.input.now in
    let none = told g k hs terminator guards None c.in_default.is in
    let all = none_on (program hs) terminator c.args.aim.passes_over s c.runs.input c.runs.invariant.keeps c.args.bounds.low c.runs.at (c.args.bounds.high + 1)
    (c.runs.invariant.passed hs terminator of guards) (λ x low lt. none x low (omega (arith, lt))) in
    no_first c.args.aim hs terminator s s (kept_same s) c.requires.goes c.args.bounds.low c.args.bounds.high
    c.requires.bounds.0 c.requires.bounds.1 (λ x low le. all x low (omega (arith, le)))

pub returns-in-Some-found-clause-found : goal.returns-in-Some-found-clause-found
returns-in-Some-found-clause-found g c hs terminator of guards =
    let k = (goal.at.returns-in-Some-found-clause-found g c).After-next_start in
    let s = c.args.input.now in
    let u = c.next_start.new.input in
    let kept = after g k in
    let goes = subst (GoesByNeedles c.args.aim) (sym kept.anchored) c.requires.goes in
    found_here c.args.aim hs terminator s s (kept_same s) c.requires.goes c.args.bounds.low c.args.bounds.high
    c.requires.bounds.0 c.requires.bounds.1 c.in-Some.start.from (within g k c.in-Some.start c.in-Some.is).0 (passed g k hs terminator of guards c.in-Some.start c.in-Some.is)
    u kept c.in-Some-found.found
    (subst (λ o. o ≡ answer_by c.args.aim.kind (starting_at c.in-Some.start.from (search_for c.args.aim hs terminator u))) c.in-Some-found.is
    (settled_here c.args.aim hs terminator u c.in-Some.start.from (above_low g k c.in-Some.start c.in-Some.is) (seen_to of.ahead.alphabet c.in_ok-here.here.reach) c.in_ok-here.here.found
    (c.in_ok-here.ensures.settled c.args.aim hs terminator of goes)))

pub returns-then-more-eq0-clause-found : goal.returns-then-more-eq0-clause-found
returns-then-more-eq0-clause-found g c hs terminator of guards =
    let k = (goal.at.returns-then-more-eq0-clause-found g c).After-next_start in
    let aim = c.args.aim in
    let s = c.args.input.now in
    let fits = c.content_fits.ensures in
    let kept = kept_then s c.next_start.new.input c.settle_here.new.input (after g k) c.in_ok-here.ensures.keeps in
    let same = kept_search aim hs terminator s c.settle_here.new.input kept in
    subst (λ q. IfOk c.find_by_needles.result (λ o. o ≡ answer_by aim.kind q)) same
    (c.find_by_needles.ensures.found hs terminator of guards
    (subst (λ q. NoneBeginBelow q 18446744073709551615 c.in-Some.start.from) (sym same)
    (none_far aim hs terminator s 18446744073709551615 c.in-Some.start.from (omega (arith, fits))
    (λ x low lt. passed g k hs terminator of guards c.in-Some.start c.in-Some.is x (omega (arith, low, c.requires.bounds)) lt))))

pub runs-preserved : goal.runs-preserved
runs-preserved g c =
    let k = (goal.at.runs-preserved g c).After-next_start in
    let s = c.args.input.now in
    let u = c.next_start.new.input in
    let kept = after g k in
    let goes = subst (GoesByNeedles c.args.aim) (sym kept.anchored) c.requires.goes in
    let w = within g k c.in-Some.start c.in-Some.is in
    let above = w.0 in
    let short = c.if-from-high.false in
    record {
      cache = c.in_ok-here.ensures.cache;
      keeps = kept_then s u c.settle_here.new.input kept c.in_ok-here.ensures.keeps;
      low = omega (arith, above);
      high = omega (arith, short);
      passed = λ hs terminator of guards x low lt.
          elim (cases_lt x c.in-Some.start.from) [
            | inl h ↦ passed g k hs terminator of guards c.in-Some.start c.in-Some.is x low h
            | inr h ↦
                let e : c.in-Some.start.from ≡ x = omega (arith, h, lt) in
                subst (λ z. HasNoWalkFrom (search_for c.args.aim hs terminator s) z) e
                (not_begun c.args.aim hs terminator s s (kept_same s) c.requires.goes c.args.bounds.low c.args.bounds.high c.requires.bounds.0 c.requires.bounds.1
                u kept c.in-Some.start.from w.2
                (subst (λ o. o ≡ answer_by c.args.aim.kind (starting_at c.in-Some.start.from (search_for c.args.aim hs terminator u))) c.in_default-found.is
                (settled_here c.args.aim hs terminator u c.in-Some.start.from (above_low g k c.in-Some.start c.in-Some.is) (seen_to of.ahead.alphabet c.in_ok-here.here.reach) c.in_ok-here.here.found
                (c.in_ok-here.ensures.settled c.args.aim hs terminator of goes))))
          ];
    }
