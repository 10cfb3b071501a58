use Rattle.std.proofs.Common.{◌≡◌, ◌∙◌, ℕ, List, arith, subst, sym}
use Rattle.rc_text.specs.Text.{Keeps, high}
use Rattle.rc_program.specs.Answer.{Search}
use Rattle.rc_pattern.specs.Re.{Re}
use Rattle.rc_program.specs.Program.{program}
use Rattle.rc_needles.specs.Guards.{Guards}
use Rattle.rc_needles.specs.Prefilters.{needles_of}
use Rattle.rc_dfa.specs.Machine.{Alphabet, bytes}
use Rattle.rc_dfa_reach.specs.RunReach.{seen_to}
use Rattle.rc_dfa_search.specs.Aims.{AreHalvesOf, search_for}
use Rattle.rc_dfa_search.specs.Firsts.{starting_at}
use Rattle.rc_dfa_search.specs.Legs.{GoesByNeedles}
use Rattle.rc_dfa_search.specs.Reaches.{IsAnswerBelow, NoneBeginBelow}
use Rattle.rc_dfa_search.proofs.IdleLemmas.{idle_first, needle_next}
use Rattle.rc_dfa_search.proofs.SeenLemmas.{seen_more}
use Rattle.rc_dfa_search.proofs.SettledLemmas.{first_settles_some}
use Rattle.rc_dfa_search.proofs.ToldLemmas.{kept_high, kept_same, kept_search, kept_then}
use Rattle.rc_dfa_search.proofs.undecided.tell_by_needles.Given.{Over}
use Rattle.rc_dfa_search.proofs.undecided.tell_by_needles.Goals as goal
use Rattle.rc_dfa_search.proofs.undecided.tell_by_needles.Goals.{After-last_idle_by_needles, After-settle_by_needles, After-next_needle-next, then-next+in_ok-here+else-is_some, else-next}

-- no match begins before the first needle
passed : (g : Over) (c : After-next_needle-next g) (hs : List Re) (terminator : ℕ)
    (of : AreHalvesOf (g.H.Halves.AreOf c.args.halves.now) c.args.aim hs terminator) → Guards (program hs) terminator (needles_of c.args.needles.now) →
    NoneBeginBelow (search_for c.args.aim hs terminator c.args.input.now) (seen_to of.ahead.alphabet (high c.args.input.now)) c.next_needle-next.result.at
passed g c hs terminator of guards =
    let s = c.args.input.now in
    let b = c.requires.bounds in
    let n = c.next_needle-next in
    let A = g.H.Halves.AreOf c.args.halves.now in
    let aim = c.args.aim in
    let none = subst (NoneBeginBelow (search_for aim hs terminator s) (seen_to of.ahead.alphabet (high s))) (sym b.0)
    (idle_first A aim hs terminator of s c.requires.goes c.requires.preferred (omega (arith, b))) in
    needle_next A aim hs terminator of s c.requires.goes c.requires.preferred (omega (arith, b)) (needles_of c.args.needles.now) guards
    s (kept_same s) c.args.longest_len c.args.bounds.high c.args.bounds.low n.result.at c.requires.longest b.1 n.ensures.within.1 n.ensures.none n.ensures.near none

-- no more is seen than that, if bytes are read
by_bytes : (a : Alphabet) → a ≡ bytes → (P : ℕ → Type 0) (r : ℕ) → P (seen_to a r) → P r
by_bytes a is P r h = subst (λ b. P (seen_to b r)) is h

pub returns-then-is_some-clause-settled : goal.returns-then-is_some-clause-settled
returns-then-is_some-clause-settled g c hs terminator of guards read =
    let at = goal.at.returns-then-is_some-clause-settled g c in
    let aim = c.args.aim in
    let s = c.args.input.now in
    let b = c.requires.bounds in
    let n = c.next_needle-next in
    let keeps = n.ensures.keeps in
    let within = n.ensures.within in
    let start = n.result.at in
    let found = c.in_ok-here.here.found in
    by_bytes of.ahead.alphabet read (λ r. IsAnswerBelow aim.kind (search_for aim hs terminator s) r found) c.max.result
    (first_settles_some aim hs terminator s c.requires.goes start (omega (arith, b, within))
    (seen_to of.ahead.alphabet (high s)) (seen_to of.ahead.alphabet c.in_ok-here.here.reach) (seen_to of.ahead.alphabet c.max.result)
    (seen_more of.ahead.alphabet (high s) c.max.result (omega (arith, c.max.ensures, b)))
    (seen_more of.ahead.alphabet c.in_ok-here.here.reach c.max.result (omega (arith, c.max.ensures)))
    (passed g at.After-next_needle-next hs terminator of guards) found (sym c.is_some.ensures ∙ c.if-is_some.true)
    (subst (λ q. IsAnswerBelow aim.kind (starting_at start q) (seen_to of.ahead.alphabet c.in_ok-here.here.reach) found) (kept_search aim hs terminator s n.new.input keeps)
    (c.in_ok-here.ensures.settled aim hs terminator of (subst (GoesByNeedles aim) (sym keeps.anchored) c.requires.goes))))

pub returns-then-is_some-clause-idle : goal.returns-then-is_some-clause-idle
returns-then-is_some-clause-idle g c hs terminator of guards =
    passed g (goal.at.returns-then-is_some-clause-idle g c).After-next_needle-next hs terminator of guards

-- the input is kept when the first needle was tried
kept : (g : Over) (c : After-last_idle_by_needles g) → Keeps c.args.input.now c.if-next.input
kept g c =
    let s = c.args.input.now in
    let n = c.next_needle-next in
    elim c.if-next.branch as (λ _. Keeps s c.if-next.input) [
      | then-next+in_ok-here+else-is_some w ↦ subst (Keeps s) (sym w.input-is) (kept_then s n.new.input w.settle_here.new.input n.ensures.keeps w.settle_here.ensures.keeps)
      | else-next w ↦ subst (Keeps s) (sym w.input-is) n.ensures.keeps
    ]

-- nor before the place at which nothing is under way
unbegun : (g : Over) (c : After-settle_by_needles g) (hs : List Re) (terminator : ℕ) (of : AreHalvesOf (g.H.Halves.AreOf c.args.halves.now) c.args.aim hs terminator) →
    Guards (program hs) terminator (needles_of c.args.needles.now) → Keeps c.args.input.now c.if-next.input →
    NoneBeginBelow (search_for c.args.aim hs terminator c.args.input.now) (seen_to of.ahead.alphabet (high c.args.input.now)) c.next_needle-next.result.at →
    NoneBeginBelow (search_for c.args.aim hs terminator c.args.input.now) (seen_to of.ahead.alphabet (high c.args.input.now)) c.in_ok-from.from
unbegun g c hs terminator of guards keeps first =
    let aim = c.args.aim in
    let s = c.args.input.now in
    let cur = c.if-next.input in
    let Unbegun : Search → ℕ → ℕ → Type 0 = λ q r k. NoneBeginBelow q (seen_to of.ahead.alphabet r) k in
    let same = kept_search aim hs terminator s cur keeps in
    let up : high cur ≡ high s = kept_high s cur keeps in
    subst (λ r. Unbegun (search_for aim hs terminator s) r c.in_ok-from.from) up
    (subst (λ q. Unbegun q (high cur) c.in_ok-from.from) same
    (c.in_ok-from.ensures.idle aim hs terminator of (subst (GoesByNeedles aim) (sym keeps.anchored) c.requires.goes) c.requires.preferred guards
    (subst (λ q. Unbegun q (high cur) c.next_needle-next.result.at) (sym same)
    (subst (λ r. Unbegun (search_for aim hs terminator s) r c.next_needle-next.result.at) (sym up) first))))

pub returns-clause-idle : goal.returns-clause-idle
returns-clause-idle g c hs terminator of guards =
    let at = goal.at.returns-clause-idle g c in
    unbegun g at.After-settle_by_needles hs terminator of guards (kept g at.After-last_idle_by_needles)
    (passed g at.After-next_needle-next hs terminator of guards)

pub returns-clause-settled : goal.returns-clause-settled
returns-clause-settled g c hs terminator of guards read =
    let at = goal.at.returns-clause-settled g c in
    let aim = c.args.aim in
    let s = c.args.input.now in
    let b = c.requires.bounds in
    let keeps = kept g at.After-last_idle_by_needles in
    let cur = c.last_idle_by_needles.new.input in
    let same = kept_search aim hs terminator s cur (kept_then s c.if-next.input cur keeps c.last_idle_by_needles.ensures.keeps) in
    let o = c.in_ok-settled.settled in
    let none = by_bytes of.ahead.alphabet read (λ r. NoneBeginBelow (search_for aim hs terminator s) r c.in_ok-from.from) (high s)
    (unbegun g at.After-settle_by_needles hs terminator of guards keeps (passed g at.After-next_needle-next hs terminator of guards)) in
    by_bytes of.ahead.alphabet read (λ r. IsAnswerBelow aim.kind (search_for aim hs terminator s) r o.found) o.reach
    (subst (λ q. IsAnswerBelow aim.kind q (seen_to of.ahead.alphabet o.reach) o.found) same
    (c.in_ok-settled.ensures.settled hs terminator of guards
    (subst (λ q. NoneBeginBelow q c.args.bounds.high c.in_ok-from.from) (sym same)
    (subst (λ r. NoneBeginBelow (search_for aim hs terminator s) r c.in_ok-from.from) (sym b.1) none))))
