use Rattle.std.proofs.Common.{◌≡◌, ◌∙◌, ◌<◌, ◌≤◌, ℕ, List, Option, Some, None, max, min, arith, ap, subst, sym, refl}
use Rattle.rc_text.specs.Found.{Found}
use Rattle.rc_text.specs.Text.{Keeps, Searched, low, high}
use Rattle.rc_text.specs.declared.types.Anchored.TheVariants.{No}
use Rattle.rc_pattern.specs.Re.{Re}
use Rattle.rc_program.specs.Sought.{text_of}
use Rattle.rc_dfa.specs.declared.ended.Met.{Met}
use Rattle.rc_dfa_reach.specs.RunReach.{seen_to}
use Rattle.rc_dfa_search.specs.Aims.{AreHalvesOf, is_early, search_for}
use Rattle.rc_dfa_search.specs.Ends.{HasMetDown}
use Rattle.rc_dfa_search.specs.Reaches.{IsAnswerBelow, IsGivenBelow}
use Rattle.rc_dfa_search.proofs.SettledLemmas.{down_so, end_so, match_below, some_first}
use Rattle.rc_dfa_search.proofs.needles.settle_back.Given.{Over}
use Rattle.rc_dfa_search.proofs.needles.settle_back.Goals as goal
use Rattle.rc_dfa_search.proofs.needles.settle_back.Goals.{In_ok-first}

itself : (s : Searched) → Keeps s s
itself s = record { content = refl; span = refl; slice = refl; anchored = refl; earliest = refl }

bounded : (g : Over) (c : In_ok-first g) → low c.args.input.now ≤ high c.args.input.now
bounded g c = omega (arith, c.requires.bounds)

module _ (g : Over) (c : In_ok-first g) (hs : List Re) (terminator : ℕ) (of : AreHalvesOf (g.H.Halves.AreOf c.args.halves.now) c.args.aim hs terminator)
    (past : c.args.met.at < c.args.reach) (given : IsGivenBelow c.args.aim.kind of.ahead (search_for c.args.aim hs terminator c.args.input.now)
    (seen_to of.ahead.alphabet c.args.reach) c.args.met) where
  ends : c.min-end.result ≡ c.args.met.at
  ends =
      end_so (g.H.Halves.AreOf c.args.halves.now) c.args.aim hs terminator of c.args.input.now c.requires.goes (bounded g c) c.args.met c.args.reach past given
      c.min-end.result (omega (arith, c.min-end.ensures, c.max.ensures, c.requires.bounds))

  begins : (o : Option Met) → c.in_ok-first.field-0 ≡ o →
      HasMetDown of.back (text_of terminator c.args.input.now) (low c.args.input.now) c.args.met.at No Rattle.std.proofs.Common.false o
  begins o is =
      down_so (g.H.Halves.AreOf c.args.halves.now) c.args.aim hs terminator of c.args.input.now c.requires.goes (bounded g c) c.args.met c.args.reach past given
      c.args.input.now (itself c.args.input.now) c.args.bounds.low c.min-end.result c.requires.bounds.0 ends o
      (subst (λ x. HasMetDown of.back (text_of terminator c.args.input.now) c.args.bounds.low c.min-end.result c.args.input.now.anchored (is_early c.args.aim) x) is
      (c.in_ok-first.ensures.met hs terminator of))

pub returns-in_default-clause-settled : goal.returns-in_default-clause-settled
returns-in_default-clause-settled g c hs terminator of past given =
    let k = (goal.at.returns-in_default-clause-settled g c).In_ok-first in
    absurd (some_first (g.H.Halves.AreOf c.args.halves.now) c.args.aim hs terminator of c.args.input.now c.requires.goes (bounded g k) c.args.met c.args.reach past given
    (begins g k hs terminator of past given None c.in_default.is))

pub returns-clause-settled : goal.returns-clause-settled
returns-clause-settled g c hs terminator of past given =
    let k = (goal.at.returns-clause-settled g c).In_ok-first in
    subst (λ (m : Found). IsAnswerBelow c.args.aim.kind (search_for c.args.aim hs terminator c.args.input.now) (seen_to of.ahead.alphabet c.args.reach) (Some m)) (sym c.new.ensures)
    (match_below (g.H.Halves.AreOf c.args.halves.now) c.args.aim hs terminator of c.args.input.now c.requires.goes (bounded g k) c.args.met c.args.reach past given
    c.in-Some.first (begins g k hs terminator of past given (Some c.in-Some.first) c.in-Some.is) c.in_ok-pattern.pattern c.min-start.result c.min-end.result
    c.in_ok-pattern.ensures.id (ends g k hs terminator of past given) (omega (arith, c.min-start.ensures, c.max-2.ensures, c.requires.bounds)))
