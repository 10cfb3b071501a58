use Rattle.std.proofs.Common.{◌≡◌, ◌∙◌, MatchOption, Some, ap, map, option_map, subst, sym}
use Rattle.rc_pattern.specs.Meaning.{meaning}
use Rattle.rc_needles.specs.Prefilters.{needles_of}
use Rattle.rc_needles.specs.Tables.{IsUsable}
use Rattle.rc_literals.specs.Exact.{literals_in}
use Rattle.rc_literals.specs.Literals.{owned_from}
use Rattle.rc_literals.proofs.CollectLemmas.{made_each, no_exact}
use Rattle.rc_literals.proofs.exact.exact_needles.Goals as goal

pub returns-in_default-2 : goal.returns-in_default-2
returns-in_default-2 c =
    let hs = map meaning c.args.hirs.now in
    let o = literals_in c.in-Some.literals in
    let e : owned_from 0 hs ≡ Some o = sym c.in_ok-literals.ensures ∙ ap (option_map literals_in) c.in-Some.is in
    no_exact hs o e
    (subst (λ f. MatchOption f (¬ IsUsable o.needles) (λ p. IsUsable o.needles × (needles_of p ≡ o.needles))) c.in_default-2.is c.in_ok-prefilter.ensures)

pub invariant_of-result : goal.invariant_of-result
invariant_of-result c =
    let hs = map meaning c.args.hirs.now in
    let o = literals_in c.in-Some.literals in
    let e : owned_from 0 hs ≡ Some o = sym c.in_ok-literals.ensures ∙ ap (option_map literals_in) c.in-Some.is in
    let made =
    subst (λ f. MatchOption f (¬ IsUsable o.needles) (λ p. IsUsable o.needles × (needles_of p ≡ o.needles))) c.in-Some-2.is c.in_ok-prefilter.ensures in
    record { each = made_each hs o (needles_of c.in-Some-2.prefilter) e made.1 }
