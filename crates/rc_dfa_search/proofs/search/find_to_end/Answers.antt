use Rattle.std.proofs.Common.{◌≡◌, ◌∙◌, Some, ap, refl, subst, sym}
use Rattle.rc_text.specs.Found.{Found}
use Rattle.rc_text.specs.Text.{high}
use Rattle.rc_dfa_search.specs.Aims.{search_for}
use Rattle.rc_dfa_search.specs.Reverse.{IsMatchToEnd, IsReverseHalf}
use Rattle.rc_dfa_search.proofs.search.find_to_end.Goals as goal

pub returns-in_default-clause-found : goal.returns-in_default-clause-found
returns-in_default-clause-found g c hs terminator of =
    (subst (IsReverseHalf c.args.aim.earliest (search_for c.args.aim hs terminator c.args.input.now)) c.in_default.is (c.in_ok-half.ensures.found hs terminator of), tt)

pub returns-clause-found : goal.returns-clause-found
returns-clause-found g c hs terminator of =
    let s = search_for c.args.aim hs terminator c.args.input.now in
    let half = c.in-Some.half in
    let same : c.new.result ≡ record { pattern = half.pattern; start = half.offset; end = high c.args.input.now } =
    c.new.ensures
    ∙ ap (λ p. let m : Found = record { pattern = p; start = c.offset.result; end = c.args.bounds.high } in m) c.pattern.ensures
    ∙ ap (λ x. let m : Found = record { pattern = half.pattern; start = x; end = c.args.bounds.high } in m) c.offset.ensures
    ∙ ap (λ e. let m : Found = record { pattern = half.pattern; start = half.offset; end = e } in m) c.requires.bounds.1 in
    subst (λ (m : Found). IsMatchToEnd c.args.aim.earliest s (Some m)) (sym same)
    (subst (IsReverseHalf c.args.aim.earliest s) c.in-Some.is (c.in_ok-half.ensures.found hs terminator of), refl)
