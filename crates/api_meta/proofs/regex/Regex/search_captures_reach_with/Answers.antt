use Rattle.std.proofs.Common.{◌≡◌, ◌∙◌, ◌≤◌, IfSome, arith, ap, subst, sym}
use Rattle.rc_captures.specs.Captures.{match_of}
use Rattle.rc_text.specs.Found.{Found}
use Rattle.rc_program.specs.Kinds.{answer_by}
use Rattle.rc_program.specs.Sought.{search_for}
use Rattle.rc_reach.specs.Settled.{IsWalkSettled}
use Rattle.rc_build.proofs.Fitted.{answer_same, told_same}
use Rattle.rc_build.proofs.Matched.{still_for}
use Rattle.api_meta.specs.Reached.{IsNear, IsSharp}
use Rattle.api_meta.specs.Views.{regex_kind, regex_names, regex_patterns, sought}
use Rattle.api_meta.proofs.Cached.{stays_for}
use Rattle.api_meta.proofs.Going.{match_made}
use Rattle.api_meta.proofs.Looking.{is_sharp}
use Rattle.api_meta.proofs.Reaching.{kept, near_more, past_least, same_bounds, same_slice, tells_below, walk_least}
use Rattle.api_meta.proofs.regex.Regex.search_captures_reach_with.Given.{Over}
use Rattle.api_meta.proofs.regex.Regex.search_captures_reach_with.Goals as goal
use Rattle.api_meta.proofs.regex.Regex.search_captures_reach_with.Goals.{After-settle_captures-settled}

answers : (g : Over) (c : After-settle_captures-settled g) →
    c.settle_captures-settled.result.found ≡ answer_by (regex_kind c.args.self.now) (search_for (sought c.args.self.now) c.args.input.now)
answers g c = c.settle_captures-settled.ensures.answer ∙ answer_same c.args.self.now.fits c.args.input.now

matched : (g : Over) (c : After-settle_captures-settled g) →
    match_of c.settle_captures-settled.new.caps ≡ answer_by (regex_kind c.args.self.now) (search_for (sought c.args.self.now) c.args.input.now)
matched g c =
    match_made c.args.self.now c.args.input.now c.settle_captures-settled.new.caps
    (still_for (regex_names c.args.self.now) c.args.caps.now c.settle_captures-settled.new.caps c.requires.for_regex c.settle_captures-settled.ensures.names
    c.settle_captures-settled.ensures.long)
    c.settle_captures-settled.ensures.told

pub reach_of-requires-clause-answer : goal.reach_of-requires-clause-answer
reach_of-requires-clause-answer g c =
    let r = c.args.self.now in
    let same = kept (sought r) c.args.input.now c.settle_captures-settled.new.input c.settle_captures-settled.ensures.keeps in
    answers g (goal.at.reach_of-requires-clause-answer g c).After-settle_captures-settled ∙ sym (ap (answer_by (regex_kind r)) same)

pub reach_of-requires-clause-bounds : goal.reach_of-requires-clause-bounds
reach_of-requires-clause-bounds g c =
    same_bounds c.args.input.now c.settle_captures-settled.new.input c.settle_captures-settled.ensures.keeps c.settle_captures-settled.result.found
    c.settle_captures-settled.ensures.within

pub returns-clause-told_by : goal.returns-clause-told_by
returns-clause-told_by g c =
    told_same c.args.self.now.fits c.args.input.now c.settle_captures-settled.new.caps c.settle_captures-settled.ensures.told

pub returns-clause-matched_by : goal.returns-clause-matched_by
returns-clause-matched_by g c = matched g (goal.at.returns-clause-matched_by g c).After-settle_captures-settled

pub returns-clause-settled : goal.returns-clause-settled
returns-clause-settled g c =
    let r = c.args.self.now in
    let q = sought r in
    let i = c.args.input.now in
    let kind = regex_kind r in
    let o = c.settle_captures-settled.result in
    let m = c.reach_of.result in
    let same = kept q i c.settle_captures-settled.new.input c.settle_captures-settled.ensures.keeps in
    let length = subst (IsWalkSettled kind m) same c.reach_of.ensures.settled.settled in
    tells_below kind (search_for q i) c.min.result c.settle_captures-settled.new.caps
    (subst (λ k. IsWalkSettled kind k (search_for q i)) (sym c.min.ensures) (walk_least r i m o.reach length c.settle_captures-settled.ensures.settled))
    (told_same r.fits i c.settle_captures-settled.new.caps c.settle_captures-settled.ensures.told)

pub returns-clause-within : goal.returns-clause-within
returns-clause-within g c =
    let after = (goal.at.returns-clause-within g c).After-settle_captures-settled in
    let o = c.settle_captures-settled.result in
    let past = past_least o.found c.reach_of.result o.reach c.reach_of.ensures.settled.past c.settle_captures-settled.ensures.past in
    let slice = same_slice c.args.input.now c.settle_captures-settled.new.input c.settle_captures-settled.ensures.keeps in
    let most = c.reach_of.ensures.within in (
      subst (λ x. IfSome x (λ (f : Found). f.end ≤ c.min.result)) (answers g after ∙ sym (matched g after))
          (subst (λ k. IfSome o.found (λ (f : Found). f.end ≤ k)) (sym c.min.ensures) past),
      omega (arith, c.min.ensures, most, slice),
    )

pub returns-clause-near : goal.returns-clause-near
returns-clause-near g c =
    let r = c.args.self.now in
    let o = c.settle_captures-settled.result in
    let after = (goal.at.returns-clause-near g c).After-settle_captures-settled in
    subst (λ x. IsNear (regex_kind r) (regex_patterns r) x c.min.result) (answers g after ∙ sym (matched g after))
    (near_more (regex_patterns r) (regex_kind r) o.found c.reach_of.result c.min.result (omega (arith, c.min.ensures)) c.reach_of.ensures.near)

pub returns-clause-sharp : goal.returns-clause-sharp
returns-clause-sharp g c =
    let r = c.args.self.now in
    let o = c.settle_captures-settled.result in
    let after = (goal.at.returns-clause-sharp g c).After-settle_captures-settled in
    subst (λ x. IsSharp (regex_kind r) (sought r) x c.min.result) (answers g after ∙ sym (matched g after))
    (is_sharp r o.found c.min.result o.reach c.settle_captures-settled.ensures.near (omega (arith, c.min.ensures)))

pub returns-clause-cache : goal.returns-clause-cache
returns-clause-cache g c =
    stays_for c.args.self.now c.args.cache.now.inner c.settle_captures-settled.new.cache c.requires.made c.settle_captures-settled.ensures.cache
