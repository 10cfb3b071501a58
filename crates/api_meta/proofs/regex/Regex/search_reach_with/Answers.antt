use Rattle.std.proofs.Common.{◌≡◌, ◌∙◌, ◌≤◌, IfSome, arith, ap, subst, sym}
use Rattle.rc_text.specs.Found.{Found}
use Rattle.rc_program.specs.Kinds.{answer_by}
use Rattle.rc_program.specs.Sought.{search_for}
use Rattle.rc_reach.specs.Settled.{IsSettled, IsWalkSettled}
use Rattle.rc_reach.proofs.LawLemmas.{reach_law}
use Rattle.api_meta.specs.Views.{regex_kind, regex_patterns, sought}
use Rattle.api_meta.proofs.Cached.{keeps_room, stays_for}
use Rattle.api_meta.proofs.Looking.{is_sharp}
use Rattle.api_meta.proofs.Reaching.{kept, least_settled, near_more, near_start_kept, past_least, same_bounds, same_slice, settled_answer}
use Rattle.api_meta.proofs.regex.Regex.search_reach_with.Given.{Over}
use Rattle.api_meta.proofs.regex.Regex.search_reach_with.Goals as goal
use Rattle.api_meta.proofs.regex.Regex.search_reach_with.Goals.{After-find_settled-settled}

answers : (g : Over) (c : After-find_settled-settled g) →
    answer_by (regex_kind c.args.self.now) (search_for (sought c.args.self.now) c.args.input.now) ≡ c.find_settled-settled.result.found
answers g c = settled_answer c.args.self.now c.args.input.now c.find_settled-settled.result c.find_settled-settled.ensures.settled

pub reach_of-requires-clause-answer : goal.reach_of-requires-clause-answer
reach_of-requires-clause-answer g c =
    let r = c.args.self.now in
    let same = kept (sought r) c.args.input.now c.find_settled-settled.new.input c.find_settled-settled.ensures.keeps in
    sym (ap (answer_by (regex_kind r)) same ∙ answers g (goal.at.reach_of-requires-clause-answer g c).After-find_settled-settled)

pub reach_of-requires-clause-bounds : goal.reach_of-requires-clause-bounds
reach_of-requires-clause-bounds g c =
    same_bounds c.args.input.now c.find_settled-settled.new.input c.find_settled-settled.ensures.keeps c.find_settled-settled.result.found c.find_settled-settled.ensures.within

pub returns-clause-found : goal.returns-clause-found
returns-clause-found g c =
    sym (answers g (goal.at.returns-clause-found g c).After-find_settled-settled)

pub returns-clause-settled : goal.returns-clause-settled
returns-clause-settled g c =
    let r = c.args.self.now in
    let q = sought r in
    let kind = regex_kind r in
    let i = c.args.input.now in
    let m = c.reach_of.result in
    let same = kept q i c.find_settled-settled.new.input c.find_settled-settled.ensures.keeps in
    let length = reach_law.match kind (search_for q i) m (subst (IsWalkSettled kind m) same c.reach_of.ensures.settled.settled) in
    subst (λ k. IsSettled kind k (search_for q i)) (sym c.min-reach.ensures)
    (least_settled r i c.find_settled-settled.result m c.find_settled-settled.ensures.settled length)

pub returns-clause-within : goal.returns-clause-within
returns-clause-within g c =
    let o = c.find_settled-settled.result in
    let past = past_least o.found c.reach_of.result o.reach c.reach_of.ensures.settled.past c.find_settled-settled.ensures.past in
    let slice = same_slice c.args.input.now c.find_settled-settled.new.input c.find_settled-settled.ensures.keeps in
    let most = c.reach_of.ensures.within in (
      subst (λ k. IfSome o.found (λ (f : Found). f.end ≤ k)) (sym c.min-reach.ensures) past,
      omega (arith, c.min-reach.ensures, most, slice),
    )

pub returns-clause-near : goal.returns-clause-near
returns-clause-near g c =
    let r = c.args.self.now in
    let o = c.find_settled-settled.result in
    near_more (regex_patterns r) (regex_kind r) o.found c.reach_of.result c.min-reach.result (omega (arith, c.min-reach.ensures)) c.reach_of.ensures.near

pub returns-clause-sharp : goal.returns-clause-sharp
returns-clause-sharp g c =
    let o = c.find_settled-settled.result in
    is_sharp c.args.self.now o.found c.min-reach.result o.reach c.find_settled-settled.ensures.near (omega (arith, c.min-reach.ensures))

pub returns-clause-anchored : goal.returns-clause-anchored
returns-clause-anchored g c =
    near_start_kept (regex_patterns c.args.self.now) c.args.input.now c.find_settled-settled.new.input c.find_settled-settled.result.found c.min-reach.result c.reach_of.result
    c.find_settled-settled.ensures.keeps (omega (arith, c.min-reach.ensures)) c.reach_of.ensures.anchored

pub returns-clause-cache : goal.returns-clause-cache
returns-clause-cache g c =
    stays_for c.args.self.now c.args.cache.now.inner c.find_settled-settled.new.cache c.requires.made c.find_settled-settled.ensures.cache

pub returns-clause-room : goal.returns-clause-room
returns-clause-room g c = keeps_room c.args.self.now c.args.cache.now.inner c.find_settled-settled.new.cache c.find_settled-settled.ensures.cache
