use Rattle.std.proofs.Common.{◌≡◌, ◌∙◌, ◌≤◌, ⊎_elim, ap, arith, refl, subst, sym}
use Rattle.std.specs.Prelude.{IfSome}
use Rattle.std.proofs.lemmas.Bool.{cases_lt}
use Rattle.rc_program.specs.Matches.{begin_of, end_of, next_match}
use Rattle.rc_reach.specs.Live.{EndedBy}
use Rattle.api_meta.specs.Ahead.{AddsNext}
use Rattle.stream_search.specs.Listing.{HasTold, Listing}
use Rattle.stream_search.specs.Searches.{TellsBefore}
use Rattle.stream_search.specs.Stepping.{found_from}
use Rattle.stream_search.proofs.Along.{Told, goes_behind, next_early}
use Rattle.stream_search.proofs.Listed.{adds_along, no_more}
use Rattle.stream_search.proofs.list.ListStepperOf.add_settled.Goals as goal

pub returns-in_err-may_tell-clause-adds : goal.returns-in_err-may_tell-clause-adds
returns-in_err-may_tell-clause-adds g c =
    let s = c.args.self.now in
    let bytes = c.args.input.now.content in
    let b = c.settled_of-settled.result in
    let p = c.in_err-may_tell.ensures in
    let known = subst (λ (x : Listing). TellsBefore x.regex bytes b) c.self.view_is c.settled_of-settled.ensures.settled in
    λ content goes.
    adds_along s c.push_before.new.self content (found_from s.regex bytes) b (next_early s.regex bytes b known content goes)
    (subst (λ (x : Listing). EndedBy x.last x.from) c.self.view_is c.self.invariant) p.stays c.args.matches.now.items c.push_before.new.matches.items
    (subst (λ x. AddsNext (found_from s.regex x) b s.from s.last c.args.matches.now.items c.push_before.new.self.from c.push_before.new.self.last
    c.push_before.new.matches.items) c.settled_of-settled.ensures.keeps.content p.adds)

pub returns-clause-adds : goal.returns-clause-adds
returns-clause-adds g c =
    let s = c.args.self.now in
    let t = c.push_before.new.self in
    let bytes = c.args.input.now.content in
    let b = c.settled_of-settled.result in
    let p = c.in_ok-may_tell.ensures in
    let l = c.self-2.inside in
    let r = g.F.PartialFinder.searched_by l.finder in
    let same = c.self-2.view_is in
    let of = ap (λ (x : Listing). x.regex) (same ∙ p.stays) in
    let content_is = c.settled_of-settled.ensures.keeps.content in
    let known = subst (λ (x : Listing). TellsBefore x.regex bytes b) c.self.view_is c.settled_of-settled.ensures.settled in
    let behind =
    subst (λ x. IfSome (next_match begin_of end_of (found_from x bytes) l.from l.last) (λ m. b ≤ m.start)) (sym of)
    (subst (λ (x : Listing). IfSome (next_match begin_of end_of (found_from s.regex bytes) x.from x.last) (λ m. b ≤ m.start)) (sym same)
    (subst (λ x. IfSome (next_match begin_of end_of (found_from s.regex x) t.from t.last) (λ m. b ≤ m.start)) content_is p.behind.far)) in
    let most = c.max-self-inside.ensures in
    λ content goes.
    no_more
    (adds_along s t content (found_from s.regex bytes) b (next_early s.regex bytes b known content goes)
    (subst (λ (x : Listing). EndedBy x.last x.from) c.self.view_is c.self.invariant) p.stays c.args.matches.now.items c.push_before.new.matches.items
    (subst (λ x. AddsNext (found_from s.regex x) b s.from s.last c.args.matches.now.items t.from t.last c.push_before.new.matches.items) content_is p.adds))
    c.push_before.new.matches.items refl
    (λ told was.
    let here : Told r content told l.from l.last = subst (HasTold content told) (sym same) was in
    ⊎_elim
    (λ before. subst (λ k. Told r content told k l.last) (let e : b ≡ c.max-self-inside.result = omega (arith, most, before) in e)
    (goes_behind r bytes b (subst (λ x. TellsBefore x bytes b) (sym of) known) content goes told l.from l.last _ c.self-2.invariant refl behind before here))
    (λ far. subst (λ k. Told r content told k l.last) (let e : l.from ≡ c.max-self-inside.result = omega (arith, most, far) in e) here)
    (cases_lt l.from b))
