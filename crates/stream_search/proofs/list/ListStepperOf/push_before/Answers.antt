use Rattle.std.proofs.Common.{IfOk, subst, sym}
use Rattle.rc_reach.specs.Live.{EndedBy}
use Rattle.rc_program.specs.Matches.{begin_of, end_of, next_match}
use Rattle.api_meta.specs.Ahead.{AddsNext, ComesBehind}
use Rattle.api_meta.specs.Views.{regex_kind}
use Rattle.stream_search.specs.Listing.{Listing}
use Rattle.stream_search.specs.Searches.{seeks}
use Rattle.stream_search.specs.Stepping.{found_from}
use Rattle.stream_search.proofs.Along.{along_ended, along_lies}
use Rattle.stream_search.proofs.Listed.{adds_here, same_next}
use Rattle.stream_search.proofs.list.ListStepperOf.push_before.Goals as goal

pub returns-clause-adds : goal.returns-clause-adds
returns-clause-adds g c =
    let r = g.F.PartialFinder.searched_by c.push_before-added.new.self in
    let p = c.push_before-added in
    let s = c.args.self.now in
    let i = c.args.input.now in
    subst (λ j. AddsNext (found_from s.regex i.content) c.args.before s.from s.last c.args.matches.now.items j p.new.last p.new.matches.items)
    (sym c.start-self-inside.ensures)
    (adds_here c.self.view_is r p.ensures.regex i c.requires.over c.content_fits.ensures c.requires.start c.args.before c.args.matches.now.items
    p.new.matches.items p.new.input.span.start p.new.last p.ensures.adds)

pub returns-clause-behind : goal.returns-clause-behind
returns-clause-behind g c =
    let r = g.F.PartialFinder.searched_by c.push_before-added.new.self in
    let p = c.push_before-added in
    let s = c.args.self.now in
    let i = c.args.input.now in
    subst (λ j. IfOk p.result (ComesBehind c.args.before (next_match begin_of end_of (found_from s.regex i.content) j p.new.last)))
    (sym c.start-self-inside.ensures)
    (subst (λ o. IfOk p.result (ComesBehind c.args.before o))
    (same_next c.self.view_is r p.ensures.regex i c.requires.over c.content_fits.ensures c.requires.start p.new.input.span.start p.new.last)
    p.ensures.behind)

pub returns-clause-onward : goal.returns-clause-onward
returns-clause-onward g c =
    let s = c.args.self.now in
    let adds = returns-clause-adds g c in
    (along_lies (regex_kind s.regex) (seeks s.regex) c.args.input.now.content c.args.before adds.more s.from s.last c.start-self-inside.result
    c.push_before-added.new.last adds.next).0

pub returns-clause-within : goal.returns-clause-within
returns-clause-within g c =
    let s = c.args.self.now in
    let adds = returns-clause-adds g c in
    (along_lies (regex_kind s.regex) (seeks s.regex) c.args.input.now.content c.args.before adds.more s.from s.last c.start-self-inside.result
    c.push_before-added.new.last adds.next).1

pub invariant_of-self : goal.invariant_of-self
invariant_of-self g c =
    let s = c.args.self.now in
    let adds = returns-clause-adds g c in
    along_ended (found_from s.regex c.args.input.now.content) c.args.before adds.more s.from s.last c.start-self-inside.result
    c.push_before-added.new.last (subst (λ (x : Listing). EndedBy x.last x.from) c.self.view_is c.self.invariant) adds.next
