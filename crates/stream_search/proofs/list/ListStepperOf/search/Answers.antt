use Rattle.stream_search.proofs.Listed.{final_lies, finds_final, goes_place, stands}
use Rattle.stream_search.proofs.list.ListStepperOf.search.Goals as goal

pub returns-in-Final-clause-lies : goal.returns-in-Final-clause-lies
returns-in-Final-clause-lies g c =
    let r = g.F.PartialFinder.searched_by c.find_partial.new.self in
    let p = c.in-Final.ensures in
    final_lies c.self.view_is r p.regex c.args.input.now c.requires.over c.content_fits.ensures c.requires.start c.in-Final.found p.onward p.told

pub returns-in-Final-clause-told : goal.returns-in-Final-clause-told
returns-in-Final-clause-told g c =
    λ content b told was.
    stands c.self.view_is (g.F.PartialFinder.searched_by c.find_partial.new.self) c.find_partial.ensures.regex content told was

pub returns-in-Final-clause-found : goal.returns-in-Final-clause-found
returns-in-Final-clause-found g c =
    let r = g.F.PartialFinder.searched_by c.find_partial.new.self in
    let p = c.in-Final.ensures in
    λ content b. finds_final c.self.view_is r p.regex c.args.input.now c.requires.over c.content_fits.ensures c.requires.start c.in-Final.found p.onward
    p.told content b

pub returns-in-From-clause-told : goal.returns-in-From-clause-told
returns-in-From-clause-told g c =
    let r = g.F.PartialFinder.searched_by c.find_partial.new.self in
    let p = c.in-From.ensures in
    λ content b told was.
    goes_place c.self.view_is r p.regex c.args.input.now c.requires.over c.content_fits.ensures c.requires.start c.in-From.place p.onward p.told
    c.self.invariant content b told was
