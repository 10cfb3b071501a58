use Rattle.std.proofs.Common.{◌∙◌, length, sym, subst}
use Rattle.api_meta.specs.Partials.{partial_of}
use Rattle.api_meta.specs.Views.{regex_kind, sought}
use Rattle.stream_search.specs.Searches.{seeks}
use Rattle.stream_search.specs.Streams.{IsTold}
use Rattle.stream_search.proofs.Kept.{found_all, lies_open, lies_within, told_none, told_open, told_some}
use Rattle.stream_search.proofs.Nexts.{lies}
use Rattle.stream_search.proofs.search.search_kept.Goals as goal

pub returns-then-not-is_finished-clause-lies : goal.returns-then-not-is_finished-clause-lies
returns-then-not-is_finished-clause-lies g c =
    let r = g.F.PartialFinder.searched_by c.args.finder.now in
    let i = c.input_from-input in
    let p = c.find_partial in
    lies_within c.args.at (length c.args.kept.now) p.result c.requires.inside
    (lies_open r i.result c.args.kept.now c.args.at (i.ensures.search (sought r)) p.result p.ensures.onward p.ensures.told)

pub returns-then-not-is_finished-clause-told : goal.returns-then-not-is_finished-clause-told
returns-then-not-is_finished-clause-told g c =
    let r = g.F.PartialFinder.searched_by c.args.finder.now in
    let i = c.input_from-input in
    let p = c.find_partial in
    subst (λ f. IsTold (regex_kind r) (seeks r) f c.args.kept.now c.args.at (partial_of p.result)) (sym c.if-not-is_finished.true)
    (told_open r i.result c.args.kept.now c.args.at (i.ensures.search (sought r)) p.result p.ensures.onward p.ensures.told)

pub returns-in-None-clause-told : goal.returns-in-None-clause-told
returns-in-None-clause-told g c =
    let r = g.F.PartialFinder.searched_by c.args.finder.now in
    let i = c.input_from-input in
    let found = found_all r i.result c.args.kept.now c.args.at (i.ensures.search (sought r)) c.find.result i.ensures.over.late c.find.ensures.found_by in
    λ content b. told_none (regex_kind r) (seeks r) c.args.is_finished c.args.kept.now content c.args.at c.if-not-is_finished.false
    (found ∙ c.in-None.is) b

pub returns-in-Some-clause-told : goal.returns-in-Some-clause-told
returns-in-Some-clause-told g c =
    let r = g.F.PartialFinder.searched_by c.args.finder.now in
    let i = c.input_from-input in
    let found = found_all r i.result c.args.kept.now c.args.at (i.ensures.search (sought r)) c.find.result i.ensures.over.late c.find.ensures.found_by in
    λ content b. told_some (regex_kind r) (seeks r) c.args.is_finished c.args.kept.now content c.args.at c.in-Some.found c.if-not-is_finished.false
    (found ∙ c.in-Some.is) b

pub returns-in-Some-clause-lies : goal.returns-in-Some-clause-lies
returns-in-Some-clause-lies g c =
    let r = g.F.PartialFinder.searched_by c.args.finder.now in
    let i = c.input_from-input in
    let found = found_all r i.result c.args.kept.now c.args.at (i.ensures.search (sought r)) c.find.result i.ensures.over.late c.find.ensures.found_by in
    lies (regex_kind r) (seeks r) c.args.kept.now c.args.at c.in-Some.found (found ∙ c.in-Some.is)
