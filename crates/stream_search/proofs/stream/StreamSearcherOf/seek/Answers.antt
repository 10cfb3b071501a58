use Rattle.std.proofs.Common.{◌≡◌, ◌+◌, ◌∙◌, false, true, refl, sym, ap, subst}
use Rattle.rc_program.specs.Matches.{begin_of, end_of, is_again}
use Rattle.stream_search.specs.Searches.{matches_of}
use Rattle.stream_search.specs.Groups.{IsNext}
use Rattle.stream_search.specs.Searching.{Streaming}
use Rattle.stream_search.proofs.Grouped.{next_here, next_later, sought_at, sought_later}
use Rattle.stream_search.proofs.Told.{all_came, second_told, skips_now, stood, took_now}
use Rattle.stream_search.proofs.stream.StreamSearcherOf.seek.Given.{Over}
use Rattle.stream_search.proofs.stream.StreamSearcherOf.seek.Goals as goal
use Rattle.stream_search.proofs.stream.StreamSearcherOf.seek.Goals.{After-search_past}

pub returns-in_err-found-clause-all : goal.returns-in_err-found-clause-all
returns-in_err-found-clause-all g c =
    λ fed told was fin none. all_came c.args.self.now fed told was fin (c.search_on.ensures.none fed told was fin c.in_err-found.was)

pub returns-then-not-is_again-clause-told : goal.returns-then-not-is_again-clause-told
returns-then-not-is_again-clause-told g c =
    let m = c.in_ok-found.found in
    let found = c.in_ok-found.ensures in
    λ fed told was. took_now (stood found.stays found.lies.0) fed told was m
    (subst (λ l. is_again begin_of end_of l m ≡ false) (ap (λ (s : Streaming). s.last) c.self.view_is) (sym c.is_again.ensures ∙ c.if-not-is_again.true))
    (found.told fed told was)

-- the searcher, from the next byte on
abbrev next : (g : Over) → After-search_past g → Streaming
next g c = let l = c.self.inside in record {
  regex = g.F.PartialFinder.searched_by l.finder;
  kept = l.kept.items;
  gone = l.gone;
  from = l.from + 1;
  last = l.last;
  limit = l.limit;
  is_finished = l.is_finished;
}

pub returns-clause-told : goal.returns-clause-told
returns-clause-told g c =
    let m = c.in_ok-found.found in
    let found = c.in_ok-found.ensures in
    let second = c.search_past.ensures in
    λ fed told was.
    let skipped = skips_now (c.self.view_is ∙ stood found.stays found.lies.0) fed told was m c.self.invariant.ended
    (sym c.is_again.ensures ∙ c.if-not-is_again.false) (found.told fed told was) in
    second_told (next g c) c.search_past.new.self fed told c.self.inside.from skipped c.self.invariant.ended refl second.stays c.search_past.result
    second.lies (second.told fed told skipped)

pub returns-clause-all : goal.returns-clause-all
returns-clause-all g c =
    let m = c.in_ok-found.found in
    let found = c.in_ok-found.ensures in
    let same = c.self.view_is ∙ stood found.stays found.lies.0 in
    λ fed told was fin none.
    let skipped = skips_now same fed told was m c.self.invariant.ended (sym c.is_again.ensures ∙ c.if-not-is_again.false) (found.told fed told was) in
    let done = ap (λ (s : Streaming). s.is_finished) same ∙ fin in
    all_came (next g c) fed told skipped done (c.search_past.ensures.none fed told skipped done none) ∙ ap (λ (s : Streaming). matches_of s.regex fed) same

pub returns-then-not-is_again-clause-next : goal.returns-then-not-is_again-clause-next
returns-then-not-is_again-clause-next g c =
    let m = c.in_ok-found.found in
    let found = c.in_ok-found.ensures in
    let same = stood found.stays found.lies.0 in
    let fresh = subst (λ l. is_again begin_of end_of l m ≡ false) (ap (λ (s : Streaming). s.last) (c.self.view_is ∙ same)) (sym c.is_again.ensures ∙ c.if-not-is_again.true) in
    λ fed told was.
    let finds = found.told fed told was in
    sought_at c.args.self.now c.args.self.now c.search_on.new.self fed told was found.stays m found.lies.0 (next_here c.args.self.now fed m finds fresh) finds

pub returns-clause-next : goal.returns-clause-next
returns-clause-next g c =
    let m = c.in_ok-found.found in
    let found = c.in_ok-found.ensures in
    let second = c.search_past.ensures in
    let same = c.self.view_is ∙ stood found.stays found.lies.0 in
    let again = subst (λ l. is_again begin_of end_of l m ≡ true) (ap (λ (s : Streaming). s.last) same) (sym c.is_again.ensures ∙ c.if-not-is_again.false) in
    λ fed told was.
    let finds = found.told fed told was in
    let skipped = skips_now same fed told was m c.self.invariant.ended (sym c.is_again.ensures ∙ c.if-not-is_again.false) finds in
    sought_later c.args.self.now (next g c) c.search_past.new.self fed told skipped second.stays
    (subst (λ k. IsNext c.args.self.now fed (k + 1)) (sym (ap (λ (s : Streaming). s.from) same)) (next_later c.args.self.now fed m finds again))
    c.search_past.result second.lies (second.told fed told skipped)
