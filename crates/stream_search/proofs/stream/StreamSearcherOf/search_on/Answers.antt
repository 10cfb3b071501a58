use Rattle.std.proofs.Common.{◌+◌, sym, subst}
use Rattle.api_meta.specs.declared.regex.Regex.{Regex}
use Rattle.stream_search.specs.Searching.{Streaming, WasFed}
use Rattle.stream_search.proofs.Told.{finds_now, goes_now, none_now}
use Rattle.stream_search.proofs.stream.StreamSearcherOf.search_on.Goals as goal

pub returns-in-Final-clause-told : goal.returns-in-Final-clause-told
returns-in-Final-clause-told g c =
    λ fed told was. finds_now c.self.view_is fed told was c.self.invariant c.deref.result.now c.deref.ensures.value c.in-Final.found c.moved.result
    c.moved.ensures c.in-Final.ensures.told

pub returns-in-From-clause-told : goal.returns-in-From-clause-told
returns-in-From-clause-told g c =
    let l = c.self.inside in
    let at : Regex → Streaming = λ r. record {
      regex = r;
      kept = l.kept.items;
      gone = l.gone;
      from = l.gone + c.in-From.place;
      last = l.last;
      limit = l.limit;
      is_finished = l.is_finished;
    } in
    λ fed told was. subst (λ r. WasFed fed told (at r)) (sym c.search_kept.ensures.regex)
    (goes_now c.self.view_is fed told was c.self.invariant c.deref.result.now c.deref.ensures.value c.in-From.place c.in-From.ensures.lies.0
    c.in-From.ensures.told)

pub returns-in-From-clause-none : goal.returns-in-From-clause-none
returns-in-From-clause-none g c =
    λ fed told was fin _. none_now c.self.view_is fed told was c.self.invariant c.deref.result.now c.deref.ensures.value c.in-From.place
    c.in-From.ensures.lies.0 c.in-From.ensures.past fin c.in-From.ensures.told
