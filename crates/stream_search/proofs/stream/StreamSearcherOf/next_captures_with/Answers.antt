use Rattle.std.proofs.Common.{◌++◌, ◌∷◌, [], subst}
use Rattle.stream_search.specs.Groups.{AreOf}
use Rattle.stream_search.proofs.Grouped.{groups_next, here_stays, told_at}
use Rattle.stream_search.proofs.stream.StreamSearcherOf.next_captures_with.Goals as goal

pub returns-in_err-found-clause-all : goal.returns-in_err-found-clause-all
returns-in_err-found-clause-all g c = λ fed told was fin none. c.seek.ensures.all fed told was fin c.in_err-found.was

pub returns-then-write_groups-clause-told : goal.returns-then-write_groups-clause-told
returns-then-write_groups-clause-told g c =
    let m = c.in_ok-found.found in
    λ fed told was. told_at c.self-2.view_is fed (told ++ m ∷ []) m c.end-self-inside.result c.end.result c.end-self-inside.ensures.value
    c.end.ensures.value (c.in_ok-found.ensures.told fed told was)

pub returns-then-write_groups-clause-groups : goal.returns-then-write_groups-clause-groups
returns-then-write_groups-clause-groups g c =
    let now = c.args.self.now in
    let found = c.in_ok-found.ensures in
    let caps = c.write_groups.new.caps in
    λ fed told was.
    let next = found.next fed told was in (
      groups_next now c.seek.new.self fed caps found.stays next.0 (c.write_groups.ensures.groups fed next.1 c.if-write_groups.true),
      subst (λ s. AreOf s caps c.in_ok-found.found) found.stays (c.write_groups.ensures.matched fed next.1 c.in_ok-found.found next.2),
    )

pub returns-then-write_groups-clause-here : goal.returns-then-write_groups-clause-here
returns-then-write_groups-clause-here g c =
    here_stays c.args.self.now c.seek.new.self c.write_groups.new.caps c.in_ok-found.ensures.stays c.write_groups.ensures.here
