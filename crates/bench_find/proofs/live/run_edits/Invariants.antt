use Rattle.live_matches.specs.Live.{IsCacheOf, IsLive}
use Rattle.bench_find.proofs.live.run_edits.Given as goal

-- the list is that of the text
abbrev pub invariant-edits : goal.invariant-edits
invariant-edits l = record {
  made : IsCacheOf l.pattern.regex l.cache;
  live : IsLive l.pattern.regex l.text.content l.live;
}
