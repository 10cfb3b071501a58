use Rattle.api_meta.specs.Caches.{IsCacheFor}
use Rattle.api_meta.specs.Views.{regex_patterns, regex_settings}
use Rattle.bench_find.proofs.count_texts.Given as goal

abbrev pub invariant-loop-chunk : goal.invariant-loop-chunk
invariant-loop-chunk l = IsCacheFor (regex_patterns l.regex) (regex_settings l.regex) l.cache
