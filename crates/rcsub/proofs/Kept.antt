-- What was put into a buffered sink stands in the writer that it gives back.
use Rattle.std.proofs.Common.{◌≡◌, ℕ, Bool, true, false, List, Option, subst}
use Rattle.std.specs.Io.KnownBytes.{Appends, Keeps}
use Rattle.buffered_sink.proofs.Kept.{appends_kept}
use Rattle.rcsub.specs.Replaced.{RewritesBy}
use Rattle.rcsub.specs.declared.replacer.Replacer.{Replacer}

pub kept_by : (by_line : Bool) (r : Replacer) (text : List ℕ) (a b c d : Option (List ℕ)) (any : Bool) → a ≡ d → Keeps b c → RewritesBy by_line r text a b any →
    RewritesBy by_line r text d c any
kept_by true r text a b c d any same kept s = record {
  put = s.put;
  count = s.count;
  is = s.is;
  appended = appends_kept d b c s.put (subst (λ x. Appends x b s.put) same s.appended) kept;
  told = s.told;
}
kept_by false r text a b c d any same kept s = record {
  put = s.put;
  count = s.count;
  is = s.is;
  appended = appends_kept d b c s.put (subst (λ x. Appends x b s.put) same s.appended) kept;
  told = s.told;
}
