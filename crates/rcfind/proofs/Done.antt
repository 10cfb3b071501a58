-- What a run did, once all that it put was written.
use Rattle.std.proofs.Common.{◌≡◌, ℕ, List, Bool, Option, subst}
use Rattle.std.specs.Prelude.{IfSome}
use Rattle.std.specs.Io.KnownBytes.{Appends, Keeps}
use Rattle.buffered_sink.proofs.Kept.{IfSome-map, appends_kept}
use Rattle.regex_cursor.specs.Output.{IsRun, lines_of, matches_in}

module _ (a b c d : Option (List ℕ)) (found : Bool) (same : a ≡ d) (kept : Keeps b c) where
  run_kept : (text content : List ℕ) → IsRun text content a b found → IsRun text content d c found
  run_kept text content r = record {
    pattern = r.pattern;
    read = r.read;
    put = record {
      lines =
          let bytes = lines_of (matches_in r.pattern content) in
          appends_kept d b c bytes (subst (λ x. Appends x b bytes) same r.put.lines) kept;
      told = r.put.told;
    };
  }

  pub done_kept : (input : Option (List ℕ)) (text : List ℕ) → IfSome input (λ bytes. IsRun text bytes a b found) → IfSome input (λ bytes. IsRun text bytes d c found)
  done_kept input text s = IfSome-map input (run_kept text) s
