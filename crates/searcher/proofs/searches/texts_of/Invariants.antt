use Rattle.std.proofs.Common.{◌≡◌, ◌<◌, ℕ, take}
use Rattle.std.specs.Prelude.{IsUtf8}
use Rattle.rc_build.specs.TextRefusals.{texts_of}
use Rattle.rc_text.specs.Joined.{chunk_at}
use Rattle.searcher.proofs.searches.texts_of.Given as goal

-- the texts so far, each in UTF-8
abbrev pub invariant-loop-i : goal.invariant-loop-i
invariant-loop-i l = record {
  same : texts_of l.texts.items ≡ texts_of (take l.i l.patterns);
  read : (k : ℕ) → k < l.i → IsUtf8 (chunk_at l.patterns k);
}
