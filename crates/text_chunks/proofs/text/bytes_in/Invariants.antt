use Rattle.std.proofs.Common.{◌≡◌, ◌≤◌, ◌*◌, length, take}
use Rattle.rc_text.specs.Joined.{joined}
use Rattle.text_chunks.proofs.text.bytes_in.Given as goal

abbrev pub invariant-loop-chunk : goal.invariant-loop-chunk
invariant-loop-chunk l = record {
  sum : l.sum ≡ length (joined (take l.chunk-index l.chunks));
  bound : l.sum ≤ l.chunk-index * 18446744073709551615;
}
