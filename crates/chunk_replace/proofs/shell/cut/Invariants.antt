use Rattle.std.proofs.Common.{◌≡◌, ◌++◌}
use Rattle.std.specs.Slice.Iter.{chunks_rest}
use Rattle.rc_text.specs.Joined.{joined}
use Rattle.chunk_replace.proofs.shell.cut.Given as goal

-- the chunks so far, and then what is left, are all bytes
abbrev pub invariant-loop-chunk : goal.invariant-loop-chunk
invariant-loop-chunk l = joined l.chunks.items ++ chunks_rest l.chunk-iterator ≡ l.bytes
