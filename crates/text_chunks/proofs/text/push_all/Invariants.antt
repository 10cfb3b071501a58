use Rattle.std.proofs.Common.{◌≡◌, ◌++◌, take}
use Rattle.text_chunks.proofs.text.push_all.Given as goal

abbrev pub invariant-loop-chunk : goal.invariant-loop-chunk
invariant-loop-chunk l = l.pile ≡ l.initial.pile ++ take l.chunk-index l.chunks
