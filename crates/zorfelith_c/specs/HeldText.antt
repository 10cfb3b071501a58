-- What a handle of a prepared text owns.
use base.Fml.{Fml, ftrue}
use base.Stored.{Coded}
use denote.RawPtr.{Ptr}
use Rattle.std.specs.Prelude.{Option, Some, None}
use Rattle.std.specs.Coded.{coded_option}
use Rattle.std.specs.Box.Ownership.{box_owns}
use Rattle.std.specs.Global.{Global}
use Rattle.std_heap.specs.contracts.GlobalAllocator.TheImpl.{ghosts}
use Rattle.searcher.specs.contracts.kept.KeptText.{the_row}

-- nothing where it is empty, and else what a `Box<KeptText>` owns
abbrev pub held : Global → Ptr → Option the_row.Denot → Fml
held alloc p None = ftrue
held alloc p (Some x) = box_owns (ghosts.dealloc_token alloc) the_row p x

abbrev pub text_coded : Coded (Option the_row.Denot)
text_coded = coded_option the_row.coded
