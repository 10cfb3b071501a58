use Rattle.std.proofs.Common.{◌≡◌, ℕ, ◌+◌, ◌<◌, ◌^◌, Some, length, take, slice_get}
use Rattle.rc_captures.specs.Names.{names_in, explicit_len, first_slot}
use Rattle.rc_captures.proofs.groups.table.table_of.Given as goal

abbrev pub invariant-loop-explicit : goal.invariant-loop-explicit
invariant-loop-explicit l = record {
  small : l.groups < 2 ^ 62;
  counted : l.groups ≡ length (names_in l.fn.names.items) + explicit_len (take l.explicit-index (names_in l.fn.names.items));
  filled : length l.starts.items ≡ l.explicit-index;
  started : (p : ℕ) → p < l.explicit-index → slice_get l.starts.items p ≡ Some (first_slot (names_in l.fn.names.items) p 1);
}
