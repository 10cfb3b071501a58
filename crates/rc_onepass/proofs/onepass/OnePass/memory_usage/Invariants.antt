use Rattle.std.proofs.Common.{◌≡◌, ◌+◌, ◌≤◌, drop, min}
use Rattle.rc_onepass.specs.Rows.{bytes_of_rows}
use Rattle.rc_onepass.proofs.onepass.OnePass.memory_usage.Given as goal

abbrev pub invariant-loop-row : goal.invariant-loop-row
invariant-loop-row l = record {
  small : l.bytes ≤ 18446744073709551615;
  counted : min (l.bytes + bytes_of_rows (drop l.row-index l.self.rows.items)) 18446744073709551615
      ≡ min (bytes_of_rows l.self.rows.items) 18446744073709551615;
}
