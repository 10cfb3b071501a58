use Rattle.std.proofs.Common.{◌≡◌, ◌*◌, ◌≤◌, length, take}
use Rattle.zorfelith_c.specs.Escaping.{escaped}
use Rattle.zorfelith_c.proofs.escape.escaped_len.Given as goal

-- the length so far
abbrev pub invariant-loop-i : goal.invariant-loop-i
invariant-loop-i l = record {
  told : l.len ≡ length (escaped (take l.i l.text));
  small : l.len ≤ 2 * l.i;
}
