use Rattle.std.proofs.Common.{◌≡◌, length, take}
use Rattle.zorfelith_c.specs.Escaping.{escaped}
use Rattle.zorfelith_c.proofs.escape.write_escaped.Given as goal

-- the pattern so far
abbrev pub invariant-loop-i : goal.invariant-loop-i
invariant-loop-i l = record {
  told : l.at ≡ length (escaped (take l.i l.text));
  written : take l.at l.place ≡ escaped (take l.i l.text);
}
