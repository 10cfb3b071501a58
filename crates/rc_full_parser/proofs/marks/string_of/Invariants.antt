use Rattle.std.proofs.Common.{◌≡◌, ◌++◌, drop, encode_utf8_all, string_bytes}
use Rattle.rc_full_parser.proofs.marks.string_of.Given as goal

abbrev pub invariant-loop-c : goal.invariant-loop-c
invariant-loop-c l = encode_utf8_all l.text ≡ string_bytes l.all ++ encode_utf8_all (drop l.c-index l.text)
