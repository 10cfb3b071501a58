use Rattle.std.proofs.Common.{◌≡◌, ◌+◌, ◌*◌, length, map, drop}
use Rattle.rc_pattern.specs.Meaning.{meaning}
use Rattle.rc_program.specs.Program.{choice_of_patterns}
use Rattle.rc_program.specs.Laws.{all_groups}
use Rattle.rc_compile.specs.Shown.{shown_one}
use Rattle.rc_compile.proofs.EmitLemmas.{Emits}
use Rattle.rc_compile.proofs.compile.compile.Given as goal

abbrev pub invariant-loop-i : goal.invariant-loop-i
invariant-loop-i l = record {
  emitted : Emits 0 0 l.initial.places (choice_of_patterns 0 (2 * length (map meaning l.hirs)) (map (shown_one l.groups) (map meaning l.hirs))) l.places
      (choice_of_patterns l.i l.slots (map (shown_one l.groups) (map meaning (drop l.i l.hirs))));
  counted : l.slots + 2 * all_groups (map (shown_one l.groups) (map meaning (drop l.i l.hirs)))
      ≡ 2 * length (map meaning l.hirs) + 2 * all_groups (map (shown_one l.groups) (map meaning l.hirs));
}
