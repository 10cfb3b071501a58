use Rattle.std.proofs.Common.{◌-◌, map, drop}
use Rattle.rc_pattern.specs.Meaning.{meaning, cat_all, alt_all}
use Rattle.rc_pattern.specs.declared.hir.Repetition.{out-Repetition}
use Rattle.rc_program.specs.Program.{copies, up_to, plus}
use Rattle.rc_compile.specs.Shown.{laid}
use Rattle.rc_compile.proofs.EmitLemmas.{Emits}
use Rattle.rc_compile.proofs.compile.emit.+emit.Given as goal

abbrev pub invariant-emit_concat-loop-sub : goal.invariant-emit_concat-loop-sub
invariant-emit_concat-loop-sub l =
    Emits l.slots l.next l.initial.places (laid l.groups (cat_all (map meaning l.subs))) l.places
    (laid l.groups (cat_all (map meaning (drop l.sub-index l.subs))))

abbrev pub invariant-emit_alternation-loop-sub : goal.invariant-emit_alternation-loop-sub
invariant-emit_alternation-loop-sub l =
    Emits l.slots l.next l.initial.places (laid l.groups (alt_all (map meaning l.subs))) l.places
    (laid l.groups (alt_all (map meaning (drop l.sub-index l.subs))))

abbrev pub invariant-emit_repetition-first : goal.invariant-emit_repetition-first
invariant-emit_repetition-first l =
    let o = out-Repetition l.repetition in let a = laid l.groups (meaning o.sub.value) in
    Emits l.slots l.next l.initial.places (copies (o.min - 1) a (plus o.greedy a)) l.places (copies (o.min - l.k) a (plus o.greedy a))

abbrev pub invariant-emit_repetition-copies : goal.invariant-emit_repetition-copies
invariant-emit_repetition-copies l =
    let o = out-Repetition l.repetition in let a = laid l.groups (meaning o.sub.value) in
    Emits l.slots l.next l.initial.places (copies o.min a (up_to o.greedy (l.max - o.min) a)) l.places
    (copies (o.min - l.k) a (up_to o.greedy (l.max - o.min) a))

abbrev pub invariant-emit_repetition-more : goal.invariant-emit_repetition-more
invariant-emit_repetition-more l =
    let o = out-Repetition l.repetition in let a = laid l.groups (meaning o.sub.value) in
    Emits l.slots l.next l.initial.places (up_to o.greedy (l.max - o.min) a) l.places (up_to o.greedy (l.max - l.k) a)
