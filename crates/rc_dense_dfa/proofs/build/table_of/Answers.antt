use Rattle.std.proofs.Common.{◌≡◌, ◌∙◌, ℕ, ◌<◌, List, length, ap, refl, sym, subst, arith}
use Rattle.rc_dfa.specs.Machine.{IsClassing}
use Rattle.rc_dfa.specs.Automata.{machine_of, samples_of, classes_of}
use Rattle.rc_dense_dfa.specs.Cells.{TellsOnly}
use Rattle.rc_dense_dfa.specs.Rows.{AreParts}
use Rattle.rc_dense_dfa.proofs.PartLemmas.{has_samples, classes_below, few_cells, inside_by, small_by, made_by}
use Rattle.rc_dense_dfa.proofs.ExitLemmas.{marked_exits}
use Rattle.rc_dense_dfa.proofs.LeapLemmas.{marked_leaps}
use Rattle.rc_dense_dfa.proofs.build.table_of.Goals as goal
use Rattle.rc_dense_dfa.proofs.build.table_of.Goals.{In_ok-parts}

pub parts_of-requires : goal.parts_of-requires
parts_of-requires c =
    let k = c.classes-shown.ensures.classing c.args.direction in
    (refl, (c.classes-shown.ensures.machine c.args.direction, has_samples _ (classes_of c.args.automaton.now) (samples_of c.args.automaton.now) k))

classing : (c : In_ok-parts) → IsClassing (machine_of c.args.automaton.now c.args.direction) c.in_ok-classes.classes.items (samples_of c.args.automaton.now)
classing c =
    subst (λ (xs : List ℕ). IsClassing (machine_of c.args.automaton.now c.args.direction) xs (samples_of c.args.automaton.now))
    (sym (c.in_ok-classes.ensures.items ∙ c.classes-shown.ensures.value)) (c.classes-shown.ensures.classing c.args.direction)

width : (c : In_ok-parts) → length c.samples-width.result.now ≡ length (samples_of c.args.automaton.now)
width c = ap length c.samples-width.ensures

shown : (c : In_ok-parts) → IsClassing (machine_of c.args.automaton.now c.args.direction) c.in_ok-classes.classes.items c.samples-width.result.now
shown c = subst (IsClassing (machine_of c.args.automaton.now c.args.direction) c.in_ok-classes.classes.items) (sym c.samples-width.ensures) (classing c)

parts : (c : In_ok-parts) → AreParts (machine_of c.args.automaton.now c.args.direction) c.samples-width.result.now c.args.limit c.in_ok-parts.parts.maker.names
    c.in_ok-parts.parts.starts.items c.in_ok-parts.parts.rows.cells.items c.in_ok-parts.parts.rows.ends.items c.in_ok-parts.parts.tells.items
    c.in_ok-parts.parts.idles.items
parts c =
    let p = c.in_ok-parts.parts in
    subst (λ (xs : List ℕ). AreParts (machine_of c.args.automaton.now c.args.direction) xs c.args.limit p.maker.names p.starts.items p.rows.cells.items
    p.rows.ends.items p.tells.items p.idles.items) (sym c.samples-width.ensures) c.in_ok-parts.ensures.parts

pub exits_of-requires : goal.exits_of-requires
exits_of-requires c =
    let at = (goal.at.exits_of-requires c).In_ok-parts in
    let v = c.args.automaton.now.samples in
    let small = v.small in
    let long = v.ok in
    let same = width at in
    let wide = has_samples _ _ _ (shown at) in
    record {
      wide = (omega (arith, wide), omega (arith, same, small, long));
      small = subst (λ (xs : List ℕ). length xs < 2305843009213693952) (sym c.deref-2.ensures.value)
          (few_cells (machine_of c.args.automaton.now c.args.direction) c.in_ok-classes.classes.items c.samples-width.result.now c.args.limit
          c.in_ok-parts.parts.maker.names _ _ _ _ _ (shown at) (parts at));
    }

pub invariant_of-result : goal.invariant_of-result
invariant_of-result c =
    let at = (goal.at.invariant_of-result c).In_ok-parts in
    let k = shown at in
    let p = parts at in
    let m = machine_of c.args.automaton.now c.args.direction in
    record {
      classed = (k.size, classes_below m c.in_ok-classes.classes.items c.samples-width.result.now k);
      inside = inside_by m c.in_ok-classes.classes.items c.samples-width.result.now c.args.limit c.in_ok-parts.parts.maker.names _ _ _ _ _ _ k p c.mark.ensures;
      passed = λ i. marked_exits _ _ _ _ _ _ _ c.deref.ensures.value c.deref-2.ensures.value c.mark.ensures (c.in_ok-exits.ensures i);
      leaped = marked_leaps _ _ _ _ _ _ c.deref-3.ensures.value c.deref-4.ensures.value c.mark.ensures c.in_ok-leaps.ensures;
      alone = λ found is. subst (λ xs. TellsOnly xs found) c.deref-12.ensures.value (c.only_told-only.ensures found is);
      small = small_by m c.in_ok-classes.classes.items c.samples-width.result.now c.args.limit c.in_ok-parts.parts.maker.names _ _ _ _ _ _ k p c.mark.ensures;
    }

pub returns-clause-made : goal.returns-clause-made
returns-clause-made c =
    let at = (goal.at.returns-clause-made c).In_ok-parts in
    made_by (machine_of c.args.automaton.now c.args.direction) c.requires (samples_of c.args.automaton.now) c.args.limit c.in_ok-parts.parts.maker.names _ _
    (classing at) (width at) c.in_ok-parts.ensures.parts c.mark.ensures
