use Rattle.std.proofs.Common.{◌∙◌, refl}
use Rattle.rc_determinize.proofs.SparseLemmas.{has_at}
use Rattle.rc_dfa.specs.Automata.{machine_of}
use Rattle.rc_dfa.specs.declared.automaton.Direction.TheVariants.{Overlapping}
use Rattle.rc_lazy_dfa.proofs.SetLemmas.{all_inserted, matched_below, none_inserted, one_inserted}
use Rattle.rc_lazy_dfa.proofs.which.insert_all.Goals as goal

pub loop-place-init : goal.loop-place-init
loop-place-init c = none_inserted (machine_of c.args.automaton.now Overlapping).setting.places c.args.places.now c.args.set.now

pub pattern_at-requires : goal.pattern_at-requires
pattern_at-requires c =
    matched_below (machine_of c.args.automaton.now Overlapping).setting.places _
    (c.requires _ (has_at c.args.places.now c.loop-place.place-index c.loop-place-test.true))

pub loop-place-preserved : goal.loop-place-preserved
loop-place-preserved c =
    one_inserted (machine_of c.args.automaton.now Overlapping).setting.places c.args.places.now c.args.set.now c.loop-place.set c.insert.new.self
    c.loop-place.place-index _ c.in-Some.pattern c.loop-place-test.true refl
    (c.requires _ (has_at c.args.places.now c.loop-place.place-index c.loop-place-test.true)) (c.in-Some.ensures.1 ∙ c.pattern_at.ensures) c.insert.ensures.set
    c.loop-place.invariant

pub returns : goal.returns
returns c = record {
  adds = c.loop-place.invariant.adds;
  each = λ _. all_inserted (machine_of c.args.automaton.now Overlapping).setting.places c.args.places.now c.args.set.now c.loop-place.set
      c.loop-place.place-index c.loop-place-test.false c.loop-place.invariant;
}
