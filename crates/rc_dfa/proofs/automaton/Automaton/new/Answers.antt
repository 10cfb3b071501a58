use Rattle.std.proofs.Common.{subst}
use Rattle.rc_utf8.specs.Places.{places_of}
use Rattle.rc_determinize.specs.Reversed.{AreEdges}
use Rattle.rc_determinize.specs.Sides.{Covers}
use Rattle.rc_determinize.proofs.FollowLemmas.{by_bytes}
use Rattle.rc_dfa.specs.Samples.{AreClassesBy}
use Rattle.rc_dfa.proofs.AutomatonLemmas.{sized, counted, rising, tells_alike}
use Rattle.rc_dfa.proofs.automaton.Automaton.new.Goals as goal

pub samples_of-requires-clause-counted : goal.samples_of-requires-clause-counted
samples_of-requires-clause-counted c =
    counted c.args.byte_classes (places_of c.deref-3.result.now) c.needs_of-needs.result c.args.terminator c.in_ok-classes.classes.items c.in_ok-classes.ensures

pub invariant_of-result : goal.invariant_of-result
invariant_of-result c =
    let classes = subst (λ ps. AreClassesBy c.args.byte_classes (places_of ps) c.needs_of-needs.result c.args.terminator c.in_ok-classes.classes.items)
    c.deref-3.ensures.value c.in_ok-classes.ensures in
    record {
      closed = c.requires.closed;
      rooted = c.requires.rooted;
      entered = c.requires.entered;
      edges = subst (λ ps. AreEdges (places_of ps) c.in_ok-reversed.reversed) c.deref.ensures.value c.in_ok-reversed.ensures.edges;
      covers = subst (λ ps. Covers c.needs_of-needs.result (places_of ps)) c.deref-2.ensures.value c.needs_of-needs.ensures.covers;
      size = sized c.args.byte_classes (places_of c.args.places.items) c.needs_of-needs.result c.args.terminator c.in_ok-classes.classes.items classes;
      alike = tells_alike c.args.byte_classes (places_of c.args.places.items) c.needs_of-needs.result c.args.terminator c.in_ok-classes.classes.items
          (by_bytes c.args.places.items) classes;
      sampled = c.in_ok-samples.ensures;
      columns = c.in_ok-past.ensures;
      rising = rising c.args.byte_classes (places_of c.args.places.items) c.needs_of-needs.result c.args.terminator c.in_ok-classes.classes.items classes;
    }
