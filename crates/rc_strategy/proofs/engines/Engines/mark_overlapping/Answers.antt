use Rattle.std.proofs.Common.{ℕ, IfSome, subst}
use Rattle.rc_program.specs.Sought.{text_of}
use Rattle.rc_text.specs.Text.{high}
use Rattle.rc_dfa.specs.Automata.{machine_of}
use Rattle.rc_dfa.specs.declared.automaton.Direction.TheVariants.{Overlapping}
use Rattle.rc_dfa_search.specs.Ends.{Asks}
use Rattle.rc_lazy_dfa.specs.Caches.{AreHalves}
use Rattle.rc_lazy_dfa.specs.Overlaps.{AddsOnly, HasEach, IsMet}
use Rattle.rc_strategy.specs.Tables.{AreHalvesFor}
use Rattle.rc_strategy.proofs.HeldLemmas.{adds_held, keeps_held}
use Rattle.rc_strategy.proofs.OverlapLemmas.{free_asks, held_asks, held_ordered, met_all, met_some, some_held, states_so}
use Rattle.rc_strategy.proofs.engines.Engines.mark_overlapping.Goals as goal
use Rattle.rc_strategy.proofs.engines.Engines.mark_overlapping.Goals.{After-set_anchored}

-- the halves are those of the patterns
own : (g : _) (c : After-set_anchored g) → ∥ AreHalvesFor c.args.self.now.engine c.args.self.now.patterns (AreHalves c.in-Some.tables) ∥₁
own g c =
    let e = c.args.self.now in
    subst (λ o. ∥ IfSome o (λ l. AreHalvesFor e.engine e.patterns (AreHalves l)) ∥₁) c.in-Some.is e.lazy_fit

asks : (g : _) (c : After-set_anchored g) → Asks c.args.self.now.patterns c.hold.new.input.anchored
asks g c =
    let e = c.args.self.now in
    held_asks e.spans c.args.input.now c.hold.new.input e.patterns c.hold.ensures
    (subst (Asks e.patterns) c.get_anchored-anchored.ensures (free_asks e.patterns c.get_anchored-anchored.result (λ p is. c.in_default-anchored.not-Pattern p is)))

abbrev Met : (g : _) (c : After-set_anchored g) → ℕ → ℕ → Type 0
Met g c from =
    let m = machine_of c.in-Some.tables.automaton Overlapping in
    IsMet m (text_of m.setting.terminator c.hold.new.input) (high c.hold.new.input) from c.hold.new.input.anchored

pub returns-clause-keeps : goal.returns-clause-keeps
returns-clause-keeps g c =
    keeps_held c.args.self.now.spans c.args.input.now c.hold.new.input c.which_patterns-all.new.input c.set_anchored.new.self c.get_anchored-anchored.result
    c.hold.ensures c.which_patterns-all.ensures.keeps c.set_anchored.ensures c.get_anchored-anchored.ensures

pub returns-clause-adds : goal.returns-clause-adds
returns-clause-adds g c =
    let e = c.args.self.now in
    let k = (goal.at.returns-clause-adds g c).After-set_anchored in
    some_held e.engine e.spans c.args.input.now c.hold.new.input c.args.set.now c.which_patterns-all.new.set c.hold.ensures
    (met_some e.engine e.patterns c.in-Some.tables c.hold.new.input (held_ordered e.spans c.args.input.now c.hold.new.input c.hold.ensures c.requires.ordered) (asks g k)
    (own g k) c.args.set.now c.which_patterns-all.new.set
    (subst (λ from. AddsOnly (Met g k from) c.args.set.now c.which_patterns-all.new.set) c.low-from.ensures c.which_patterns-all.ensures.adds))

pub returns-clause-all : goal.returns-clause-all
returns-clause-all g c = λ all.
    let e = c.args.self.now in
    let k = (goal.at.returns-clause-all g c).After-set_anchored in
    adds_held e.engine e.spans c.args.input.now c.hold.new.input c.args.set.now c.which_patterns-all.new.set e.bound c.hold.ensures
    (met_all e.engine e.patterns c.in-Some.tables c.hold.new.input (held_ordered e.spans c.args.input.now c.hold.new.input c.hold.ensures c.requires.ordered) (asks g k)
    (own g k) c.args.set.now c.which_patterns-all.new.set
    (subst (λ from. AddsOnly (Met g k from) c.args.set.now c.which_patterns-all.new.set) c.low-from.ensures c.which_patterns-all.ensures.adds)
    (subst (λ from. HasEach (Met g k from) c.which_patterns-all.new.set) c.low-from.ensures (c.which_patterns-all.ensures.all all)))

pub returns-clause-cache : goal.returns-clause-cache
returns-clause-cache g c = states_so c.args.self.now.lazy c.args.cache.now c.in-Some.tables c.in-Some-cache.states c.which_patterns-all.new.cache c.in-Some.is c.in-Some-cache.is c.which_patterns-all.ensures.cache
