use Rattle.std.proofs.Common.{◌≡◌, sym, ℕ, ◌+◌, [], ◌∷◌, ◌++◌, None, replicate, refl, ap, ◌∙◌, arith}
use Rattle.rc_pikevm.specs.Moves.{seen_by}
use Rattle.rc_pikevm.specs.Near.{size}
use Rattle.rc_pikevm.specs.Rules.{Turns, root_of}
use Rattle.rc_pikevm.specs.declared.rule.Rule.{Rule}
use Rattle.rc_pikevm.specs.declared.rule.Rule.TheVariants.{First, Longest}
use Rattle.rc_pikevm.specs.Threads.{Thread, ThreadList, thread_of}
use Rattle.rc_pikevm.specs.declared.threads.BareThread.{BareThread}
use Rattle.rc_pikevm.proofs.PassingLemmas.{no_threads}
use Rattle.rc_pikevm.proofs.AloneLemmas.{sets_out_alone, lined_one}
use Rattle.rc_pikevm.proofs.RaceAloneLemmas.{raced_sets_out}
use Rattle.rc_pikevm.proofs.pass.set_out_alone.Given.{Over}
use Rattle.rc_pikevm.proofs.pass.set_out_alone.Goals as goal
use Rattle.rc_pikevm.proofs.pass.set_out_alone.Goals.{After-push}

pub push-requires-clause-room : goal.push-requires-clause-room
push-requires-clause-room g c = omega (arith, c.requires.1.1.1.0, c.requires.1.0.room)

turns : (g : Over) (c : After-push g) (rule : Rule) → root_of rule ≡ c.args.root →
    Turns rule (seen_by c.args.course g.text) c.args.scratch.now.next.threads.width c.args.course.last c.args.at c.args.scratch.now.curr c.push.new.self
    None None c.args.scratch.now.found.items c.args.scratch.now.found.items
turns g c (First root) is = λ o x.
    let at : ℕ = c.args.at in
    let reads = c.requires.1.1.1.1.1.1 in
    let slots = c.deref.result.now in
    let t : Thread = record { place = c.args.next; at = at + 1; start = at; slots = slots } in
    sets_out_alone (seen_by c.args.course g.text) (size c.args.course) c.args.course.hi c.args.scratch.now.next.threads.width
    c.args.course.last at c.args.scratch.now.insertions c.args.scratch.now.curr c.requires.1.0 c.args.root reads.0 c.args.next
    c.args.scratch.now.found.items o slots c.push.new.self.items c.requires.1.1.1.0 c.requires.1.1.1.1.0 (omega (arith, c.requires.1.1.1.1.0, c.args.course.ordered, c.requires.0.bound))
    c.requires.1.1.1.1.1.0 reads.1 (c.deref.ensures.value ∙ c.empty.ensures.slots ∙ ap (λ n. replicate n None) c.args.scratch.now.next.wide.0)
    (ap (λ (l : ThreadList). l.items) c.push.ensures ∙ ap (λ ts. ts ++ t ∷ []) (no_threads c.args.scratch.now.curr.items c.requires.1.1.1.0)) x
turns g c Longest is = λ all x.
    let at : ℕ = c.args.at in
    let reads = c.requires.1.1.1.1.1.1 in
    let slots = c.deref.result.now in
    let t : Thread = record { place = c.args.next; at = at + 1; start = at; slots = slots } in
    raced_sets_out (seen_by c.args.course g.text) all at c.args.scratch.now.next.threads.width c.args.course.last c.args.scratch.now.curr.items
    (size c.args.course) c.args.root reads.0 c.args.next c.args.scratch.now.found.items slots c.push.new.self.items c.requires.1.1.1.0
    c.requires.1.1.1.1.0 (sym is) reads.1 (c.deref.ensures.value ∙ c.empty.ensures.slots ∙ ap (λ n. replicate n None) c.args.scratch.now.next.wide.0)
    (ap (λ (l : ThreadList). l.items) c.push.ensures ∙ ap (λ ts. ts ++ t ∷ []) (no_threads c.args.scratch.now.curr.items c.requires.1.1.1.0)) x

pub returns-clause-turns : goal.returns-clause-turns
returns-clause-turns g c rule is = turns g (goal.at.returns-clause-turns g c).After-push rule is

pub returns-clause-lined : goal.returns-clause-lined
returns-clause-lined g c =
    let at : ℕ = c.args.at in
    let reads = c.requires.1.1.1.1.1.1 in
    let slots = c.deref.result.now in
    let r : BareThread = record { place = c.args.next; at = at + 1; start = at } in
    lined_one (seen_by c.args.course g.text) (size c.args.course) c.args.course.hi c.args.scratch.now.next.threads.width
    c.args.course.last at c.args.scratch.now.insertions c.args.scratch.now.curr c.requires.1.0 r slots c.push.new.self
    (c.push.ensures ∙ ap (λ ts. record c.args.scratch.now.curr { items = ts ++ thread_of r slots ∷ [] })
    (no_threads c.args.scratch.now.curr.items c.requires.1.1.1.0))
    refl refl reads.1.inside (omega (arith, reads.1.move.4, c.requires.0.bound))
