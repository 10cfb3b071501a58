use Rattle.std.proofs.Common.{◌≡◌, Option, Some, ◌+◌, ◌-◌, [], ◌∷◌, length, sym, ap, ◌∙◌, arith}
use Rattle.rc_pikevm.specs.Moves.{seen_by}
use Rattle.rc_pikevm.specs.Near.{size}
use Rattle.rc_pikevm.specs.Alone.{IsAhead}
use Rattle.rc_pikevm.specs.Rules.{Turns}
use Rattle.rc_pikevm.specs.declared.pass.Ending.{Ending}
use Rattle.rc_pikevm.specs.declared.rule.Rule.{Rule}
use Rattle.rc_pikevm.specs.declared.rule.Rule.TheVariants.{First, Longest}
use Rattle.rc_pikevm.specs.Threads.{Thread, ThreadList, thread_of}
use Rattle.rc_pikevm.proofs.StepLemmas.{from_at}
use Rattle.rc_pikevm.proofs.AloneLemmas.{only_thread, ends_alone, lined_none}
use Rattle.rc_pikevm.proofs.RaceAloneLemmas.{raced_ends_alone}
use Rattle.rc_pikevm.proofs.pass.end_walk.Given.{Over}
use Rattle.rc_pikevm.proofs.pass.end_walk.Goals as goal
use Rattle.rc_pikevm.proofs.pass.end_walk.Goals.{After-clear, After-get}

pub get-requires : goal.get-requires
get-requires g c = omega (arith, ap length c.requires.1.1.only)

one : (g : Over) (c : After-get g) → c.args.scratch.now.curr.items ≡ thread_of c.get.result.0 c.get.result.1.now ∷ []
one g c =
    only_thread c.args.scratch.now.curr.items (thread_of c.get.result.0 c.get.result.1.now) (ap length c.requires.1.1.only) c.get.ensures.item

turns : (g : Over) (c : After-clear g) (rule : Rule) (best : Option Ending) → IsAhead best c.get.result.0.start c.args.at →
    c.args.scratch.now.curr.items ≡ thread_of c.get.result.0 c.get.result.1.now ∷ [] →
    Turns rule (seen_by c.args.course g.text) c.args.scratch.now.next.threads.width c.args.course.last c.args.at c.args.scratch.now.curr c.clear.new.self
    best (Some (record { pattern = c.args.number; start = c.get.result.0.start; end = c.args.at })) c.args.scratch.now.found.items
    c.copy_row.new.slots.items
turns g c (First root) best ahead e = λ o x.
    ends_alone (seen_by c.args.course g.text) (size c.args.course) c.args.course.hi c.args.scratch.now.next.threads.width
    c.args.course.last c.args.at c.args.scratch.now.insertions c.args.scratch.now.curr c.requires.0 c.args.number best
    c.args.scratch.now.found.items o c.copy_row.new.slots.items (thread_of c.get.result.0 c.get.result.1.now) c.clear.new.self.items c.requires.1.1
    e (sym c.copy_row.ensures.items) (ap (λ (l : ThreadList). l.items) c.clear.ensures) x
turns g c Longest best ahead e = λ all x.
    raced_ends_alone (seen_by c.args.course g.text) all c.args.at c.args.scratch.now.next.threads.width c.args.course.last
    c.args.scratch.now.curr.items c.args.number best c.args.scratch.now.found.items c.copy_row.new.slots.items
    (thread_of c.get.result.0 c.get.result.1.now) c.clear.new.self.items c.requires.1.1 e
    c.copy_row.ensures.items (ap (λ (l : ThreadList). l.items) c.clear.ensures) ahead x

pub returns-clause-turns : goal.returns-clause-turns
returns-clause-turns g c rule best ahead =
    turns g (goal.at.returns-clause-turns g c).After-clear rule best ahead (one g (goal.at.returns-clause-turns g c).After-get)

pub returns-clause-lined : goal.returns-clause-lined
returns-clause-lined g c =
    lined_none (seen_by c.args.course g.text) (size c.args.course) c.args.course.hi c.args.scratch.now.next.threads.width
    c.args.course.last c.args.at c.args.scratch.now.insertions c.args.scratch.now.curr c.requires.0
    (c.args.at + 1) (c.args.scratch.now.insertions + 1) c.len.result c.clear.new.self c.clear.ensures
    (omega (arith, c.len.ensures, c.args.scratch.now.next.wide.0, c.args.scratch.now.next.slots.ok.0))

pub returns-clause-counted : goal.returns-clause-counted
returns-clause-counted g c =
    let b = from_at (c.args.at - c.args.scratch.now.insertions) c.args.scratch.now.curr.items 0
    (thread_of c.get.result.0 c.get.result.1.now) c.requires.0.begun c.get.ensures.item in
    omega (arith, b)

pub returns-clause-start : goal.returns-clause-start
returns-clause-start g c t e =
    let both = sym (one g (goal.at.returns-clause-start g c).After-get) ∙ e in
    ap (λ (u : Thread). u.start) (same_first (thread_of c.get.result.0 c.get.result.1.now) t both)
  where
    same_first : (u t : Thread) → u ∷ [] ≡ t ∷ [] → u ≡ t
    same_first u t e = cc
