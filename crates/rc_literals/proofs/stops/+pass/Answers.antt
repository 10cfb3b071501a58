use Rattle.std.proofs.Common.{map}
use Rattle.rc_pattern.specs.Meaning.{alt_all, meaning}
use Rattle.rc_literals.specs.Stops.{reads}
use Rattle.rc_literals.proofs.LeaveLemmas.{any_reads, each_alt, leaves_alike, members_read, turns_end}
use Rattle.rc_literals.proofs.stops.+pass.Goals as goal

pub pass-returns-in-Concat : goal.pass-returns-in-Concat
pass-returns-in-Concat t c =
    leaves_alike c.args.table.now c.pass_each.new.table (reads (alt_all (map meaning c.deref-in-Concat.result.now))) (reads (meaning c.args.hir.now))
    (members_read c.args.hir.now c.kind.result.now c.in-Concat.subs c.deref-in-Concat.result.now c.kind.ensures.value c.in-Concat.is
    c.deref-in-Concat.ensures.value) c.pass_each.ensures

pub pass_each-returns : goal.pass_each-returns
pass_each-returns t c =
    leaves_alike c.args.table.now c.loop-sub.table (any_reads (λ h. reads (meaning h)) c.args.subs.now) (reads (alt_all (map meaning c.args.subs.now)))
    (each_alt c.args.subs.now)
    (turns_end (λ h. reads (meaning h)) c.args.table.now c.loop-sub.table c.args.subs.now c.loop-sub.sub-index c.loop-sub-test.false c.loop-sub.invariant)
