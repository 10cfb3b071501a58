use Rattle.std.proofs.Common.{inr, rules, subst, sym}
use Rattle.rc_explain.specs.Shown.{HasCode, HasPerl, IsAbove, IsPerl}
use Rattle.rc_explain.specs.declared.faults.FaultKind.TheVariants.{ClassInRange, RangeOutOfOrder}
use Rattle.rc_explain.proofs.Members.{ranged, shaped}
use Rattle.rc_explain.proofs.lists.range_fault.Goals as goal

pub returns-in-Perl : goal.returns-in-Perl
returns-in-Perl c = λ text line.
    let b = c.between-in-Perl in
    shaped ClassInRange text c.args.first.start c.args.last.end b.result b.ensures.kind b.ensures.start b.ensures.end
    (ranged HasPerl text c.args.first c.args.hyphen c.args.last line (inr (subst IsPerl (sym c.in-Perl.is) tt)))

pub returns-in-Some-Some : goal.returns-in-Some-Some
returns-in-Some-Some c = λ text line.
    let b = c.between-in-Some-Some in
    let low : HasCode c.args.first.member c.in-Some-Some.low = search rules in
    let high : HasCode c.args.last.member c.in-Some-Some.high = search rules in
    shaped RangeOutOfOrder text c.args.first.start c.args.last.end b.result b.ensures.kind b.ensures.start b.ensures.end
    (ranged IsAbove text c.args.first c.args.hyphen c.args.last line
    (record { a = c.in-Some-Some.low; b = c.in-Some-Some.high; low_code = low; high_code = high; above = c.if-high-low.true }))
