use Rattle.std.proofs.Common.{◌-◌, ◌^◌, ◌∙◌, ap, sym, min}
use Rattle.rc_pattern.specs.Meaning.{meaning}
use Rattle.rc_compile.proofs.CompileLemmas.{count_shown, count_bare}
use Rattle.rc_compile.proofs.compile.shown_groups.Goals as goal

pub returns-then-groups : goal.returns-then-groups
returns-then-groups c =
    c.group_count.ensures ∙ ap (λ k. min k (2 ^ 64 - 1)) (sym (count_shown c.args.groups (meaning c.args.hir.now) c.if-groups.true))

pub returns : goal.returns
returns c = sym (ap (λ k. min k (2 ^ 64 - 1)) (count_bare c.args.groups (meaning c.args.hir.now) c.if-groups.false))
