use Rattle.std.proofs.Common.{rules, ◌+◌, ◌++◌, drop, ◌∙◌, ℕ, ltb, ap, sym, append-nil, append_assoc, ltb-false}
use Rattle.std.proofs.lemmas.List.Sorted.{IsPartitionPoint-from_clause, IsPartitionedBy-ltb}
use Rattle.unicode.specs.CaseFolding.{fold_pairs}
use Rattle.rc_tokens.specs.ClassView.{pair, pairs}
use Rattle.rc_class_sets.specs.Others.{others}
use Rattle.rc_class_sets.proofs.OthersLemmas.{table_up, table_skip, table_past, table_hit}
use Rattle.rc_class_sets.proofs.folding.push_others.Goals as goal

pub loop-i-init : goal.loop-i-init
loop-i-init c =
    let parted = IsPartitionedBy-ltb (λ (fold : ℕ × ℕ). fold.0) _ c.args.range.start (table_up (pair c.args.range) _ c.fold_pairs-folds.ensures.table) in
    let point = IsPartitionPoint-from_clause (λ (fold : ℕ × ℕ). ltb fold.0 c.args.range.start) _ _ c.partition_point-first.ensures.partitioned parted (λ a r q k. search rules) in
    ap (λ rs. pairs c.args.ranges.now.items ++ rs)
    (table_skip (pair c.args.range) _ c.fold_pairs-folds.ensures.table c.partition_point-first.result c.partition_point-first.ensures.bound point.0)

pub returns-then-fold-range : goal.returns-then-fold-range
returns-then-fold-range c =
    sym (c.loop-i.invariant ∙ ap (λ rs. pairs c.loop-i.ranges.items ++ rs)
    (table_past (pair c.args.range) _ c.fold_pairs-folds.ensures.table c.loop-i.i c.if-fold-range.true) ∙ append-nil _)

pub loop-i-preserved : goal.loop-i-preserved
loop-i-preserved c =
    let parted = IsPartitionedBy-ltb (λ (fold : ℕ × ℕ). fold.0) _ c.args.range.start (table_up (pair c.args.range) _ c.fold_pairs-folds.ensures.table) in
    let point = IsPartitionPoint-from_clause (λ (fold : ℕ × ℕ). ltb fold.0 c.args.range.start) _ _ c.partition_point-first.ensures.partitioned parted (λ a r q k. search rules) in
    let low = ltb-false _ _ (point.1 c.loop-i.i (0, 0) c.loop-i.auto.i c.loop-i-test.true) in
    c.loop-i.invariant ∙ ap (λ rs. pairs c.loop-i.ranges.items ++ rs)
    (table_hit (pair c.args.range) _ c.fold_pairs-folds.ensures.table c.loop-i.i c.loop-i-test.true low c.if-fold-range.false)
    ∙ sym (append_assoc (pairs c.loop-i.ranges.items) _ _) ∙ ap (λ rs. rs ++ others (pair c.args.range) (drop (c.loop-i.i + 1) fold_pairs)) (sym c.in_ok-push.ensures)
