use Rattle.std.proofs.Common.{rules, ◌≡◌, ◌<◌, ℕ, ◌==◌, false, ltb, length, slice_index_or, subst, sym, arith, ltb-true, ltb-false}
use Rattle.std.specs.List.{list_any}
use Rattle.std.specs.List.Sorted.{IsNonDecreasingBy}
use Rattle.std.proofs.lemmas.List.Sorted.{IsPartitionPoint-from_clause, IsPartitionedBy-ltb}
use Rattle.rc_class_sets.proofs.OthersLemmas.{fold_pairs_up}
use Rattle.rc_full_parser.proofs.CaseLemmas.{any_past, tells}
use Rattle.rc_full_parser.proofs.characters.folds_with_another.Goals as goal

pub returns-then-first-folds : goal.returns-then-first-folds
returns-then-first-folds c =
    let folds = c.fold_pairs-folds.result.now in
    let table = c.fold_pairs-folds.ensures.table in
    let n = c.partition_point-first.result in
    let up = subst (λ fs. IsNonDecreasingBy (λ (pair : ℕ × ℕ). pair.0) fs) (sym table) fold_pairs_up in
    let parted = IsPartitionedBy-ltb (λ (fold : ℕ × ℕ). fold.0) _ c.args.c up in
    let point = IsPartitionPoint-from_clause (λ (fold : ℕ × ℕ). ltb fold.0 c.args.c) _ _ c.partition_point-first.ensures.partitioned parted (λ a r q k. search rules) in
    let end : n ≡ length folds = omega arith in
    subst (λ fs. false ≡ list_any (λ (pair : ℕ × ℕ). pair.0 == c.args.c) fs) table
    (sym (any_past c.args.c folds n up (λ k lt. ltb-true _ _ (point.0 k (0, 0) (omega arith) lt)) (λ less. absurd (omega (arith, end, less)))))

pub returns : goal.returns
returns c =
    let folds = c.fold_pairs-folds.result.now in
    let table = c.fold_pairs-folds.ensures.table in
    let n = c.partition_point-first.result in
    let up = subst (λ fs. IsNonDecreasingBy (λ (pair : ℕ × ℕ). pair.0) fs) (sym table) fold_pairs_up in
    let parted = IsPartitionedBy-ltb (λ (fold : ℕ × ℕ). fold.0) _ c.args.c up in
    let point = IsPartitionPoint-from_clause (λ (fold : ℕ × ℕ). ltb fold.0 c.args.c) _ _ c.partition_point-first.ensures.partitioned parted (λ a r q k. search rules) in
    let lt : n < length folds = omega arith in
    subst (λ fs. ((slice_index_or folds n (0, 0)).0 == c.args.c) ≡ list_any (λ (pair : ℕ × ℕ). pair.0 == c.args.c) fs) table
    (tells c.args.c folds n up (λ k lt. ltb-true _ _ (point.0 k (0, 0) (omega arith) lt)) (ltb-false _ _ (point.1 n (0, 0) (omega arith) lt)) lt)
