use Rattle.std.proofs.Common.{◌≡◌, ◌-◌, ◌≤◌, ℕ, Some, None, option_map, sym, subst, ap, ◌∙◌, arith}
use Rattle.rc_pattern.specs.Meaning.{meaning}
use Rattle.rc_tokens.specs.Text.{Characters}
use Rattle.rc_tokens.specs.ClassView.{pairs}
use Rattle.rc_parser.specs.Settings.{settings_of}
use Rattle.rc_parser.specs.Pieces.{set_re, deeper}
use Rattle.rc_parser.specs.View.{part}
use Rattle.rc_class_sets.specs.Sets.{CodeSet, AreRangesOf}
use Rattle.rc_full_lists.specs.Lists.{IsList}
use Rattle.rc_full_parser.specs.Pieces.{list}
use Rattle.rc_full_parser.proofs.AtomLemmas.{refused, is_class, Listed, list_depth, no_list}
use Rattle.rc_full_parser.proofs.pieces.listed.Goals as goal

pub returns-in_err-ranges : goal.returns-in_err-ranges
returns-in_err-ranges c =
    let s = settings_of c.args.config in
    let f = c.args.flags in
    let ls = c.args.settings in
    let limit = c.depth_limit.result in
    let is_limit = c.depth_limit.ensures in
    refused c.from_residual.result c.in_err-ranges.field-0.0 (Listed s f ls c.args.text.now) (λ p. (part p.0, p.1.now))
    ((p : CodeSet) (depth : ℕ) (rest : Characters) → IsList ls f.case_insensitive c.args.text.now p depth rest → depth ≤ limit → ⊥)
    c.from_residual.ensures.1 c.in_err-ranges.ensures
    (λ never r (p, d, is, part). let small = list_depth s f p d r.0 part in never p d r.1 is (omega (arith, small, is_limit)))

pub returns-in_err-hir : goal.returns-in_err-hir
returns-in_err-hir c =
    let s = settings_of c.args.config in
    let f = c.args.flags in
    let ls = c.args.settings in
    let (p, is, _, ranges) = c.in_ok-ranges.ensures in
    let are = subst (λ xs. AreRangesOf ls.unicode p (pairs xs)) (sym c.deref.ensures.value) ranges in
    refused c.from_residual-in_err-hir.result c.in_err-hir.field-0.0 (Listed s f ls c.args.text.now) (λ p. (part p.0, p.1.now))
    (set_re s f (pairs c.deref.result.now) ≡ None) c.from_residual-in_err-hir.ensures.1 c.in_err-hir.ensures.reads
    (no_list s f ls c.args.text.now c.in_ok-ranges.rest.now p c.in_ok-ranges.depth (pairs c.deref.result.now) c.requires is are)

pub returns : goal.returns
returns c =
    let s = settings_of c.args.config in
    let f = c.args.flags in
    let (p, is, _, ranges) = c.in_ok-ranges.ensures in
    let are = subst (λ xs. AreRangesOf c.args.settings.unicode p (pairs xs)) (sym c.deref.ensures.value) ranges in
    let re = meaning c.in_ok-hir.hir in
    let class = is_class s f p (pairs c.deref.result.now) re (subst (λ u. AreRangesOf u p (pairs c.deref.result.now)) c.requires are) c.in_ok-hir.ensures.reads in
    let deep : deeper s re (c.in_ok-ranges.depth - 1) ≡ Some (part c.in_ok-part.part) = sym c.one_deeper.ensures ∙ ap (option_map part) c.in_ok-part.ensures.ok_part in
    (p, c.in_ok-ranges.depth, is, list p c.in_ok-ranges.depth re (part c.in_ok-part.part) class deep)
