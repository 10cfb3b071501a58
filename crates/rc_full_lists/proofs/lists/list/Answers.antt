use Rattle.std.proofs.Common.{◌≡◌, ◌⊎◌, ◌≤◌, ◌<◌, [], Some, None, length, arith, subst, sym, ap, ◌∙◌}
use Rattle.rc_tokens.specs.declared.refusal.Refusal.TheVariants.{Memory}
use Rattle.rc_full_lists.specs.declared.parts.Part.TheVariants as part
use Rattle.rc_full_lists.specs.Lists.{IsList}
use Rattle.rc_full_lists.specs.Levels.{at, opened, level_set, StepsTo}
use Rattle.rc_full_lists.specs.Read.{read_part}
use Rattle.rc_full_lists.proofs.PartLemmas.{part_sound}
use Rattle.rc_full_lists.proofs.CodeLemmas.{part_codes}
use Rattle.rc_full_lists.proofs.ListLemmas.{same_start, same_moves, same_ends}
use Rattle.rc_full_lists.proofs.LevelLemmas.{opening_codes, moves_shorter}
use Rattle.rc_full_lists.proofs.ShorterLemmas.{part_shorter}
use Rattle.rc_full_lists.proofs.RefusalLemmas.{Refused, err_is, stuck, deep}
use Rattle.rc_full_lists.proofs.lists.list.Goals as goal

pub outermost-requires : goal.outermost-requires
outermost-requires c = opening_codes c.args.settings.verbose c.args.settings.unicode c.args.text.now c.opening-negated.result.2.now
    c.opening-negated.result.0 c.opening-negated.result.1 c.opening-negated.ensures

pub parts-init : goal.parts-init
parts-init c =
    let negated = c.opening-negated.result.0 in
    let lead = c.opening-negated.result.1 in (
      at (opened c.args.settings.unicode c.args.fold negated lead) [],
      c.in_ok-levels.ensures,
      (omega arith, tt),
      same_start c.args.settings c.args.fold c.args.text.now c.opening-negated.result.2.now negated lead c.opening-negated.ensures,
    )

pub step-requires-clause-part : goal.step-requires-clause-part
step-requires-clause-part c =
    part_codes c.args.settings c.passed.result.now c.in_ok-part.part c.in_ok-part.behind.now
    (part_sound c.args.settings c.passed.result.now c.in_ok-part.part c.in_ok-part.behind.now c.in_ok-part.ensures)

pub parts-smaller : goal.parts-smaller
parts-smaller c =
    let s = c.args.settings in
    let k = c.in_ok-part.part in
    let behind = c.in_ok-part.behind.now in
    let (ls, are, fit, same) = c.parts.invariant in
    let (after, moves, _, _) =
    subst (λ v. StepsTo s c.args.fold c.args.nest_limit ls k behind v) c.in-Goes.is (c.in_ok-next.ensures ls are fit) in
    let begins = subst (λ t. read_part s t ≡ Some (k, behind)) c.passed.ensures c.in_ok-part.ensures in
    let less : length behind < length c.parts.rest.now = part_shorter s c.parts.rest.now behind k begins in
    let no_more : length c.in-Goes.after.now ≤ length behind = moves_shorter s c.args.fold ls after k behind c.in-Goes.after.now moves in
    omega (arith, less, no_more)

pub parts-preserved : goal.parts-preserved
parts-preserved c =
    let s = c.args.settings in
    let k = c.in_ok-part.part in
    let behind = c.in_ok-part.behind.now in
    let (ls, are, fit, same) = c.parts.invariant in
    let (after, moves, next, fits) =
    subst (λ v. StepsTo s c.args.fold c.args.nest_limit ls k behind v) c.in-Goes.is (c.in_ok-next.ensures ls are fit) in
    let begins = subst (λ t. read_part s t ≡ Some (k, behind)) c.passed.ensures c.in_ok-part.ensures in
    (after, next, fits, same_moves s c.args.fold c.args.text.now ls after k c.parts.rest.now behind c.in-Goes.after.now same begins moves)

pub returns-in-Ends : goal.returns-in-Ends
returns-in-Ends c =
    let s = c.args.settings in
    let behind = c.in_ok-part.behind.now in
    let (ls, are, fit, same) = c.parts.invariant in
    let (closes, none, ranges, depth) =
    subst (λ v. StepsTo s c.args.fold c.args.nest_limit ls c.in_ok-part.part behind v) c.in-Ends.is (c.in_ok-next.ensures ls are fit) in
    let begins = subst (λ t. read_part s t ≡ Some (part.Closes, behind)) c.passed.ensures
    (c.in_ok-part.ensures ∙ ap (λ k. Some (k, behind)) closes) in
    let is = same_ends s c.args.fold c.args.text.now ls c.parts.rest.now behind same none begins in
    let within = fit.0 in (
      level_set ls.inner,
      subst (λ d. IsList s c.args.fold c.args.text.now (level_set ls.inner) d behind) (sym depth) is,
      omega (arith, depth, within),
      ranges,
    )

pub returns-in_err-part : goal.returns-in_err-part
returns-in_err-part c =
    let s = c.args.settings in
    let (ls, are, fit, same) = c.parts.invariant in
    err_is c.from_residual-in_err-part.result c.in_err-part.field-0.0 _ (Refused s c.args.fold c.args.nest_limit c.args.text.now) c.from_residual-in_err-part.ensures.1
    (stuck s c.args.fold c.args.nest_limit c.args.text.now ls c.parts.rest.now c.in_err-part.field-0.0 same
    (subst (λ t. (c.in_err-part.field-0.0 ≡ Memory) ⊎ (read_part s t ≡ None)) c.passed.ensures c.in_err-part.ensures))

pub returns-in_err-next : goal.returns-in_err-next
returns-in_err-next c =
    let s = c.args.settings in
    let (ls, are, fit, same) = c.parts.invariant in
    let begins = subst (λ t. read_part s t ≡ Some (c.in_ok-part.part, c.in_ok-part.behind.now)) c.passed.ensures c.in_ok-part.ensures in
    err_is c.from_residual-in_err-next.result c.in_err-next.field-0.0 _ (Refused s c.args.fold c.args.nest_limit c.args.text.now) c.from_residual-in_err-next.ensures.1
    (deep s c.args.fold c.args.nest_limit c.args.text.now ls c.parts.rest.now c.in_ok-part.behind.now c.in_ok-part.part c.in_err-next.field-0.0 same begins
    (c.in_err-next.ensures ls are fit))
