use Rattle.std.proofs.Common.{◌≡◌, ◌≤◌, length, None, Some, arith, ap, sym, ◌∙◌, subst}
use Rattle.std.proofs.lemmas.Bool.{eqb-true}
use Rattle.rc_parser.specs.Settings.{settings_of}
use Rattle.rc_parser.specs.Machine.{settled, finish}
use Rattle.rc_parser.specs.View.{part}
use Rattle.rc_full_lists.specs.Read.{passed}
use Rattle.rc_full_lists.proofs.OpeningLemmas.{passed_shorter}
use Rattle.rc_full_parser.specs.Machine.{Steps, Refuses}
use Rattle.rc_full_parser.specs.View.{settings_at, state_of}
use Rattle.rc_full_parser.proofs.ReadLemmas.{not_memory, passed_again, Same, same_start, same_step, same_end, same_none, same_refuses}
use Rattle.rc_full_parser.proofs.ShorterLemmas.{steps_shorter}
use Rattle.rc_full_parser.proofs.reader.read.Goals as goal

pub loop-rest-init : goal.loop-rest-init
loop-rest-init c =
    let s = settings_of c.args.config in
    let x = c.args.config.ignore_whitespace in
    let text = c.args.text.now in
    let t = c.passed-rest.result.now in
    let e : t ≡ passed x text = c.passed-rest.ensures ∙ ap (λ y. passed y text) c.get_ignore_whitespace.ensures in
    let groups = c.new-reader.ensures.groups in
    let shorter : length t ≤ length text = subst (λ y. length y ≤ length text) (sym e) (passed_shorter x text) in (
      c.new-reader.ensures.settings,
      omega (arith, groups, shorter),
      subst (λ y. passed y t ≡ t) (ap (λ m. m.verbose) (sym c.new-reader.ensures.state)) (ap (passed x) e ∙ passed_again x text ∙ sym e),
      subst (λ m. Same s text m t) (sym c.new-reader.ensures.state) (same_start s text t e),
    )

pub returns-in-Err-Syntax-clause-reads : goal.returns-in-Err-Syntax-clause-reads
returns-in-Err-Syntax-clause-reads c =
    let s = settings_of c.args.config in
    let m = state_of c.loop-rest.reader in
    let t = c.loop-rest.rest.now in
    same_refuses s c.args.text.now m t c.loop-rest.invariant.3
    (subst (λ s. Refuses s m t) c.loop-rest.invariant.0 (not_memory c.in-Err-Syntax.field-0 c.in-Err-Syntax.ensures.value c.in-Err-Syntax.field-0-is))

pub loop-rest-smaller : goal.loop-rest-smaller
loop-rest-smaller c =
    steps_shorter (settings_at c.loop-rest.reader) (state_of c.loop-rest.reader) (state_of c.step.new.self) c.loop-rest.rest.now c.in-Ok.behind.now c.in-Ok.ensures.value

pub loop-rest-preserved : goal.loop-rest-preserved
loop-rest-preserved c =
    let s = settings_of c.args.config in
    let m = state_of c.loop-rest.reader in
    let n = state_of c.step.new.self in
    let t = c.loop-rest.rest.now in
    let v = c.in-Ok.behind.now in
    let shorter = steps_shorter (settings_at c.loop-rest.reader) m n t v c.in-Ok.ensures.value in
    let groups = c.in-Ok.ensures.groups in
    let before = c.loop-rest.invariant.1 in
    let (k, u, w, b, moves, e) = c.in-Ok.ensures.value in (
      c.in-Ok.ensures.settings ∙ c.loop-rest.invariant.0,
      omega (arith, shorter, groups, before),
      ap (passed n.verbose) e ∙ passed_again n.verbose w ∙ sym e,
      same_step s c.args.text.now m n t v c.loop-rest.invariant.3 (subst (λ s. Steps s m t n v) c.loop-rest.invariant.0 c.in-Ok.ensures.value),
    )

pub returns-in-Ok-finish-clause-reads : goal.returns-in-Ok-finish-clause-reads
returns-in-Ok-finish-clause-reads c =
    let s = settings_of c.args.config in
    let m = state_of c.loop-rest.reader in
    let p = part c.in-Ok-finish.whole in
    same_end s c.args.text.now m c.loop-rest.rest.now p c.loop-rest.invariant.3 (eqb-true (length c.loop-rest.rest.now) 0 (sym c.loop-rest-test.ensures))
    (subst (λ s. finish s (settled m.work.last m.work.level) m.work.outer ≡ Some p) c.loop-rest.invariant.0 c.in-Ok-finish.ensures)

pub returns-clause-reads : goal.returns-clause-reads
returns-clause-reads c =
    let s = settings_of c.args.config in
    let m = state_of c.loop-rest.reader in
    same_none s c.args.text.now m c.loop-rest.rest.now c.loop-rest.invariant.3 (eqb-true (length c.loop-rest.rest.now) 0 (sym c.loop-rest-test.ensures))
    (subst (λ s. finish s (settled m.work.last m.work.level) m.work.outer ≡ None) c.loop-rest.invariant.0
    (not_memory c.in-Err-Syntax-finish.field-0 c.in-Err-Syntax-finish.ensures c.in-Err-Syntax-finish.field-0-is))
