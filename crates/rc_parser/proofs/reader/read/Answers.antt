use Rattle.std.proofs.Common.{◌≡◌, ◌==◌, ◌<◌, ℕ, ◌⊎◌, ⊎_elim, length, None, Some, arith, ap, sym, ◌∙◌, subst, true, false, nat_lt}
use Rattle.std.proofs.lemmas.Bool.{eqb-true, eqb-false, ltb-true}
use Rattle.rc_tokens.specs.View.{said_of}
use Rattle.rc_tokens.specs.declared.refusal.Refusal.{Refusal}
use Rattle.rc_tokens.specs.declared.refusal.Refusal.TheVariants.{Memory, Syntax}
use Rattle.rc_tokens.proofs.SoundLemmas.{lex_shorter}
use Rattle.rc_parser.specs.Settings.{settings_of}
use Rattle.rc_parser.specs.Machine.{take_said, finish, settled, fresh}
use Rattle.rc_parser.specs.Nesting.{least_depth}
use Rattle.rc_parser.specs.Pieces.{depth_limit}
use Rattle.rc_parser.specs.View.{state, part}
use Rattle.rc_parser.proofs.DepthLemmas.{same_deep}
use Rattle.rc_parser.proofs.ReadLemmas.{same_step, same_stuck, same_refused, same_end, same_none}
use Rattle.rc_parser.proofs.reader.read.Goals as goal

not_memory : {P : Type 0} (e : Refusal) → (e ≡ Memory) ⊎ P → e ≡ Syntax → P
not_memory e h s = ⊎_elim (λ m. absurd (clash (sym s ∙ m))) (λ p. p) h
  where
    clash : ◌≡◌ {A = Refusal} Syntax Memory → ⊥
    clash x = cc

some_left : (n : ℕ) → (n == 0) ≡ false → 0 < n
some_left n e = let h = eqb-false n 0 e in omega (arith, h)

pub returns-in-Err-Syntax-clause-reads : goal.returns-in-Err-Syntax-clause-reads
returns-in-Err-Syntax-clause-reads c = same_stuck (settings_of c.args.config) (fresh (settings_of c.args.config)) (state c.loop-rest.work) c.args.chars.now c.loop-rest.rest.now
    c.loop-rest.invariant.2 (not_memory c.in-Err-Syntax.field-0 c.in-Err-Syntax.ensures c.in-Err-Syntax.field-0-is)
    (some_left (length c.loop-rest.rest.now) (sym c.is_empty.ensures ∙ c.loop-rest-test.true))

pub returns-in-Err-Syntax-accept-clause-reads : goal.returns-in-Err-Syntax-accept-clause-reads
returns-in-Err-Syntax-accept-clause-reads c = same_refused (settings_of c.args.config) (fresh (settings_of c.args.config)) (state c.loop-rest.work) c.args.chars.now c.loop-rest.rest.now
    c.in-Ok.found.1.now (said_of c.in-Ok.found.0) c.loop-rest.invariant.2 c.in-Ok.ensures
    (subst (λ n. take_said (settings_of n) (said_of c.in-Ok.found.0) (state c.loop-rest.work) ≡ None) c.loop-rest.invariant.0
    (not_memory c.in-Err-Syntax-accept.field-0 c.in-Err-Syntax-accept.ensures.value c.in-Err-Syntax-accept.field-0-is))

pub returns-then-is_too_deep-clause-reads : goal.returns-then-is_too_deep-clause-reads
returns-then-is_too_deep-clause-reads c =
    let s = settings_of c.args.config in
    let v = state c.accept.new.self in
    let same_config = c.in-Ok-accept.ensures.config ∙ c.loop-rest.invariant.0 in
    let deep : nat_lt (depth_limit s) (least_depth v) ≡ true = ap (λ n. nat_lt (depth_limit (settings_of n)) (least_depth v)) (sym same_config) ∙ sym c.if-is_too_deep.ensures in
    same_deep s v c.args.chars.now c.in-Ok.found.1.now
    (same_step s (fresh s) (state c.loop-rest.work) v c.args.chars.now c.loop-rest.rest.now c.in-Ok.found.1.now (said_of c.in-Ok.found.0) c.loop-rest.invariant.2 c.in-Ok.ensures
    (subst (λ n. take_said (settings_of n) (said_of c.in-Ok.found.0) (state c.loop-rest.work) ≡ Some v) c.loop-rest.invariant.0 c.in-Ok-accept.ensures.value))
    (ltb-true (depth_limit s) (least_depth v) deep)

pub loop-rest-smaller : goal.loop-rest-smaller
loop-rest-smaller c = lex_shorter c.loop-rest.rest.now (said_of c.in-Ok.found.0) c.in-Ok.found.1.now c.in-Ok.ensures

pub loop-rest-preserved : goal.loop-rest-preserved
loop-rest-preserved c =
    let shorter = lex_shorter c.loop-rest.rest.now (said_of c.in-Ok.found.0) c.in-Ok.found.1.now c.in-Ok.ensures in
    let groups = c.in-Ok-accept.ensures.groups in
    let before = c.loop-rest.invariant.1 in (
      c.in-Ok-accept.ensures.config ∙ c.loop-rest.invariant.0,
      omega (arith, shorter, groups, before),
      same_step (settings_of c.args.config) (fresh (settings_of c.args.config)) (state c.loop-rest.work) (state c.accept.new.self) c.args.chars.now c.loop-rest.rest.now
          c.in-Ok.found.1.now (said_of c.in-Ok.found.0) c.loop-rest.invariant.2 c.in-Ok.ensures
          (subst (λ n. take_said (settings_of n) (said_of c.in-Ok.found.0) (state c.loop-rest.work) ≡ Some (state c.accept.new.self)) c.loop-rest.invariant.0 c.in-Ok-accept.ensures.value),
    )

pub returns-in-Ok-finish-clause-reads : goal.returns-in-Ok-finish-clause-reads
returns-in-Ok-finish-clause-reads c = same_end (settings_of c.args.config) (fresh (settings_of c.args.config)) (state c.loop-rest.work) c.args.chars.now c.loop-rest.rest.now
    c.loop-rest.invariant.2 (eqb-true (length c.loop-rest.rest.now) 0 (sym c.loop-rest-test.ensures)) (part c.in-Ok-finish.whole)
    (subst (λ n. finish (settings_of n) (settled (state c.loop-rest.work).last (state c.loop-rest.work).level) (state c.loop-rest.work).outer ≡ Some (part c.in-Ok-finish.whole))
    c.loop-rest.invariant.0 c.in-Ok-finish.ensures)

pub returns-clause-reads : goal.returns-clause-reads
returns-clause-reads c = same_none (settings_of c.args.config) (fresh (settings_of c.args.config)) (state c.loop-rest.work) c.args.chars.now c.loop-rest.rest.now
    c.loop-rest.invariant.2 (eqb-true (length c.loop-rest.rest.now) 0 (sym c.loop-rest-test.ensures))
    (subst (λ n. finish (settings_of n) (settled (state c.loop-rest.work).last (state c.loop-rest.work).level) (state c.loop-rest.work).outer ≡ None) c.loop-rest.invariant.0
    (not_memory c.in-Err-Syntax-finish.field-0 c.in-Err-Syntax-finish.ensures c.in-Err-Syntax-finish.field-0-is))
