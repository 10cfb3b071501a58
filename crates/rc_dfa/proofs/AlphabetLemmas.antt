-- Whatever is read, a step goes by both sides of the byte.
use Rattle.std.proofs.Common.{ℕ, ◌+◌, ◌<◌, subst, refl}
use Rattle.rc_text.specs.declared.types.Anchored.{Anchored}
use Rattle.rc_program.specs.Looks.{Side}
use Rattle.rc_program.specs.Text.{Text, before_at, after_at}
use Rattle.rc_determinize.specs.declared.sides.Seen.{Seen}
use Rattle.rc_determinize.specs.Sides.{byte_of, told, told_side, sides_near}
use Rattle.rc_determinize.specs.States.{State, IsInside, sides_ahead, sides_behind}
use Rattle.rc_determinize.proofs.TextLemmas.{told_before, told_after, near_told, ahead_told, behind_told}
use Rattle.rc_dfa.specs.Machine.{Alphabet, bytes, symbols, Machine, LeadsOver, BeginsBeside}
use Rattle.rc_dfa.specs.Runs.{MayReadSide, LeadsAcross, LeadsBy, BeginsBy}

pub across_ahead : (a : Alphabet) (m : Machine) (t : Text) (hi i : ℕ) → i < hi → IsInside t i hi → MayReadSide a m (after_at t i) → (s next : State) →
    LeadsAcross a m (after_at t i) (before_at t (i + 1)) s next → LeadsOver m s (sides_ahead m.setting t i) next
across_ahead bytes m t hi i lt inside may s next h = subst (λ x. LeadsOver m s x next) (ahead_told m.setting t hi i lt inside may) h
across_ahead symbols m t hi i lt inside may s next h = h

pub across_behind : (a : Alphabet) (m : Machine) (t : Text) (hi i : ℕ) → i < hi → IsInside t i hi → MayReadSide a m (before_at t (i + 1)) →
    (s next : State) → LeadsAcross a m (before_at t (i + 1)) (after_at t i) s next → LeadsOver m s (sides_behind m.setting t i) next
across_behind bytes m t hi i lt inside may s next h = subst (λ x. LeadsOver m s x next) (behind_told m.setting t hi i lt inside may) h
across_behind symbols m t hi i lt inside may s next h = h

abbrev pub LeadsNear : Machine → (near : Side) → State → State → Type 0
LeadsNear m near s next = (far : Seen) × LeadsOver m s (sides_near m.setting.needs m.setting.terminator near far) next

pub near_ahead : (a : Alphabet) (m : Machine) (t : Text) (i : ℕ) → MayReadSide a m (after_at t i) → (s next : State) →
    LeadsBy a m (after_at t i) s next → LeadsNear m (after_at t i) s next
near_ahead bytes m t i may s next h = (
  told m.setting.needs m.setting.terminator (byte_of (after_at t i)),
  subst (λ x. LeadsOver m s x next)
      (near_told m.setting.needs m.setting.terminator (after_at t i) _ (told_after m.setting.needs m.setting.terminator t i may) refl) h,
)
near_ahead symbols m t i may s next h = h

pub near_behind : (a : Alphabet) (m : Machine) (t : Text) (i : ℕ) → MayReadSide a m (before_at t i) → (s next : State) →
    LeadsBy a m (before_at t i) s next → LeadsNear m (before_at t i) s next
near_behind bytes m t i may s next h = (
  told m.setting.needs m.setting.terminator (byte_of (before_at t i)),
  subst (λ x. LeadsOver m s x next)
      (near_told m.setting.needs m.setting.terminator (before_at t i) _ (told_before m.setting.needs m.setting.terminator t i may) refl) h,
)
near_behind symbols m t i may s next h = h

-- what leads over a byte leads by it at a bound
pub across_near : (a : Alphabet) (m : Machine) (near far : Side) (s next : State) → LeadsAcross a m near far s next → LeadsBy a m near s next
across_near bytes m near far s next h = h
across_near symbols m near far s next h = (told_side m.setting.needs m.setting.terminator far, h)

pub begins_ahead : (a : Alphabet) (m : Machine) (anchored : Anchored) (t : Text) (i : ℕ) (s : State) → MayReadSide a m (before_at t i) →
    BeginsBy a m anchored (before_at t i) s → BeginsBeside m anchored (told_side m.setting.needs m.setting.terminator (before_at t i)) s
begins_ahead bytes m anchored t i s may h = subst (λ x. BeginsBeside m anchored x s) (told_before m.setting.needs m.setting.terminator t i may) h
begins_ahead symbols m anchored t i s may h = h

pub begins_back : (a : Alphabet) (m : Machine) (anchored : Anchored) (t : Text) (i : ℕ) (s : State) → MayReadSide a m (after_at t i) →
    BeginsBy a m anchored (after_at t i) s → BeginsBeside m anchored (told_side m.setting.needs m.setting.terminator (after_at t i)) s
begins_back bytes m anchored t i s may h = subst (λ x. BeginsBeside m anchored x s) (told_after m.setting.needs m.setting.terminator t i may) h
begins_back symbols m anchored t i s may h = h
