-- What tables know of bytes and symbols.
use Rattle.std.proofs.Common.{ℕ, ◌+◌, ◌<◌, sym, subst, ap}
use Rattle.rc_text.specs.declared.types.Anchored.{Anchored}
use Rattle.rc_program.specs.Looks.{Side}
use Rattle.rc_program.specs.Text.{Text, before_at, after_at}
use Rattle.rc_determinize.specs.declared.sides.Sides.{Sides}
use Rattle.rc_determinize.specs.Sides.{byte_of}
use Rattle.rc_determinize.specs.States.{State, IsInside}
use Rattle.rc_dfa.specs.Machine.{Alphabet, bytes, symbols, Machine, Leads, LeadsOver, Begins, BeginsBeside}
use Rattle.rc_dfa.specs.Runs.{ahead_at, behind_at, MayRead, MayReadSide, LeadsAcross, LeadsBy, BeginsBy}
use Rattle.rc_dfa.specs.Tables.{TableLaw}
use Rattle.rc_dfa.proofs.AlphabetLemmas.{across_ahead, across_behind, near_ahead, near_behind, begins_ahead, begins_back}
use Rattle.rc_dfa.proofs.ColumnLemmas.{column_law}

may : (a : Alphabet) (m : Machine) (side : Side) → MayRead m (byte_of side) → MayReadSide a m side
may bytes m side h = h
may symbols m side h = tt

ahead : (a : Alphabet) (m : Machine) (t : Text) (hi i : ℕ) (s next : State) → i < hi → IsInside t i hi → MayRead m (ahead_at t i) →
    Leads m s (ahead_at t i) next → LeadsAcross a m (after_at t i) (before_at t (i + 1)) s next
ahead bytes m t hi i s next lt inside read h = h
ahead symbols m t hi i s next lt inside read h = across_ahead bytes m t hi i lt inside read s next h

behind : (a : Alphabet) (m : Machine) (t : Text) (hi i : ℕ) (s next : State) → i < hi → IsInside t i hi → MayRead m (behind_at t (i + 1)) →
    Leads m s (behind_at t (i + 1)) next → LeadsAcross a m (before_at t (i + 1)) (after_at t i) s next
behind bytes m t hi i s next lt inside read h = h
behind symbols m t hi i s next lt inside read h = across_behind bytes m t hi i lt inside read s next h

bound_ahead : (a : Alphabet) (m : Machine) (t : Text) (i : ℕ) (s next : State) → MayRead m (ahead_at t i) → Leads m s (ahead_at t i) next →
    LeadsBy a m (after_at t i) s next
bound_ahead bytes m t i s next read h = h
bound_ahead symbols m t i s next read h = near_ahead bytes m t i read s next h

bound_behind : (a : Alphabet) (m : Machine) (t : Text) (i : ℕ) (s next : State) → MayRead m (behind_at t i) → Leads m s (behind_at t i) next →
    LeadsBy a m (before_at t i) s next
bound_behind bytes m t i s next read h = h
bound_behind symbols m t i s next read h = near_behind bytes m t i read s next h

begins : (a : Alphabet) (m : Machine) (anchored : Anchored) (t : Text) (i : ℕ) (s : State) → MayRead m (behind_at t i) →
    Begins m anchored (behind_at t i) s → BeginsBy a m anchored (before_at t i) s
begins bytes m anchored t i s read h = h
begins symbols m anchored t i s read h = begins_ahead bytes m anchored t i s read h

back : (a : Alphabet) (m : Machine) (anchored : Anchored) (t : Text) (i : ℕ) (s : State) → MayRead m (ahead_at t i) →
    Begins m anchored (ahead_at t i) s → BeginsBy a m anchored (after_at t i) s
back bytes m anchored t i s read h = h
back symbols m anchored t i s read h = begins_back bytes m anchored t i s read h

pub table_law : TableLaw
table_law = record {
  may = may;
  ahead = ahead;
  behind = behind;
  bound_ahead = bound_ahead;
  bound_behind = bound_behind;
  begins = begins;
  begins_back = back;
  symbol_ahead = λ m t i y s next is h. subst (λ x. LeadsOver m s x next) (sym (column_law.ahead m.setting t i y is)) h;
  symbol_behind = λ m t i y s next is h. subst (λ x. LeadsOver m s x next) (sym (column_law.behind m.setting t i y is)) h;
  begins_after = λ m anchored t i y s is h.
      subst (λ x. BeginsBeside m anchored x s) (sym (ap (λ (x : Sides). x.far) (column_law.ahead m.setting t i y is))) h;
  begins_before = λ m anchored t i y s is h.
      subst (λ x. BeginsBeside m anchored x s) (sym (ap (λ (x : Sides). x.near) (column_law.ahead m.setting t i y is))) h;
}
