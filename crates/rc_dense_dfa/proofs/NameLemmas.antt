-- States that get their rows one after another.
use Rattle.std.proofs.Common.{◌≡◌, inl, inr, ℕ, ◌+◌, ◌*◌, ◌<◌, ◌≤◌, List, [], ◌∷◌, ◌++◌, length, Option, Some, None, slice_get, refl, sym, subst, ap, ◌∙◌, arith}
use Rattle.std.specs.Prelude.{IfSome, is_some, Bool, true, false, if◌then◌else◌}
use Rattle.std.proofs.Math.Nat.{mul-le-mul_left}
use Rattle.std.proofs.lemmas.Option.{slice_get_within}
use Rattle.rc_dfa.specs.Machine.{is_dead}
use Rattle.rc_dense_dfa.specs.Cells.{met, dead}
use Rattle.std.proofs.lemmas.List.{length_push}
use Rattle.rc_determinize.specs.States.{State}
use Rattle.rc_dfa.specs.Machine.{Machine}
use Rattle.rc_dfa.specs.Keys.{IsAbsent}
use Rattle.rc_dense_dfa.specs.Tables.{IsReached, listed_by, marks}
use Rattle.rc_dense_dfa.specs.declared.error.TableError.TheVariants.{TooBig}
use Rattle.rc_dense_dfa.specs.Makes.{AreStates, IsRefused, weight_by}
use Rattle.rc_dfa.proofs.ListLemmas.{get_parts}

listed : (ss : List State) (s : State) → listed_by (ss ++ s ∷ []) ≡ listed_by ss + length s.list
listed [] s = omega arith
listed (t ∷ ss) s = omega (arith, listed ss s)

pub heavier : (m : Machine) (w : ℕ) (ss : List State) (s : State) →
    weight_by m w (ss ++ s ∷ []) ≡ weight_by m w ss + (8 * (w + 1) + 32 + 8 * length s.list)
heavier m w ss s = rw (length_push, listed) (omega arith)

pub more_states : (m : Machine) (ss : List State) (s : State) → AreStates m ss → IsReached m s → IsAbsent ss s → AreStates m (ss ++ s ∷ [])
more_states m ss s a r absent = record {
  reached = λ id t e. elim (get_parts ss s id t e) [ inl h ↦ a.reached id t h | inr h ↦ subst (IsReached m) h.1 r ];
  once = λ i j t e f. elim (get_parts ss s i t e) [
    | inl h ↦ elim (get_parts ss s j t f) [
      | inl k ↦ a.once i j t h k
      | inr k ↦ absurd (absent i (h ∙ ap Some (sym k.1)))
    ]
    | inr h ↦ elim (get_parts ss s j t f) [
      | inl k ↦ absurd (absent j (k ∙ ap Some (sym h.1)))
      | inr k ↦ h.0 ∙ sym k.0
    ]
  ];
}

pub no_states : (m : Machine) → AreStates m []
no_states m = record { reached = λ id s e. cc; once = λ i j s e f. cc }

-- one more state, which isn't heavier than the limit
pub weighed_more : (m : Machine) (w : ℕ) (ss : List State) (s : State) (old new more : ℕ) (limit : Option ℕ) → more ≡ 8 * (w + 1) + 32 + 8 * length s.list →
    IfSome limit (λ l. (old ≡ weight_by m w ss) × (old ≤ l)) → IfSome limit (λ l. (new ≡ old + more) × (new ≤ l)) →
    IfSome limit (λ l. (new ≡ weight_by m w (ss ++ s ∷ [])) × (new ≤ l))
weighed_more m w ss s old new more None e a b = tt
weighed_more m w ss s old new more (Some l) e a b = (b.0 ∙ ap (λ n. n + more) a.0 ∙ ap (λ n. weight_by m w ss + n) e ∙ sym (heavier m w ss s), b.1)

pub too_heavy : (m : Machine) (w : ℕ) (ss : List State) (s : State) (old more : ℕ) (limit : Option ℕ) → more ≡ 8 * (w + 1) + 32 + 8 * length s.list →
    IfSome limit (λ l. (old ≡ weight_by m w ss) × (old ≤ l)) → (l : ℕ) × (limit ≡ Some l) × (l < old + more) →
    AreStates m (ss ++ s ∷ []) → IsRefused m w limit TooBig
too_heavy m w ss s old more None e a b states = cc (b.1)
too_heavy m w ss s old more (Some k) e a b states =
    let same : k ≡ b.0 = cc (b.1) in
    let h = b.2 in
    let f = a.0 in
    let g = heavier m w ss s in
    (k, refl, ss ++ s ∷ [], states, rw g (omega (arith, same, h, f, e)))

-- a row that is there stands below the marks
pub row_below : (ss : List State) (id : ℕ) (s : State) (w : ℕ) → 0 < w → slice_get ss id ≡ Some s → length ss * w < 2305843009213693952 → id * w + w < 2305843009213693952
row_below ss id s w wide e small =
    let within : id + 1 ≤ length ss = let h = slice_get_within ss id s e in omega arith in
    let product = mul-le-mul_left w within in
    omega (arith, product)

pub marks_bound : (s : State) → marks s ≤ 13835058055282163712
marks_bound s = bound (is_some s.matched) (is_dead s) where
  bound : (a b : Bool) → (if a then met else 0) + (if b then dead else 0) ≤ 13835058055282163712
  bound true true = omega arith
  bound true false = omega arith
  bound false true = omega arith
  bound false false = omega arith
