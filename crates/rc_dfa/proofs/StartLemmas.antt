-- Where runs forwards begin, and how they end.
use Rattle.std.proofs.Common.{◌≡◌, ℕ, ◌+◌, ◌-◌, ◌<◌, ◌≤◌, ◌⊎◌, Bool, true, false, true≢false, List, [], ◌∷◌, Option, None, inl, inr, sym, subst, ap, refl, arith}
use Rattle.rc_text.specs.declared.types.Anchored.{Anchored}
use Rattle.rc_text.specs.declared.types.Anchored.TheVariants.{No, Yes, Pattern}
use Rattle.rc_walks.specs.Walks.{Pair, IsIn}
use Rattle.std.proofs.lemmas.Option.{get_or_from_slice_get}
use Rattle.rc_determinize.specs.Gives.{starts}
use Rattle.rc_determinize.specs.declared.sides.Seen.{Seen}
use Rattle.rc_determinize.specs.States.{Setting, State, IsFirstBeside, all_starts}
use Rattle.rc_determinize.proofs.LawLemmas.{in_starts, starts_in}
use Rattle.rc_dfa.specs.Machine.{Alphabet, Machine, forwards, begins_beside}
use Rattle.rc_dfa.specs.Runs.{RunEnd, met_last, stopped_at, idle_at}
use Rattle.rc_dfa.specs.Laws.{starts_of}
use Rattle.rc_text.specs.declared.types.MatchKind.{MatchKind}

-- what was met, and where the search stopped
abbrev pub met_of : RunEnd → Option Pair
met_of (met_last met) = met
met_of (stopped_at p) = None
met_of (idle_at i) = None

abbrev pub has_met : RunEnd → Bool
has_met (met_last met) = true
has_met (stopped_at p) = false
has_met (idle_at i) = false

pub same_met : {x y : Option Pair} → met_last x ≡ met_last y → x ≡ y
same_met e = ap (λ r. met_of r) e

pub stop_no_met : {p : ℕ} {x : Option Pair} → stopped_at p ≡ met_last x → ⊥
stop_no_met e = true≢false (sym (ap (λ r. has_met r) e))

pub rest_no_met : {i : ℕ} {x : Option Pair} → idle_at i ≡ met_last x → ⊥
rest_no_met e = true≢false (sym (ap (λ r. has_met r) e))

-- A search forwards begins at some root: at the first position alone, or at the root 0 at the later ones too.
pub record IsRoot (m : Machine) (anchored : Anchored) (facts : Seen) (from hi : ℕ) (first : State) : Type 0 where
  pub root : ℕ
  pub once : Bool
  pub is_first : IsFirstBeside root facts once first
  pub starts : starts_of m anchored from hi ≡ all_starts once root from hi
  pub rooted : (root ≡ 0) ⊎ (once ≡ true)

pub some_root : (a : Alphabet) (kind : MatchKind) (g : Setting) (entries : List ℕ) (anchored : Anchored) (facts : Seen) (from hi : ℕ) (first : State) →
    begins_beside (forwards kind) g.places entries anchored facts first →
    IsRoot (record { setting = g; entries = entries; direction = forwards kind; alphabet = a }) anchored facts from hi first
some_root a kind g entries No facts from hi first h = record { root = 0; once = false; is_first = h; starts = refl; rooted = inl refl }
some_root a kind g entries Yes facts from hi first h = record { root = 0; once = true; is_first = h; starts = refl; rooted = inl refl }
some_root a kind g entries (Pattern p) facts from hi first h =
    record { root = h.0; once = true; is_first = h.2; starts = ap (λ e. (e, from) ∷ []) (get_or_from_slice_get entries p h.0 0 h.1); rooted = inr refl }

-- THE STARTS

pub starts_at : (once : Bool) (root from hi q y : ℕ) → IsIn (q, y) (all_starts once root from hi) → (q ≡ root) × (from ≤ y)
starts_at once root from hi q y (inl e) = (sym (ap (λ (n : Pair). n.0) e), let f = ap (λ (n : Pair). n.1) e in omega (arith, f))
starts_at true root from hi q y (inr h) = absurd h
starts_at false root from hi q y (inr h) = let r = in_starts root (from + 1) (hi - from) q y h in let a = r.1 in (r.0, omega (arith, a))

-- at the first position
pub first_start : (once : Bool) (root from hi q : ℕ) → root ≡ q → IsIn (q, from) (all_starts once root from hi)
first_start once root from hi q e = inl (ap (λ k. (k, from)) e)

-- and at the later ones
pub later_start : (once : Bool) (root from hi i q : ℕ) → from ≤ i → i < hi → once ≡ false → q ≡ root → IsIn (q, i + 1) (all_starts once root from hi)
later_start true root from hi i q low lt o e = absurd (true≢false o)
later_start false root from hi i q low lt o e =
    inr (subst (λ k. IsIn (k, i + 1) (starts root (from + 1) (hi - from))) (sym e) (starts_in root (from + 1) (hi - from) (i + 1) (omega (arith, low)) (omega (arith, low, lt))))

pub once_start : (once : Bool) (root from hi q y : ℕ) → once ≡ true → IsIn (q, y) (all_starts once root from hi) → y ≡ from
once_start true root from hi q y o (inl e) = sym (ap (λ (n : Pair). n.1) e)
once_start true root from hi q y o (inr h) = absurd h
once_start false root from hi q y o h = absurd (true≢false (sym o))

-- a lower bound has fewer
pub fewer_starts : (once : Bool) (root from i hi : ℕ) → from ≤ i → i ≤ hi → (n : Pair) → IsIn n (all_starts once root from i) → IsIn n (all_starts once root from hi)
fewer_starts once root from i hi low high n (inl e) = inl e
fewer_starts true root from i hi low high n (inr h) = absurd h
fewer_starts false root from i hi low high n (inr h) =
    let r = in_starts root (from + 1) (i - from) n.0 n.1 h in let a = r.1 in let b = r.2 in
    inr (subst (λ k. IsIn (k, n.1) (starts root (from + 1) (hi - from))) (sym r.0) (starts_in root (from + 1) (hi - from) n.1 a (omega (arith, low, high, a, b))))

-- none stands past the bound
pub starts_within : (once : Bool) (root from hi : ℕ) → from ≤ hi → (n : Pair) → IsIn n (all_starts once root from hi) → n.1 ≤ hi
starts_within once root from hi le n (inl e) = let f = ap (λ (k : Pair). k.1) e in omega (arith, f, le)
starts_within true root from hi le n (inr h) = absurd h
starts_within false root from hi le n (inr h) = let r = in_starts root (from + 1) (hi - from) n.0 n.1 h in let b = r.2 in omega (arith, b, le)
