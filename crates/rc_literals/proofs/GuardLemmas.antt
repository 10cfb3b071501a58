-- From needle to needle: where a search begins, and what it passes over.
use Rattle.std.proofs.Common.{◌≡◌, ℕ, ◌+◌, ◌-◌, ◌<◌, ◌≤◌, List, length, Bool, false, IsTrue, Some, None, slice_get, slice_range, sym, ap, subst, ◌∙◌, arith, inl, inr, ⊎_elim}
use Rattle.std.specs.Prelude.{slice_index}
use Rattle.std.proofs.lemmas.Bool.{cases_lt}
use Rattle.std.proofs.lemmas.Option.{same_Some, slice_get-get_or}
use Rattle.rc_text.specs.Text.{Searched, high}
use Rattle.rc_text.proofs.Ranges.{slice_get-slice_range}
use Rattle.rc_program.specs.Program.{Place}
use Rattle.rc_program.specs.Answer.{HasNoWalkFrom}
use Rattle.rc_program.specs.Sought.{search_over}
use Rattle.rc_needles.specs.Guards.{Guards}
use Rattle.rc_needles.specs.Needles.{find_needle, IsFirstNeedle, NoneAt}
use Rattle.rc_needles.specs.declared.hit.Hit.{Hit}
use Rattle.rc_needles.proofs.StartLemmas.{needle_law}
use Rattle.rc_literals.specs.Needs.{Confines, IsBehindStop, is_stop}
use Rattle.rc_literals.specs.Guard.{HasNoStop, IsBehind}

-- A piece of the content is gone back over.

module _ (stops : List Bool) (content now piece : List ℕ) (at needle from left : ℕ) (kept : now ≡ content) (short : length piece ≤ from - at)
    (read : piece ≡ slice_range now (from - length piece) from) (within : left ≤ length piece) where
  is : piece ≡ slice_range content (from - length piece) from
  is = subst (λ bs. piece ≡ slice_range bs (from - length piece) from) kept read

  byte_at : (k : ℕ) → k < length piece → slice_get content (from - length piece + k) ≡ Some (slice_index piece k)
  byte_at k inside =
      sym (slice_get-slice_range content (from - length piece) from k (omega (arith, inside, short)))
      ∙ ap (λ bs. slice_get bs k) (sym is) ∙ slice_get-get_or piece k 0 inside

  pub none_back : ((k : ℕ) → left ≤ k → k < length piece → is_stop stops (slice_index piece k) ≡ false) → HasNoStop stops content from needle →
      HasNoStop stops content (from - (length piece - left)) needle
  none_back none beyond x b low high e =
      elim (cases_lt x from) [
        | inl l ↦
            let k : ℕ = x - (from - length piece) in
            let inside : k < length piece = omega (arith, l, low, short) in
            let there : from - length piece + k ≡ x = omega (arith, low, within, short) in
            let same : slice_index piece k ≡ b = same_Some (slice_index piece k) b (sym (byte_at k inside) ∙ ap (slice_get content) there ∙ e) in
            subst (λ z. is_stop stops z ≡ false) same (none k (omega (arith, low, within, short)) inside)
        | inr l ↦ beyond x b l high e
      ]

  pub behind_here : 0 < left → (0 < left → IsTrue (is_stop stops (slice_index piece (left - 1)))) →
      IsBehindStop stops content (from - (length piece - left))
  behind_here some last =
      let there : from - length piece + (left - 1) ≡ from - (length piece - left) - 1 = omega (arith, some, within, short) in
      (slice_index piece (left - 1), ap (slice_get content) (sym there) ∙ byte_at (left - 1) (omega (arith, some, within)), last some)

-- What is passed over holds no walk.

module _ (places : List Place) (terminator : ℕ) (over : Bool) (s : Searched) (needles : List (List ℕ)) (at end : ℕ) (bound : end ≡ high s) where
  abbrev pub HasNone : ℕ → Type 0
  HasNone x = HasNoWalkFrom (search_over places terminator over s) x

  module _ (nowhere : find_needle needles s.content at end ≡ None) where
    none_left : (z : ℕ) → at ≤ z → NoneAt needles s.content (high s) z
    none_left z low = (needle_law.not_found needles s.content at (high s)).0 (ap (find_needle needles s.content at) (sym bound) ∙ nowhere) z low

    pub no_needle_begins : Guards places terminator needles → (x : ℕ) → at ≤ x → x ≤ end → HasNone x
    no_needle_begins guards x low le = guards over s x (omega (arith, le, bound)) (none_left x low)

    pub no_needle_held : (stops : List Bool) → Confines places terminator needles stops → (x : ℕ) → at ≤ x → x ≤ end → HasNone x
    no_needle_held stops confines x low le =
        confines over s x (high s + 1) (omega (arith, le, bound)) (omega (arith, le, bound)) (λ z a b. none_left z (omega (arith, low, a)))
        (inl (omega arith))

  module _ (h : Hit) (found : find_needle needles s.content at end ≡ Some h) (within : h.start < end) where
    first : IsFirstNeedle needles s.content at (high s) h
    first = (needle_law.found needles s.content at (high s) h).0 (ap (find_needle needles s.content at) (sym bound) ∙ found)

    pub first_begins : Guards places terminator needles → (x : ℕ) → at ≤ x → x < h.start → HasNone x
    first_begins guards x low lt = guards over s x (omega (arith, lt, within, bound)) (first.none_before x low lt)

    pub first_held : (stops : List Bool) (from : ℕ) → Confines places terminator needles stops → IsBehind stops s.content at h.start from → from ≤ h.start →
        (x : ℕ) → at ≤ x → x < from → HasNone x
    first_held stops from confines behind le x low lt =
        confines over s x from lt (omega (arith, lt, le, within, bound)) (λ z a b. first.none_before z (omega (arith, low, a)) (omega (arith, b, le)))
        (⊎_elim (λ e. absurd (omega (arith, e, low, lt))) (λ b. inr b) behind.least)
