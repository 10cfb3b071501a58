-- Bytes over which no match begins.
use Rattle.std.proofs.Common.{◌≡◌, ◌∙◌, ℕ, ◌<◌, Bool, true, false, not, true≢false, IsTrue, refl, List, length, replicate, set, sym, subst, ap, arith, inl, inr, slice_index_or}
use Rattle.std.proofs.lemmas.Bool.{cases_lt, cases_eq}
use Rattle.std.proofs.lemmas.List.{get_or-replicate, get_or-set_same, get_or-set_other, get_or_past, length-replicate}
use Rattle.rc_program.specs.Heads.{TellsHeads}
use Rattle.rc_program.specs.Program.{Place}
use Rattle.rc_dfa_search.specs.Firsts.{TellsOthers}

-- where no flag is set
unset : (n b : ℕ) → slice_index_or (replicate n false) b false ≡ false
unset n b = elim (cases_lt b n) [
  | inl lt ↦ get_or-replicate n b false false lt
  | inr past ↦ let long = length-replicate n false in get_or_past (replicate n false) b false (omega (arith, past, long))
]

pub none_set : (n b : ℕ) → IsTrue (slice_index_or (replicate n false) b false) → ⊥
none_set n b h = true≢false (sym h ∙ unset n b)

pub tells_none : (places : List Place) (n : ℕ) → TellsOthers places 0 (replicate n false)
tells_none places n b h = absurd (none_set n b h)

not_is : (x : Bool) → IsTrue (not x) → x ≡ false
not_is true h = absurd (true≢false (sym h))
not_is false h = refl

-- one byte more, with what isn't said of it
pub one_other : (heads others : List Bool) (n : ℕ) (x : Bool) → length others ≡ 256 → n < 256 → slice_index_or heads n false ≡ x →
    ((b : ℕ) → IsTrue (slice_index_or others b false) → (b < 256) × (slice_index_or heads b false ≡ false)) →
    (b : ℕ) → IsTrue (slice_index_or (set others n (not x)) b false) → (b < 256) × (slice_index_or heads b false ≡ false)
one_other heads others n x long small is told b h = elim (cases_eq b n) [
  | inl e ↦ (
    omega (arith, e, small),
    ap (λ k. slice_index_or heads k false) e ∙ is
        ∙ not_is x (subst IsTrue (ap (λ k. slice_index_or (set others n (not x)) k false) e ∙ get_or-set_same others n (not x) false (omega (arith, long, small))) h),
  )
  | inr ne ↦ told b (subst IsTrue (get_or-set_other others n b (not x) false ne) h)
]

-- what heads tell
pub heads_tell : (places : List Place) (heads flags : List Bool) → TellsHeads places 0 heads →
    ((b : ℕ) → IsTrue (slice_index_or flags b false) → (b < 256) × (slice_index_or heads b false ≡ false)) → TellsOthers places 0 flags
heads_tell places heads flags tells told b h may =
    let t = told b h in true≢false (sym ((tells.exact b t.0).1 may) ∙ t.1)
