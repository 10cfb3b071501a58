-- One refusal alone applies to patterns.
use Rattle.std.proofs.Common.{◌≡◌, ◌≢◌, ℕ, zero, suc, ◌<◌, List, [], ◌∷◌, take, Option, Some, slice_get, unwrap_or, inl, inr, ap, refl, sym, ◌∙◌, arith}
use Rattle.std.specs.Prelude.{All}
use Rattle.std.proofs.lemmas.Option.{slice_get_within, get_or_from_slice_get}
use Rattle.std.proofs.lemmas.Bool.{cases_lt}
use Rattle.rc_pattern.specs.Re.{Re}
use Rattle.rc_pattern.specs.WellFormed.{IsWellFormed}
use Rattle.rc_settings.specs.declared.error.BuildError.{BuildError}
use Rattle.rc_settings.specs.declared.error.BuildError.TheVariants.{Syntax, IllFormed, SizeLimit, PlaceLimit, Memory, DfaSizeLimit, CacheTooSmall}
use Rattle.rc_build.specs.Refusals.{IsFirstIllFormed, IsTooLarge, IsTooHeavy, IsWithin, IsRefusal, IsBuildable, size_of}
use Rattle.rc_build.specs.declared.limit.Limit.{Limit}

-- each of well-formed patterns is
one_sound : (hs : List Re) (p : ℕ) (h : Re) → All IsWellFormed hs → slice_get hs p ≡ Some h → IsWellFormed h
one_sound hs p h ok here = rw (sym (get_or_from_slice_get hs p h h here)) (ok p h (slice_get_within hs p h here))

not_all : (hs : List Re) (p : ℕ) → IsFirstIllFormed hs p → ¬ All IsWellFormed hs
not_all hs p bad ok = bad.here.2 (one_sound hs p bad.here.0 ok bad.here.1)

-- a limit that a size is above is not one that it is within
not_within : (limit : Option ℕ) (n size : ℕ) → limit ≡ Some n → n < size → ¬ IsWithin limit size
not_within limit n size is above within = let k = rw is at within in omega (arith, k, above)

slice_get-take : (hs : List Re) (q p : ℕ) → p < q → slice_get (take q hs) p ≡ slice_get hs p
slice_get-take [] zero p below = refl
slice_get-take [] (suc q) p below = refl
slice_get-take (h ∷ hs) zero p below = absurd (omega (arith, below))
slice_get-take (h ∷ hs) (suc q) zero below = refl
slice_get-take (h ∷ hs) (suc q) (suc p) below = slice_get-take hs q p (omega (arith, below))

not_earlier : (hs : List Re) (p q : ℕ) → IsFirstIllFormed hs p → IsFirstIllFormed hs q → ¬ (p < q)
not_earlier hs p q first second below =
    first.here.2 (one_sound (take q hs) p first.here.0 second.before (slice_get-take hs q p below ∙ first.here.1))

same_fault : (hs : List Re) (p q : ℕ) → IsFirstIllFormed hs p → IsFirstIllFormed hs q → p ≡ q
same_fault hs p q first second =
    elim (cases_lt p q) as (λ _. p ≡ q) [
      | inl below ↦ absurd (not_earlier hs p q first second below)
      | inr above ↦
          (elim (cases_lt q p) as (λ _. p ≡ q) [
            | inl below ↦ absurd (not_earlier hs q p second first below)
            | inr least ↦ omega (arith, above, least)
          ])
    ]

-- the refusal that applies where a pattern is the first that isn't well-formed
one_ill_formed : (limit : Limit) (hs : List Re) (q : ℕ) (e : BuildError) → IsFirstIllFormed hs q → IsRefusal limit hs e → e ≢ Memory → IllFormed q ≡ e
one_ill_formed limit hs q (Syntax p e) bad r other = absurd r
one_ill_formed limit hs q (IllFormed p) bad r other = ap IllFormed (same_fault hs q p bad r)
one_ill_formed limit hs q (SizeLimit n) bad r other = absurd (not_all hs q bad r.well_formed)
one_ill_formed limit hs q PlaceLimit bad r other = absurd (not_all hs q bad r.well_formed)
one_ill_formed limit hs q Memory bad r other = absurd (other refl)
one_ill_formed limit hs q (DfaSizeLimit n) bad r other = absurd r
one_ill_formed limit hs q (CacheTooSmall m n) bad r other = absurd r

-- and where the patterns are too large
one_size : (limit : Limit) (hs : List Re) (k : ℕ) (e : BuildError) → IsTooLarge limit hs k → IsRefusal limit hs e → e ≢ Memory → SizeLimit k ≡ e
one_size limit hs k (Syntax p e) large r other = absurd r
one_size limit hs k (IllFormed p) large r other = absurd (not_all hs p r large.well_formed)
one_size limit hs k (SizeLimit n) large r other = ap (λ o. SizeLimit (unwrap_or o 0)) (sym large.limited ∙ r.limited)
one_size limit hs k PlaceLimit large r other = absurd (not_within limit.bytes k (size_of limit.grammar hs) large.limited large.large r.within)
one_size limit hs k Memory large r other = absurd (other refl)
one_size limit hs k (DfaSizeLimit n) large r other = absurd r
one_size limit hs k (CacheTooSmall m n) large r other = absurd r

-- and where they are too heavy
one_place : (limit : Limit) (hs : List Re) (e : BuildError) → IsTooHeavy limit hs → IsRefusal limit hs e → e ≢ Memory → PlaceLimit ≡ e
one_place limit hs (Syntax p e) heavy r other = absurd r
one_place limit hs (IllFormed p) heavy r other = absurd (not_all hs p r heavy.well_formed)
one_place limit hs (SizeLimit n) heavy r other = absurd (not_within limit.bytes n (size_of limit.grammar hs) r.limited r.large heavy.within)
one_place limit hs PlaceLimit heavy r other = refl
one_place limit hs Memory heavy r other = absurd (other refl)
one_place limit hs (DfaSizeLimit n) heavy r other = absurd r
one_place limit hs (CacheTooSmall m n) heavy r other = absurd r

-- no two refusals are answered for the same patterns
pub one : (limit : Limit) (hs : List Re) (e f : BuildError) → IsRefusal limit hs e → IsRefusal limit hs f → e ≢ Memory → f ≢ Memory → e ≡ f
one limit hs (Syntax p e) f r s other others = absurd r
one limit hs (IllFormed p) f r s other others = one_ill_formed limit hs p f r s others
one limit hs (SizeLimit n) f r s other others = one_size limit hs n f r s others
one limit hs PlaceLimit f r s other others = one_place limit hs f r s others
one limit hs Memory f r s other others = absurd (other refl)
one limit hs (DfaSizeLimit n) f r s other others = absurd r
one limit hs (CacheTooSmall m n) f r s other others = absurd r

-- none applies to patterns that can be built
pub none : (limit : Limit) (hs : List Re) (e : BuildError) → IsRefusal limit hs e → e ≢ Memory → ¬ IsBuildable limit hs
none limit hs (Syntax p e) r other ok = r
none limit hs (IllFormed p) r other ok = not_all hs p r ok.well_formed
none limit hs (SizeLimit n) r other ok = not_within limit.bytes n (size_of limit.grammar hs) r.limited r.large ok.within
none limit hs PlaceLimit r other ok = omega (arith, r.heavy, ok.placed)
none limit hs Memory r other ok = other refl
none limit hs (DfaSizeLimit n) r other ok = r
none limit hs (CacheTooSmall m n) r other ok = r
