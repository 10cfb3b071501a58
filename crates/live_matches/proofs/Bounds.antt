-- What the greatest length of the patterns tells: how many bytes settle a match, and where a search
-- of a part of the text shows that none begins.
use Rattle.std.proofs.Common.{◌≡◌, ◌≢◌, ℕ, ◌+◌, ◌<◌, ◌≤◌, Bool, List, drop, length, map, min, take, Option, Some, None, IfSome, ⊎_elim, refl, sym, ap, subst, ◌∙◌, arith, take-take}
use Rattle.std.specs.Prelude.{All}
use Rattle.std.proofs.Math.Seq.{take-length}
use Rattle.std.proofs.lemmas.Bool.{cases_lt}
use Rattle.std.proofs.lemmas.List.{drop_all}
use Rattle.std.proofs.lemmas.Option.{none-some, same_Some}
use Rattle.rc_text.specs.Found.{Found}
use Rattle.rc_text.specs.declared.types.MatchKind.{MatchKind}
use Rattle.rc_text.specs.declared.types.MatchKind.TheVariants.{All as all_matches}
use Rattle.rc_pattern.specs.Re.{Re}
use Rattle.rc_pattern.specs.Meaning.{meaning}
use Rattle.rc_pattern.specs.declared.hir.Hir.{Hir}
use Rattle.rc_pattern.specs.WellFormed.{HasBounds}
use Rattle.rc_program.specs.Answer.{Search}
use Rattle.rc_program.specs.Kinds.{answer_by}
use Rattle.rc_program.specs.Matches.{from_on}
use Rattle.rc_program.specs.Program.{program, shown}
use Rattle.rc_reach.specs.Fixed.{IsFixed}
use Rattle.rc_reach.specs.Laws.{greatest_len}
use Rattle.rc_reach.specs.Live.{found_by, over_content}
use Rattle.rc_reach.specs.Settled.{IsSettled}
use Rattle.rc_reach.proofs.BoundLemmas.{length_law}
use Rattle.rc_reach.proofs.LawLemmas.{reach_law}
use Rattle.api_meta.specs.Reaching.{longest_after}
use Rattle.api_meta.proofs.Reaching.{longest_is}
use Rattle.live_matches.proofs.Searches.{settled_fixed}

-- the search of a content from k on, of which the span ends at `stop`
abbrev pub until : Search → List ℕ → ℕ → ℕ → Search
until s c k stop = record (from_on (over_content s c) k) { hi = min stop (length c) }

-- what is read below r, if the span ends there or later
same_read : (c : List ℕ) (r stop : ℕ) → r ≤ stop → take r (take (min stop (length c)) c) ≡ take r (take (length c) c)
same_read c r stop h =
    ⊎_elim
    (λ l. let same : min stop (length c) ≡ stop = omega (arith, l) in
    ap (λ i. take r (take i c)) same ∙ take-take r stop c h ∙ sym (ap (take r) (take-length c)))
    (λ g. let same : min stop (length c) ≡ length c = omega (arith, g) in ap (λ i. take r (take i c)) same)
    (cases_lt stop (length c))

module _ (kind : MatchKind) (s : Search) (grouped : Bool) (hs : List Re) (n : ℕ) (runs : s.places ≡ program (shown grouped hs)) (ok : All HasBounds hs)
    (len : greatest_len hs ≡ Some n) (other_kind : kind ≢ all_matches) where
  settled : (c : List ℕ) (k : ℕ) (m : Found) → found_by kind s c k ≡ Some m → IsSettled kind (m.start + n + 4) (from_on (over_content s c) k)
  settled c k m e =
      reach_law.match kind (from_on (over_content s c) k) (m.start + n + 4)
      (length_law.found kind (from_on (over_content s c) k) grouped hs m n (record { lo = omega arith; hi = omega arith; slice_end = omega arith })
      runs ok len other_kind e).0

  pub near : (c : List ℕ) (k : ℕ) (m : Found) → found_by kind s c k ≡ Some m → IsFixed kind s c (m.start + (n + 4)) k
  near c k m e =
      let same : m.start + n + 4 ≡ m.start + (n + 4) = omega arith in
      subst (λ r. IsFixed kind s c r k) same (settled_fixed kind s c (m.start + n + 4) k (settled c k m e))

  found_until : (c : List ℕ) (k stop : ℕ) (m : Found) → found_by kind s c k ≡ Some m → m.start + n + 4 ≤ stop →
      answer_by kind (until s c k stop) ≡ Some m
  found_until c k stop m e h =
      settled c k m e (until s c k stop) (record { lo = omega arith; hi = omega arith; slice_end = omega arith })
      (record {
        places = refl;
        terminator = refl;
        slice_start = refl;
        lo = refl;
        anchoring = refl;
        passes_over = refl;
        read = same_read c (m.start + n + 4) stop h;
        seen = refl;
        content = refl;
      })
      ∙ e

  -- a search up to `stop` found no match that the bytes before `stop` settle, so none begins before
  pub none_until : (c : List ℕ) (k stop r : ℕ) (o : Option Found) → o ≡ answer_by kind (until s c k stop) →
      IfSome o (λ m. r ≤ m.start + n + 4) → IfSome o (λ m. stop < r) →
      IfSome (found_by kind s c k) (λ m. stop < m.start + n + 4)
  none_until c k stop r o is near late = by_found (found_by kind s c k) refl
    where
      no_match : (p : Option Found) (m : Found) → o ≡ p → p ≡ Some m → m.start + n + 4 ≤ stop → IfSome p (λ m. r ≤ m.start + n + 4) →
          IfSome p (λ m. stop < r) → ⊥
      no_match None m a b h x y = none-some m b
      no_match (Some m1) m a b h x y = let e = ap (λ (f : Found). f.start) (same_Some m1 m b) in omega (arith, h, x, y, e)

      by_found : (p : Option Found) → found_by kind s c k ≡ p → IfSome p (λ m. stop < m.start + n + 4)
      by_found None e = tt
      by_found (Some m) e =
          ⊎_elim (λ l. l)
          (λ g. absurd (no_match o m refl (is ∙ found_until c k stop m e (omega (arith, g))) (omega (arith, g)) near late))
          (cases_lt stop (m.start + n + 4))

-- once no pattern is left, the length is that of all
pub all_counted : (hirs : List Hir) (i : ℕ) (o : Option ℕ) → length hirs ≤ i →
    IfSome o (λ n. longest_after (Some 0) (map meaning hirs) ≡ longest_after (Some n) (map meaning (drop i hirs))) →
    IfSome o (λ n. greatest_len (map meaning hirs) ≡ Some n)
all_counted hirs i None over same = tt
all_counted hirs i (Some n) over same =
    sym (longest_is (map meaning hirs)) ∙ same ∙ ap (λ (xs : List Hir). longest_after (Some n) (map meaning xs)) (drop_all i hirs over)
