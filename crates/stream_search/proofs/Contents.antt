-- Contents that go on from the bytes of a stream, whole and without their first bytes.
use Rattle.std.proofs.Common.{◌≡◌, ℕ, ◌+◌, ◌-◌, ◌≤◌, Bool, true, false, List, [], ◌++◌, length, take, drop, Some, ⊎_elim, sym, ap, subst, ◌∙◌, refl, arith, append_assoc, length-append}
use Rattle.std.specs.Option.{option_map}
use Rattle.std.proofs.Math.Seq.{take-append_seam, take-length}
use Rattle.std.proofs.lemmas.Bool.{cases_lt}
use Rattle.std.proofs.lemmas.List.{append-nil, drop-append-le}
use Rattle.rc_text.specs.Found.{Found}
use Rattle.rc_text.specs.declared.types.MatchKind.{MatchKind}
use Rattle.rc_program.specs.Answer.{Search, is_anchored}
use Rattle.rc_program.specs.Matches.{from_on}
use Rattle.rc_reach.specs.Edits.{match_further}
use Rattle.rc_reach.specs.Live.{found_by, over_content}
use Rattle.rc_reach.specs.Partial.{GoesOnFrom, IsPartial, final, from_place}
use Rattle.rc_reach.proofs.LawLemmas.{matches_stay}
use Rattle.rc_reach.proofs.LiveLemmas.{live_law}
use Rattle.stream_search.specs.Streams.{MayBecome}
use Rattle.stream_search.proofs.Onward.{onward}

-- a search of the longer content goes on from one of its beginning
pub goes : (s : Search) (c more : List ℕ) (at : ℕ) → GoesOnFrom (from_on (over_content s c) at) (from_on (over_content s (c ++ more)) at)
goes s c more at =
    let same = take-append_seam c more ∙ sym (take-length c) in
    let whole = ap (take (length c)) (take-length (c ++ more)) ∙ same ∙ sym (ap (take (length c)) (take-length c)) in (
      record { lo = omega arith; hi = omega arith; slice_end = omega arith },
      record {
        places = refl;
        terminator = refl;
        slice_start = refl;
        lo = refl;
        anchoring = refl;
        passes_over = refl;
        read = whole;
        seen = whole;
        content = same;
      },
    )

module _ (kind : MatchKind) (s : Search) where
  pub final_there : (c more : List ℕ) (at : ℕ) (m : Found) → IsPartial kind (from_on (over_content s c) at) (final m) →
      found_by kind s (c ++ more) at ≡ Some m
  final_there c more at m told = told (from_on (over_content s (c ++ more)) at) (goes s c more at)

  pub onward_there : is_anchored s.anchoring ≡ false → (c more : List ℕ) (at k : ℕ) → at ≤ k →
      IsPartial kind (from_on (over_content s c) at) (from_place k) → found_by kind s (c ++ more) at ≡ found_by kind s (c ++ more) k
  onward_there free c more at k far told =
      sym (onward kind (from_on (over_content s c) at) (from_on (over_content s (c ++ more)) at) k free (omega (arith, far)) told (goes s c more at))

  -- more than four bytes before a place may be let go
  pub forgets : (content : List ℕ) (gone at : ℕ) → gone ≤ length content → gone ≤ at + gone - 4 →
      found_by kind s content (at + gone) ≡ option_map (match_further gone) (found_by kind s (drop gone content) at)
  forgets content gone at inside far =
      ⊎_elim (λ none. let z : gone ≡ 0 = omega (arith, none) in
      subst (λ g. found_by kind s content (at + g) ≡ option_map (match_further g) (found_by kind s (drop g content) at)) (sym z)
      (ap (found_by kind s content) (let e : at + 0 ≡ at = omega arith in e) ∙ sym (matches_stay (found_by kind s content at))))
      (λ some. live_law.moved_back kind s content [] 0 gone gone at (omega arith) inside (omega arith) (omega (arith, some, far)))
      (cases_lt gone 1)

-- what a content without its first bytes goes on from
pub becomes : (is_finished : Bool) (fed content : List ℕ) (gone : ℕ) → gone ≤ length fed → MayBecome is_finished fed content →
    MayBecome is_finished (drop gone fed) (drop gone content)
becomes false fed content gone inside b = (b.0, ap (drop gone) b.1 ∙ drop-append-le gone fed b.0 inside)
becomes true fed content gone inside b = ap (drop gone) b

pub as_long : (is_finished : Bool) (fed content : List ℕ) → MayBecome is_finished fed content → length fed ≤ length content
as_long false fed content b = let e = ap length b.1 in let l = length-append fed b.0 in omega (arith, e, l)
as_long true fed content b = let e = ap length b in omega (arith, e)

-- what an end or more bytes leave of them was there before
pub became_more : (fed chunk content : List ℕ) → MayBecome false (fed ++ chunk) content → MayBecome false fed content
became_more fed chunk content b = (chunk ++ b.0, b.1 ∙ append_assoc fed chunk b.0)

pub became_all : (is_finished : Bool) (fed content : List ℕ) → MayBecome true fed content → MayBecome is_finished fed content
became_all false fed content b = ([], b ∙ sym (append-nil fed))
became_all true fed content b = b
