-- Each kind of answer, and its list of matches.
use Rattle.std.proofs.Common.{◌≡◌, ◌↔◌, ℕ, ◌+◌, ◌-◌, List, length, Option, Some, None, Bool, false, ⊎_elim, sym, refl, arith}
use Rattle.std.proofs.lemmas.Bool.{cases_Bool}
use Rattle.rc_text.specs.Found.{Found}
use Rattle.rc_text.specs.declared.types.MatchKind.{MatchKind}
use Rattle.rc_text.specs.declared.types.MatchKind.TheVariants.{All as all_matches, LeftmostFirst as leftmost_first, LeftmostLongest as leftmost_longest}
use Rattle.rc_program.specs.Answer.{Search, answer}
use Rattle.rc_program.specs.Greatest.{IsSpelledIn}
use Rattle.rc_program.specs.Kinds.{answer_by, is_early, IsEarlyAnswer, IsAnswerBy, answer_by_from, matches_by_kind, KindsLaw}
use Rattle.rc_program.specs.Matches
use Rattle.rc_program.specs.Matches.{begin_of, end_of, from_on, matches_left}
use Rattle.rc_program.proofs.GreatestLemmas.{spelled_within, greatest_some, greatest_law, answer_spelled}
use Rattle.rc_program.proofs.ReachLemmas.{longest_law}
use Rattle.rc_program.proofs.MatchLemmas.{IsAfterLast, matches_by_are, only_matches, room_left, in_order, few, IsFew}

-- the match of a kind is spelled
pub kind_spelled : (kind : MatchKind) (s : Search) (m : Found) → answer_by kind s ≡ Some m → IsSpelledIn s m
kind_spelled all_matches s m e = ((greatest_some s m).0 e).is_spelled
kind_spelled leftmost_first s m e = answer_spelled s m e
kind_spelled leftmost_longest s m e = longest_law.spelled s m e

early : (kind : MatchKind) (s : Search) (o : Option Found) → answer_by kind s ≡ o → IsEarlyAnswer kind s o
early kind s None e = e
early kind s (Some m) e = kind_spelled kind s m e

best : (kind : MatchKind) (earliest : Bool) (s : Search) → IsAnswerBy kind earliest s (answer_by kind s)
best kind earliest s =
    ⊎_elim (λ t. rw t (early kind s (answer_by kind s) refl)) (λ f. rw f refl) (cases_Bool (is_early earliest s))

spelled : (kind : MatchKind) (earliest : Bool) (s : Search) (m : Found) → IsAnswerBy kind earliest s (Some m) → IsSpelledIn s m
spelled kind earliest s m h =
    ⊎_elim (λ t. rw t at h) (λ f. let e : Some m ≡ answer_by kind s = rw f at h in kind_spelled kind s m (sym e)) (cases_Bool (is_early earliest s))

none_of_kind : (kind : MatchKind) (s : Search) → s.passes_over ≡ false → (answer_by kind s ≡ None) ↔ (answer s ≡ None)
none_of_kind all_matches s off = greatest_law.same_none s off
none_of_kind leftmost_first s off = ((λ e. e), (λ e. e))
none_of_kind leftmost_longest s off = longest_law.same_none s off

-- an answer is missing exactly where the kind has no match
pub missing_by : (kind : MatchKind) (earliest : Bool) (s : Search) → IsAnswerBy kind earliest s None ↔ (answer_by kind s ≡ None)
missing_by kind earliest s =
    ⊎_elim (λ t. rw t ((λ e. e), (λ e. e))) (λ f. rw f ((λ e. sym e), (λ e. sym e))) (cases_Bool (is_early earliest s))

missing : (kind : MatchKind) (earliest : Bool) (s : Search) → s.passes_over ≡ false → IsAnswerBy kind earliest s None ↔ (answer s ≡ None)
missing kind earliest s off =
    let a = missing_by kind earliest s in
    let b = none_of_kind kind s off in
    ((λ h. b.0 (a.0 h)), (λ e. a.1 (b.1 e)))

-- what a search from k on finds lies within the bounds
pub kinds_lie_within : (kind : MatchKind) (s : Search) → Matches.LiesWithin begin_of end_of (answer_by_from kind s) s.text.slice_start s.hi
kinds_lie_within kind s k m e =
    let h = spelled_within (from_on s k) m (kind_spelled kind (from_on s k) m e) in (omega (arith, h.0), omega (arith, h.0), h.1, h.2)

-- the matches of a kind that are left
pub kinds_are : (kind : MatchKind) (s : Search) (k : ℕ) (last : Option ℕ) → IsAfterLast k last →
    Matches.AreMatches begin_of end_of (answer_by_from kind s) k last (matches_by_kind kind s k last)
unfolding matches_by_kind
kinds_are kind s k last h =
    matches_by_are begin_of end_of (answer_by_from kind s) s.text.slice_start s.hi (kinds_lie_within kind s) (s.hi + 1 - k) k last h
    (room_left begin_of end_of (answer_by_from kind s) s.text.slice_start s.hi (kinds_lie_within kind s) k last)

-- no other list is
pub kinds_alone : (kind : MatchKind) (s : Search) (k : ℕ) (last : Option ℕ) (ms : List Found) → IsAfterLast k last →
    Matches.AreMatches begin_of end_of (answer_by_from kind s) k last ms → ms ≡ matches_by_kind kind s k last
unfolding matches_by_kind
kinds_alone kind s k last ms h a =
    only_matches begin_of end_of (answer_by_from kind s) s.text.slice_start s.hi (kinds_lie_within kind s) k last a h (s.hi + 1 - k)
    (room_left begin_of end_of (answer_by_from kind s) s.text.slice_start s.hi (kinds_lie_within kind s) k last)

-- they rise
pub kinds_in_order : (kind : MatchKind) (s : Search) (k : ℕ) (last : Option ℕ) → IsAfterLast k last →
    Matches.AreInOrder begin_of end_of s.hi (matches_by_kind kind s k last)
kinds_in_order kind s k last h =
    in_order begin_of end_of (answer_by_from kind s) s.text.slice_start s.hi (kinds_lie_within kind s) k last (kinds_are kind s k last h) h

-- there are no more than positions
pub kinds_few : (kind : MatchKind) (s : Search) (k : ℕ) (last : Option ℕ) → IsAfterLast k last →
    IsFew begin_of end_of (answer_by_from kind s) s.text.slice_start s.hi (kinds_lie_within kind s) k last (length (matches_by_kind kind s k last))
kinds_few kind s k last h =
    few begin_of end_of (answer_by_from kind s) s.text.slice_start s.hi (kinds_lie_within kind s) k last (kinds_are kind s k last h) h

kinds_leftmost : (s : Search) (k : ℕ) (last : Option ℕ) → matches_by_kind leftmost_first s k last ≡ matches_left s k last
unfolding matches_by_kind matches_left
kinds_leftmost s k last = refl

pub kinds_law : KindsLaw
kinds_law = record {
  best = best;
  spelled = spelled;
  missing = missing;
  are_matches = λ kind s k. kinds_are kind s k None tt;
  alone = λ kind s k ms h. kinds_alone kind s k None ms tt h;
  in_order = λ kind s k. kinds_in_order kind s k None tt;
  few = λ kind s k. kinds_few kind s k None tt;
  within = kinds_lie_within;
  preferred = λ s. refl;
  leftmost = kinds_leftmost;
  longest = λ s. refl;
}
