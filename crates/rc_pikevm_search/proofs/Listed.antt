-- The list of matches that is left, wherever a match before it ended.
use Rattle.std.proofs.Common.{◌≡◌, ◌∙◌, ◌≤◌, ℕ, List, ◌∷◌, Option, Some, None, ap, refl, subst, sym}
use Rattle.rc_text.specs.Found.{Found}
use Rattle.rc_text.specs.declared.types.MatchKind.{MatchKind}
use Rattle.rc_program.specs.Answer.{Search}
use Rattle.rc_program.specs.Kinds.{answer_by_from, matches_by_kind}
use Rattle.rc_program.specs.Matches
use Rattle.rc_program.specs.Matches.{begin_of, end_of}
use Rattle.rc_program.proofs.KindLemmas.{kinds_alone, kinds_are, kinds_law, kinds_lie_within}
use Rattle.rc_program.proofs.MatchLemmas
use Rattle.rc_program.proofs.MatchLemmas.{next_lies}
use Rattle.rc_pikevm_search.specs.Lists.{LeftLaw}
use Rattle.rc_pikevm_search.proofs.Anywhere.{next_spans}
use Rattle.rc_pikevm_search.proofs.Steps.{left_short, step_none, step_some}

module _ (kind : MatchKind) (s : Search) where
  abbrev Are : ℕ → Option ℕ → List Found → Type 0
  Are = Matches.AreMatches begin_of end_of (answer_by_from kind s)

  abbrev Next : ℕ → Option ℕ → Option Found
  Next = Matches.next_match begin_of end_of (answer_by_from kind s)

  by_next : (k : ℕ) (last : Option ℕ) (o : Option Found) → Next k last ≡ o → Are k last (matches_by_kind kind s k last)
  by_next k last None e = subst (Are k last) (sym (step_none kind s k last (sym e))) (Matches.ends e)
  by_next k last (Some m) e =
      subst (Are k last) (sym (step_some kind s k last m (sym e))) (Matches.goes_on m e (kinds_are kind s m.end (Some m.end) refl))

  are : (k : ℕ) (last : Option ℕ) → Are k last (matches_by_kind kind s k last)
  are k last = by_next k last (Next k last) refl

  alone : (k : ℕ) (last : Option ℕ) {ms : List Found} → Are k last ms → ms ≡ matches_by_kind kind s k last
  alone k last (Matches.ends e) = sym (step_none kind s k last (sym e))
  alone k last (Matches.goes_on {ms = ms} m e rest) =
      ap (λ l. m ∷ l) (kinds_alone kind s m.end (Some m.end) ms refl rest) ∙ sym (step_some kind s k last m (sym e))

  one_before : (m : Found) {ms : List Found} → m.start ≤ m.end → m.end ≤ s.hi → Are m.end (Some m.end) ms →
      Matches.AreInOrder begin_of end_of s.hi ms → Matches.AreInOrder begin_of end_of s.hi (m ∷ ms)
  one_before m a b (Matches.ends e) o = (a, b)
  one_before m a b (Matches.goes_on n e rest) o =
      let h = next_lies begin_of end_of (answer_by_from kind s) s.text.slice_start s.hi (kinds_lie_within kind s) m.end (Some m.end) n refl e in
      let i = h.0 in (a, i.0, h.1, o)

  in_order : (k : ℕ) (last : Option ℕ) {ms : List Found} → Are k last ms → Matches.AreInOrder begin_of end_of s.hi ms
  in_order k last (Matches.ends e) = tt
  in_order k last (Matches.goes_on m e rest) =
      let h = next_spans begin_of end_of (answer_by_from kind s) s.text.slice_start s.hi (kinds_lie_within kind s) k last m e in
      one_before m h.0 h.1 rest
      (MatchLemmas.in_order begin_of end_of (answer_by_from kind s) s.text.slice_start s.hi (kinds_lie_within kind s) m.end (Some m.end) rest refl)

pub left_law : LeftLaw
left_law = record {
  are_matches = are;
  alone = λ kind s k last ms a. alone kind s k last a;
  in_order = λ kind s k last. in_order kind s k last (are kind s k last);
  few = left_short;
  leftmost = kinds_law.leftmost;
}
