-- Patterns that have the same parses in the same order give the same answers.
use Rattle.std.proofs.Common.{◌≡◌, ℕ, ◌≤◌, Bool, not, ◌||◌, List, Option, Some, None, inl, inr, ⊎_elim, sym, subst, ap, ap₂, ◌∙◌, refl}
use Rattle.rc_text.specs.Found.{Found}
use Rattle.rc_text.specs.Text.{Searched, high, is_boundary}
use Rattle.rc_pattern.specs.Re.{Re}
use Rattle.rc_program.specs.Text.{Text}
use Rattle.rc_program.specs.Answer.{only, answer}
use Rattle.rc_program.specs.Sought.{Sought, anchoring_of, search_for, text_of}
use Rattle.rc_parses.specs.Parses.{Parse, IsAllowed, IsBeforeBy, IsCandidate, IsLeastParse}
use Rattle.rc_parses.specs.Preference.{IsLeastFrom, HasNoParseFrom, ends_well, IsPassedBy, IsPreferred, IsPreferredMatch}
use Rattle.rc_parses.specs.Laws.{HaveSameParses, SamenessLaw, SeeAlike}
use Rattle.rc_parses.proofs.FactorLemmas.{factored_same, gather_by, spread_by}
use Rattle.rc_parses.proofs.LawLemmas.{answered}

module _ (t : Text) (hs gs : List Re) (to from : Parse → Parse) (same : HaveSameParses t hs gs to from) (hi : ℕ) (allowed : Option ℕ) (x : ℕ) where
  candidate_to : (p : Parse) → IsCandidate t hi allowed hs x p → IsCandidate t hi allowed gs x (to p)
  candidate_to p c = record {
    parses = same.parses x p c.parses;
    within = subst (λ e. e ≤ hi) (sym (same.end x p c.parses)) c.within;
    allowed = subst (IsAllowed allowed) (sym (same.pattern x p c.parses)) c.allowed;
  }

  candidate_from : (p : Parse) → IsCandidate t hi allowed gs x p → IsCandidate t hi allowed hs x (from p)
  candidate_from p c =
      let a = same.all x p c.parses in
      record {
        parses = a.0;
        within = subst (λ e. e ≤ hi) (ap (λ (r : Parse). r.end) (sym a.1) ∙ same.end x (from p) a.0) c.within;
        allowed = subst (IsAllowed allowed) (ap (λ (r : Parse). r.pattern) (sym a.1) ∙ same.pattern x (from p) a.0) c.allowed;
      }

  least_to : (p : Parse) → IsLeastParse t hi allowed hs x p → IsLeastParse t hi allowed gs x (to p)
  least_to p l = record {
    is_candidate = candidate_to p l.is_candidate;
    is_least = λ r c.
        let a = same.all x r c.parses in
        ⊎_elim (λ e. inl (sym a.1 ∙ ap to e))
        (λ b. inr (subst (IsBeforeBy gs (to p)) a.1 (same.ordered x p (from r) l.is_candidate.parses a.0 b)))
        (l.is_least (from r) (candidate_from r c));
  }

module _ (q r : Sought) (s : Searched) (to from : Parse → Parse) (alike : SeeAlike q r) (same : HaveSameParses (text_of q.terminator s) q.patterns r.patterns to from) where
  least_same : (x : ℕ) (p : Parse) → IsLeastFrom q s x p → IsLeastFrom r s x (to p)
  least_same x p l =
      subst (λ k. IsLeastParse (text_of k s) (high s) (only (anchoring_of s.anchored)) r.patterns x (to p)) (sym alike.terminator)
      (least_to (text_of q.terminator s) q.patterns r.patterns to from same (high s) (only (anchoring_of s.anchored)) x p l)

  none_same : (x : ℕ) → HasNoParseFrom q s x → HasNoParseFrom r s x
  none_same x none p c =
      none (from p)
      (candidate_from (text_of q.terminator s) q.patterns r.patterns to from same (high s) (only (anchoring_of s.anchored)) x p
      (subst (λ k. IsCandidate (text_of k s) (high s) (only (anchoring_of s.anchored)) r.patterns x p) alike.terminator c))

  ends_same : (x : ℕ) (p : Parse) → IsLeastFrom q s x p → ends_well r s (to p) ≡ ends_well q s p
  ends_same x p l =
      ap₂ (λ (b : Bool) e. not b || is_boundary s.content e) alike.passing (same.end x p l.is_candidate.parses)

  passed_same : (x : ℕ) → IsPassedBy q s x → IsPassedBy r s x
  passed_same x passed =
      ⊎_elim (λ none. inl (none_same x none)) (λ p. inr (to p.0, least_same x p.0 p.1, ends_same x p.0 p.1 ∙ p.2)) passed

  preferred_same : (x : ℕ) (p : Parse) → IsPreferred q s x p → IsPreferred r s x (to p)
  preferred_same x p a = record {
    is_start = a.is_start;
    is_least = least_same x p a.is_least;
    allowed = ends_same x p a.is_least ∙ a.allowed;
    none_before = λ y b l. passed_same y (a.none_before y b l);
  }

  abbrev found_at : ℕ → ℕ → ℕ → Found
  found_at k x e = record { pattern = k; start = x; end = e }

  match_same : (o : Option Found) → IsPreferredMatch q s o → IsPreferredMatch r s o
  match_same None none = λ x b. passed_same x (none x b)
  match_same (Some m) a =
      let parses = a.1.is_least.is_candidate.parses in (
        to a.0,
        preferred_same m.start a.0 a.1,
        a.2 ∙ ap₂ (λ k e. found_at k m.start e) (sym (same.pattern m.start a.0 parses)) (sym (same.end m.start a.0 parses)),
      )

pub sameness_law : SamenessLaw
sameness_law = record {
  answers = λ q r s to from plain others alike same.
      (answered r s others (answer (search_for q s))).1
      (match_same q r s to from alike same (answer (search_for q s)) ((answered q s plain (answer (search_for q s))).0 refl));
  preferred = λ q r s to from alike same x p a.
      (preferred_same q r s to from alike same x p a, same.groups x p a.is_least.is_candidate.parses);
  factored = λ t a b rest. (spread_by, gather_by, factored_same t a b rest);
}
