-- The next match of a list, sought from a place after the end of the match before.
use Rattle.std.proofs.Common.{◌≡◌, ℕ, ◌+◌, ◌<◌, ◌≤◌, true, false, List, length, Option, Some, None, if◌then◌else◌, ⊎_elim, sym, ap, ◌∙◌, refl, arith, eqb-true, nat_eq, true≢false}
use Rattle.std.proofs.lemmas.Bool.{cases_Bool, cases_lt, and_parts}
use Rattle.rc_text.specs.Found.{Found}
use Rattle.rc_text.specs.declared.types.MatchKind.{MatchKind}
use Rattle.rc_program.specs.Answer.{Search}
use Rattle.rc_program.specs.Matches.{begin_of, end_of, is_again, next_match, unless_again}
use Rattle.rc_program.proofs.KindLemmas.{kinds_law}
use Rattle.rc_reach.specs.Live.{EndedBy, found_by, over_content}

-- a match that ends after the last one isn't that one again
pub ends_after : (last : Option ℕ) (k : ℕ) (m : Found) → EndedBy last k → k < m.end → is_again begin_of end_of last m ≡ false
ends_after None k m h far = refl
ends_after (Some l) k m h far =
    ⊎_elim (λ t. absurd (let e = eqb-true m.end l (and_parts (nat_eq m.start m.end) (nat_eq m.end l) t).1 in omega (arith, e, h, far))) (λ f. f)
    (cases_Bool (is_again begin_of end_of (Some l) m))

-- an empty match is the last one again only there
pub again_at : (last : Option ℕ) (k : ℕ) (m : Found) → EndedBy last k → k ≤ m.start → m.start ≤ m.end →
    is_again begin_of end_of last m ≡ true → m.end ≤ k
again_at last k m h near order again =
    ⊎_elim (λ far. absurd (true≢false (sym again ∙ ends_after last k m h far))) (λ le. le) (cases_lt k m.end)

module _ (kind : MatchKind) (s : Search) (content : List ℕ) where
  abbrev find : ℕ → Option Found
  find = found_by kind s content

  abbrev next : ℕ → Option ℕ → Option Found
  next = next_match begin_of end_of find

  -- where it lies
  pub lies : (k : ℕ) (m : Found) → find k ≡ Some m → (k ≤ m.start) × (m.start ≤ m.end) × (m.end ≤ length content)
  lies k m e = let h = kinds_law.within kind (over_content s content) k m e in (h.0, h.2, h.3)

  -- it is what the search finds, if that isn't the last one again
  pub taken : (k : ℕ) (last : Option ℕ) (m : Found) → find k ≡ Some m → is_again begin_of end_of last m ≡ false → next k last ≡ Some m
  taken k last m e f = ap (unless_again begin_of end_of find k last) e ∙ ap (λ b. if b then find (k + 1) else Some m) f

  pub none_taken : (k : ℕ) (last : Option ℕ) → find k ≡ None → next k last ≡ None
  none_taken k last e = ap (unless_again begin_of end_of find k last) e

  -- after the end of the last match it is what the search finds
  pub plain : (j k : ℕ) (last : Option ℕ) (o : Option Found) → find k ≡ o → EndedBy last j → j < k → next k last ≡ o
  plain j k last None e ended far = none_taken k last e
  plain j k last (Some m) e ended far =
      let h = lies k m e in taken k last m e (ends_after last j m ended (omega (arith, far, h.0, h.1)))

  -- the search from the next byte counts if it finds the last one again
  pub skipped : (k : ℕ) (last : Option ℕ) (m : Found) → EndedBy last k → find k ≡ Some m → is_again begin_of end_of last m ≡ true →
      next k last ≡ next (k + 1) last
  skipped k last m ended e again =
      ap (unless_again begin_of end_of find k last) e ∙ ap (λ b. if b then find (k + 1) else Some m) again
      ∙ sym (plain k (k + 1) last (find (k + 1)) refl ended (omega arith))

  -- a search from a later place that finds the same
  quiet_on : (j k : ℕ) (last : Option ℕ) (o : Option Found) → EndedBy last j → j < k → find j ≡ o → find k ≡ o → next j last ≡ next k last
  quiet_on j k last None ended far e f = none_taken j last e ∙ sym (none_taken k last f)
  quiet_on j k last (Some m) ended far e f =
      let h = lies k m f in
      taken j last m e (ends_after last j m ended (omega (arith, far, h.0, h.1))) ∙ sym (plain j k last (Some m) f ended far)

  pub quiet : (j k : ℕ) (last : Option ℕ) → EndedBy last j → j ≤ k → find j ≡ find k → next j last ≡ next k last
  quiet j k last ended far same =
      ⊎_elim (λ less. quiet_on j k last (find k) ended less same refl)
      (λ ge. let e : j ≡ k = omega (arith, far, ge) in ap (λ p. next p last) e) (cases_lt j k)
