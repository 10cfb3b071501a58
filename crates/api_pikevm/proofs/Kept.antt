-- What captures keep of a search.
use Rattle.std.proofs.Common.{◌≡◌, ◌∙◌, ℕ, List, length, MatchOption, Option, Some, None, ap, replicate, subst, sym}
use Rattle.std.proofs.lemmas.List.{length-replicate}
use Rattle.rc_text.specs.declared.types.MatchKind.{MatchKind}
use Rattle.rc_program.specs.Answer.{Search}
use Rattle.rc_pikevm.specs.KindSlots.{slots_by}

-- what captures keep, whose slots were empty before a search wrote them
pub kept_slots : (kind : MatchKind) (s : Search) (n : ℕ) (p told : Option ℕ) (kept written before : List (Option ℕ)) → p ≡ told → kept ≡ written →
    before ≡ replicate n None → MatchOption told (written ≡ before) (λ _. Some written ≡ slots_by kind s (length before)) →
    MatchOption p (kept ≡ replicate n None) (λ _. Some kept ≡ slots_by kind s n)
kept_slots kind s n p None kept written before is same empty h =
    subst (λ o. MatchOption o (kept ≡ replicate n None) (λ _. Some kept ≡ slots_by kind s n)) (sym is) (same ∙ h ∙ empty)
kept_slots kind s n p (Some _) kept written before is same empty h =
    subst (λ o. MatchOption o (kept ≡ replicate n None) (λ _. Some kept ≡ slots_by kind s n)) (sym is)
    (ap (λ xs. Some xs) same ∙ h ∙ ap (λ xs. slots_by kind s (length xs)) empty ∙ ap (slots_by kind s) (length-replicate n None))
