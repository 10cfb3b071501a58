-- What is told of a match of a list.
use Rattle.std.proofs.Common.{◌≡◌, ℕ, MatchOption, Option, Some, None, subst, sym}
use Rattle.rc_text.specs.Found.{Found}
use Rattle.live_matches.specs.Live.{Listed}
use Rattle.searcher.specs.Places.{found_at}
use Rattle.searcher.specs.declared.answers.MatchAt.{MatchAt}
use Rattle.zorfelith_c.specs.Lives.{TellsOfList}

module _ (Q : Listed → Option Found → Type 0) (l : Listed) (status : ℕ) (m : MatchAt) where
  abbrev Told : Option Listed → ℕ → Type 0
  Told live n = TellsOfList (λ x. Q x None) (λ x. Q x (Some (found_at m))) live n

  by_status : (there : Option Found) → Q l there → MatchOption there (status ≡ 0) (λ f. (status ≡ 1) × (found_at m ≡ f)) → Told (Some l) status
  by_status None q is = subst (λ n. Told (Some l) n) (sym is) q
  by_status (Some f) q is = subst (λ n. Told (Some l) n) (sym is.0) (subst (λ x. Q l (Some x)) (sym is.1) q)

  -- a match is told if there is one, and else that there is none
  pub told : (live : Option Listed) (there : Option Found) → live ≡ Some l → Q l there →
      MatchOption there (status ≡ 0) (λ f. (status ≡ 1) × (found_at m ≡ f)) → Told live status
  told live there kept q is = subst (λ o. Told o status) (sym kept) (by_status there q is)
