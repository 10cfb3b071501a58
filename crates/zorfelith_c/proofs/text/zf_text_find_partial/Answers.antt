use Rattle.std.proofs.Common.{◌≡◌, ℕ, List, MatchOption, Option, rules, subst, sym}
use Rattle.std.specs.Borrow.{Bor}
use Rattle.rc_text.specs.Joined.{joined}
use Rattle.api_meta.specs.declared.partial.Partial.TheVariants.{Final, From}
use Rattle.searcher.specs.Answers.{IsPartialIn}
use Rattle.searcher.specs.Places.{found_at}
use Rattle.searcher.specs.Ranges.{IsServed}
use Rattle.searcher.specs.Searching.{Searching}
use Rattle.zorfelith_c.specs.Statuses.{empty}
use Rattle.zorfelith_c.proofs.text.zf_text_find_partial.Goals as goal

pub returns-in-Final-clause-answered : goal.returns-in-Final-clause-answered
returns-in-Final-clause-answered c =
    let Q : Searching → List (Bor (List ℕ)) → Type 0 = λ s t. IsServed t c.args.start 18446744073709551615
    × IsPartialIn s.regex (joined t) c.args.start (Final (found_at c.of-in-Final.result)) in
    let told : Q c.take-held.result.value c.take-kept.result.value = search rules in
    subst (λ (o : Option Searching). MatchOption o (1 ≡ empty) (λ s. MatchOption c.args.text.now.held.value (1 ≡ empty) (λ t. Q s t)))
    (sym c.take-held.ensures.taken)
    (subst (λ (o : Option (List (Bor (List ℕ)))). MatchOption o (1 ≡ empty) (λ t. Q c.take-held.result.value t)) (sym c.take-kept.ensures.taken) told)

pub returns-in-From-clause-answered : goal.returns-in-From-clause-answered
returns-in-From-clause-answered c =
    let Q : Searching → List (Bor (List ℕ)) → Type 0 = λ s t. IsServed t c.args.start 18446744073709551615
    × IsPartialIn s.regex (joined t) c.args.start (From c.in-From.place) in
    let told : Q c.take-held.result.value c.take-kept.result.value = search rules in
    subst (λ (o : Option Searching). MatchOption o (0 ≡ empty) (λ s. MatchOption c.args.text.now.held.value (0 ≡ empty) (λ t. Q s t)))
    (sym c.take-held.ensures.taken)
    (subst (λ (o : Option (List (Bor (List ℕ)))). MatchOption o (0 ≡ empty) (λ t. Q c.take-held.result.value t)) (sym c.take-kept.ensures.taken) told)
