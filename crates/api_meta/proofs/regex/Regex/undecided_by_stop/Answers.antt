use Rattle.std.proofs.Common.{◌≡◌, ◌≤◌, ℕ, max, sym, subst, arith, IfSome}
use Rattle.rc_text.specs.Found.{Found}
use Rattle.rc_reach.specs.Partial.{IsPartial, from_place}
use Rattle.api_meta.specs.Views.{regex_kind, sought}
use Rattle.api_meta.proofs.Partials.{S, from_settled, from_there, later_from}
use Rattle.api_meta.proofs.regex.Regex.undecided_by_stop.Goals as goal
use Rattle.api_meta.proofs.regex.Regex.undecided_by_stop.Goals.{After-settled_before-behind}

-- the later of where the search begins and a place up to the settled one, if the match that was
-- found doesn't begin before it
later_told : (g : _) (c : After-settled_before-behind g) → (p : ℕ) → p ≤ c.settled_before-behind.result → IfSome c.args.found (λ m. p ≤ m.start) →
    (k : ℕ) → k ≡ max c.low-from.result p → IsPartial (regex_kind c.args.self.now) (S c.args.self.now c.args.input.now) (from_place k)
later_told g c p near before k is =
    let r = c.args.self.now in
    let i = c.args.input.now in
    let behind = c.settled_before-behind in
    subst (λ n. IsPartial (regex_kind r) (S r i) (from_place n)) (sym is)
    (later_from (regex_kind r) (S r i) c.low-from.result p (from_there r i c.low-from.result c.low-from.ensures)
    (from_settled (sought r) (regex_kind r) i behind.result behind.ensures.settled c.args.found c.requires.answer p near before))

pub returns-in-Some-clause-told : goal.returns-in-Some-clause-told
returns-in-Some-clause-told g c =
    later_told g (goal.at.returns-in-Some-clause-told g c).After-settled_before-behind c.min.result (omega (arith, c.min.ensures))
    (subst (λ o. IfSome o (λ (m : Found). c.min.result ≤ m.start)) (sym c.in-Some.is) (omega (arith, c.min.ensures, c.start.ensures.value)))
    c.max.result c.max.ensures

pub returns-in-None-clause-told : goal.returns-in-None-clause-told
returns-in-None-clause-told g c =
    let behind = c.settled_before-behind in
    later_told g (goal.at.returns-in-None-clause-told g c).After-settled_before-behind behind.result (omega arith)
    (subst (λ o. IfSome o (λ (m : Found). behind.result ≤ m.start)) (sym c.in-None.is) tt) c.max-in-None.result c.max-in-None.ensures
