use Rattle.std.proofs.Common.{◌≡◌, ℕ, ◌+◌, ◌-◌, Bool, List, Option, Some, None, IfSome, sym, subst, refl}
use Rattle.std.specs.Option.{option_map}
use Rattle.rc_text.specs.Found.{Found}
use Rattle.rc_text.specs.Text.{high, low}
use Rattle.rc_pattern.specs.Re.{Re}
use Rattle.rc_program.specs.Kinds.{IsAnswerWhere}
use Rattle.rc_dfa.specs.declared.ended.Met.{Met}
use Rattle.rc_dfa_search.specs.Aims.{AreHalvesOf, is_early, search_for, search_from, cost}
use Rattle.rc_dfa_search.specs.Ends.{IsEnd, cost_forwards, match_by}
use Rattle.rc_dfa_search.specs.Faults.{IsFault}
use Rattle.rc_dfa_search.proofs.CostLemmas.{refused, cost_of_forwards, cost_of_both}
use Rattle.rc_dfa_search.proofs.PatternLemmas.{answer_below, has_number}
use Rattle.rc_dfa_search.proofs.ToldLemmas.{kept_from, kept_search, weaker_fault}
use Rattle.rc_dfa_search.proofs.search.find_between.Given.{Over}
use Rattle.rc_dfa_search.proofs.search.find_between.Goals as goal
use Rattle.rc_dfa_search.proofs.search.find_between.Goals.{After-seek_start, In_ok-start}

spent : (g : Over) (c : After-seek_start g) → g.H.Halves.Spends c.args.halves.now c.args.cache.now c.seek_start.new.cache (cost c.args.input.now)
spent g c =
    let b = c.seek_end.new.input in
    let n : ℕ = cost_forwards c.args.input.now in
    let k : ℕ = high b - low b + 2 in
    g.met.H.Halves.spends_within c.args.halves.now c.args.cache.now c.seek_start.new.cache (n + k) (cost c.args.input.now)
    (cost_of_both c.args.input.now b c.seek_end.ensures.keeps)
    (g.met.H.Halves.spends_both c.args.halves.now c.args.cache.now c.seek_end.new.cache c.seek_start.new.cache n k c.seek_end.ensures.spends c.seek_start.ensures.spends)

-- what was found from the end on is found by the search
found_so : (g : Over) (c : In_ok-start g) (hs : List Re) (terminator : ℕ) → AreHalvesOf (g.H.Halves.AreOf c.args.halves.now) c.args.aim hs terminator → (o : Option Met) →
    c.in_ok-start.field-0 ≡ o →
    IsAnswerWhere (is_early c.args.aim) c.args.aim.kind (search_from c.args.aim hs terminator c.args.input.now c.args.bounds.low) (option_map (match_by c.in-Some.end) o)
found_so g c hs terminator of o is =
    let s = c.args.input.now in
    let b = c.seek_end.new.input in
    let keeps = c.seek_end.ensures.keeps in
    let lo = c.args.bounds.low in
    let same = kept_from c.args.aim hs terminator s b lo keeps in
    let h = subst (λ x. IfSome x (IsEnd hs c.args.aim.kind (is_early c.args.aim) of.ahead of.back s.anchored (search_from c.args.aim hs terminator s lo))) c.in-Some.is
    (c.in_ok-end.ensures.some hs terminator of) in
    let there = subst (λ a. IsEnd hs c.args.aim.kind (is_early c.args.aim) of.ahead of.back a (search_from c.args.aim hs terminator b lo) c.in-Some.end) (sym keeps.anchored)
    (subst (λ x. IsEnd hs c.args.aim.kind (is_early c.args.aim) of.ahead of.back s.anchored x c.in-Some.end) (sym same) h) in
    subst (λ x. IsAnswerWhere (is_early c.args.aim) c.args.aim.kind x (option_map (match_by c.in-Some.end) o)) same
    (subst (λ x. IsAnswerWhere (is_early c.args.aim) c.args.aim.kind (search_from c.args.aim hs terminator b lo) (option_map (match_by c.in-Some.end) x)) is
    (c.in_ok-start.ensures.found hs terminator lo of there))

pub returns-in_err-end-clause-fault : goal.returns-in_err-end-clause-fault
returns-in_err-end-clause-fault g c hs terminator of =
    let s = search_for c.args.aim hs terminator c.args.input.now in
    let Gives : ℕ → Bool → Type 0 = g.H.Halves.GivesUp c.args.halves.now c.args.cache.now c.seek_end.new.cache in
    let n : ℕ = cost_forwards c.args.input.now in
    let k : ℕ = cost c.args.input.now in
    refused c.from_residual.result c.in_err-end.field-0.0 c.from_residual.ensures.1 (IsFault hs s (Gives k))
    (weaker_fault hs s (Gives n) (Gives k)
    (λ memory. g.met.H.Halves.gives_up_within c.args.halves.now c.args.cache.now c.seek_end.new.cache n k memory (cost_of_forwards c.args.input.now))
    c.in_err-end.field-0.0 (c.in_err-end.ensures.fault hs terminator of))

pub returns-in_err-start-clause-fault : goal.returns-in_err-start-clause-fault
returns-in_err-start-clause-fault g c hs terminator of =
    let s = search_for c.args.aim hs terminator c.args.input.now in
    let b = c.seek_end.new.input in
    let n : ℕ = cost_forwards c.args.input.now in
    let k : ℕ = high b - low b + 2 in
    let all : ℕ = cost c.args.input.now in
    let Gives : Bool → Type 0 = g.H.Halves.GivesUp c.args.halves.now c.args.cache.now c.seek_start.new.cache all in
    let Once : Bool → Type 0 = g.H.Halves.GivesUp c.args.halves.now c.seek_end.new.cache c.seek_start.new.cache k in
    let later : (memory : Bool) → Once memory → Gives memory =
    λ memory once. g.met.H.Halves.gives_up_within c.args.halves.now c.args.cache.now c.seek_start.new.cache (n + k) all memory
    (cost_of_both c.args.input.now b c.seek_end.ensures.keeps)
    (g.met.H.Halves.gives_up_later c.args.halves.now c.args.cache.now c.seek_end.new.cache c.seek_start.new.cache n k memory c.seek_end.ensures.spends once) in
    refused c.from_residual-in_err-start.result c.in_err-start.field-0.0 c.from_residual-in_err-start.ensures.1 (IsFault hs s Gives)
    (weaker_fault hs s Once Gives later c.in_err-start.field-0.0
    (subst (λ x. IsFault hs x Once c.in_err-start.field-0.0) (kept_search c.args.aim hs terminator c.args.input.now b c.seek_end.ensures.keeps)
    (c.in_err-start.ensures.fault hs terminator of)))

pub returns-in_err-start-clause-spends : goal.returns-in_err-start-clause-spends
returns-in_err-start-clause-spends g c = spent g (goal.at.returns-in_err-start-clause-spends g c).After-seek_start

pub returns-in_default-2-clause-spends : goal.returns-in_default-2-clause-spends
returns-in_default-2-clause-spends g c = spent g (goal.at.returns-in_default-2-clause-spends g c).After-seek_start

pub returns-in_err-found-clause-spends : goal.returns-in_err-found-clause-spends
returns-in_err-found-clause-spends g c = spent g (goal.at.returns-in_err-found-clause-spends g c).After-seek_start

pub returns-clause-spends : goal.returns-clause-spends
returns-clause-spends g c = spent g (goal.at.returns-clause-spends g c).After-seek_start

pub returns-in_err-found-clause-fault : goal.returns-in_err-found-clause-fault
returns-in_err-found-clause-fault g c hs terminator of =
    let k = (goal.at.returns-in_err-found-clause-fault g c).In_ok-start in
    let start = c.in-Some-2.start in
    absurd (has_number hs start.pattern of.few c.in_err-found.ensures.refused
    (answer_below hs (is_early c.args.aim) c.args.aim.kind (search_from c.args.aim hs terminator c.args.input.now c.args.bounds.low) (match_by c.in-Some.end start) refl
    (found_so g k hs terminator of (Some start) c.in-Some-2.is)))

pub returns-in_default-2-clause-found : goal.returns-in_default-2-clause-found
returns-in_default-2-clause-found g c hs terminator of =
    found_so g (goal.at.returns-in_default-2-clause-found g c).In_ok-start hs terminator of None c.in_default-2.is

pub returns-clause-found : goal.returns-clause-found
returns-clause-found g c hs terminator of =
    let s = search_from c.args.aim hs terminator c.args.input.now c.args.bounds.low in
    subst (λ (m : Found). IsAnswerWhere (is_early c.args.aim) c.args.aim.kind s (Some m)) (sym c.in_ok-found.ensures.found)
    (found_so g (goal.at.returns-clause-found g c).In_ok-start hs terminator of (Some c.in-Some-2.start) c.in-Some-2.is)
