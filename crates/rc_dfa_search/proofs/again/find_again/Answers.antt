use Rattle.std.proofs.Common.{◌≡◌, ◌+◌, ◌-◌, ℕ, List, Option, Some, None, IfSome, arith, inr, refl, subst, sym}
use Rattle.std.specs.Option.{option_map}
use Rattle.rc_text.specs.Found.{Found}
use Rattle.rc_text.specs.Text.{high, low}
use Rattle.rc_pattern.specs.Re.{Re}
use Rattle.rc_program.specs.Kinds.{IsAnswerWhere}
use Rattle.rc_dfa.specs.declared.ended.Met.{Met}
use Rattle.rc_dfa_search.specs.Aims.{AreHalvesOf, is_early, search_from}
use Rattle.rc_dfa_search.specs.Ends.{IsEnd, match_by}
use Rattle.rc_dfa_search.specs.Memos.{MemosLast}
use Rattle.rc_dfa_search.proofs.SeekLemmas.{void_answer, stands_first}
use Rattle.rc_dfa_search.proofs.ToldLemmas.{asks_none, asks_so, case_from, kept_from}
use Rattle.rc_dfa_search.proofs.again.find_again.Given.{Over}
use Rattle.rc_dfa_search.proofs.again.find_again.Goals as goal
use Rattle.rc_dfa_search.proofs.again.find_again.Goals.{After-seek_start, In_ok-start}

pub returns-then-not-asks-clause-found : goal.returns-then-not-asks-clause-found
returns-then-not-asks-clause-found g c hs terminator of =
    void_answer hs c.args.aim.patterns c.args.aim.kind (is_early c.args.aim) c.args.input.now.anchored
    (search_from c.args.aim hs terminator c.args.input.now c.args.bounds.low) refl refl of.counted
    (inr (asks_none c.args.aim.patterns c.args.input.now.anchored c.get_anchored.result c.asks.result c.asks.ensures c.get_anchored.ensures c.if-not-asks.true))

pub seek_along-requires-clause-stands : goal.seek_along-requires-clause-stands
seek_along-requires-clause-stands g c hs terminator of =
    stands_first hs c.args.aim.kind (is_early c.args.aim) of.ahead of.back c.args.input.now.anchored
    (search_from c.args.aim hs terminator c.args.input.now c.args.bounds.low)
    (case_from (g.H.Halves.AreOf c.args.halves.now) c.args.aim hs terminator c.args.input.now of c.args.bounds.low c.requires.low
    (omega (arith, c.requires.ordered, c.requires.high))
    (asks_so c.args.aim.patterns c.args.input.now.anchored c.get_anchored.result c.asks.result c.asks.ensures c.get_anchored.ensures c.if-not-asks.false))

pub seek_along-requires-clause-asked : goal.seek_along-requires-clause-asked
seek_along-requires-clause-asked g c =
    asks_so c.args.aim.patterns c.args.input.now.anchored c.get_anchored.result c.asks.result c.asks.ensures c.get_anchored.ensures c.if-not-asks.false

-- what was found from the end on is found by the search
found_so : (g : Over) (c : In_ok-start g) (hs : List Re) (terminator : ℕ) → AreHalvesOf (g.H.Halves.AreOf c.args.halves.now) c.args.aim hs terminator → (o : Option Met) →
    c.in_ok-start.field-0 ≡ o →
    IsAnswerWhere (is_early c.args.aim) c.args.aim.kind (search_from c.args.aim hs terminator c.args.input.now c.args.bounds.low) (option_map (match_by c.in-Some.end) o)
found_so g c hs terminator of o is =
    let s = c.args.input.now in
    let b = c.seek_along.new.input in
    let keeps = c.seek_along.ensures.keeps in
    let lo = c.args.bounds.low in
    let same = kept_from c.args.aim hs terminator s b lo keeps in
    let h = subst (λ x. IfSome x (IsEnd hs c.args.aim.kind (is_early c.args.aim) of.ahead of.back s.anchored (search_from c.args.aim hs terminator s lo))) c.in-Some.is
    (c.in_ok-end.ensures.some hs terminator of) in
    let there = subst (λ a. IsEnd hs c.args.aim.kind (is_early c.args.aim) of.ahead of.back a (search_from c.args.aim hs terminator b lo) c.in-Some.end) (sym keeps.anchored)
    (subst (λ x. IsEnd hs c.args.aim.kind (is_early c.args.aim) of.ahead of.back s.anchored x c.in-Some.end) (sym same) h) in
    subst (λ x. IsAnswerWhere (is_early c.args.aim) c.args.aim.kind x (option_map (match_by c.in-Some.end) o)) same
    (subst (λ x. IsAnswerWhere (is_early c.args.aim) c.args.aim.kind (search_from c.args.aim hs terminator b lo) (option_map (match_by c.in-Some.end) x)) is
    (c.in_ok-start.ensures.found hs terminator lo of there))

pub returns-in_default-2-clause-found : goal.returns-in_default-2-clause-found
returns-in_default-2-clause-found g c hs terminator of =
    found_so g (goal.at.returns-in_default-2-clause-found g c).In_ok-start hs terminator of None c.in_default-2.is

pub returns-clause-found : goal.returns-clause-found
returns-clause-found g c hs terminator of =
    let s = search_from c.args.aim hs terminator c.args.input.now c.args.bounds.low in
    subst (λ (m : Found). IsAnswerWhere (is_early c.args.aim) c.args.aim.kind s (Some m)) (sym c.in_ok-found.ensures.found)
    (found_so g (goal.at.returns-clause-found g c).In_ok-start hs terminator of (Some c.in-Some-2.start) c.in-Some-2.is)

-- a run backwards leaves the memo true
still : (g : Over) (c : After-seek_start g) →
    MemosLast (g.H.Halves.IsCache c.args.halves.now) (g.H.Halves.Spends c.args.halves.now) (g.H.Halves.IsMemo c.args.halves.now) →
    g.H.Halves.IsMemo c.args.halves.now c.seek_start.new.cache c.seek_start.new.input c.args.bounds.high (is_early c.args.aim) c.seek_along.new.memo
still g c lasts =
    let b = c.seek_along.new.input in
    g.met.H.Halves.memo_kept c.args.halves.now c.seek_start.new.cache b c.seek_start.new.input c.args.bounds.high (is_early c.args.aim) c.seek_along.new.memo
    c.seek_start.ensures.keeps
    (lasts c.seek_along.new.cache c.seek_start.new.cache (high b - low b + 2) b c.args.bounds.high (is_early c.args.aim) c.seek_along.new.memo
    c.seek_along.ensures.cache c.seek_start.ensures.spends c.seek_along.ensures.memo)

pub returns-in_err-start-clause-memo : goal.returns-in_err-start-clause-memo
returns-in_err-start-clause-memo g c lasts = still g (goal.at.returns-in_err-start-clause-memo g c).After-seek_start lasts

pub returns-in_default-2-clause-memo : goal.returns-in_default-2-clause-memo
returns-in_default-2-clause-memo g c lasts = still g (goal.at.returns-in_default-2-clause-memo g c).After-seek_start lasts

pub returns-in_err-found-clause-memo : goal.returns-in_err-found-clause-memo
returns-in_err-found-clause-memo g c lasts = still g (goal.at.returns-in_err-found-clause-memo g c).After-seek_start lasts

pub returns-clause-memo : goal.returns-clause-memo
returns-clause-memo g c lasts = still g (goal.at.returns-clause-memo g c).After-seek_start lasts
