use Rattle.std.proofs.Common.{◌<◌, length, sym, subst, arith, rules}
use Rattle.rc_dfa_search.proofs.ChoiceLemmas.{IsChoice, Parts, first_choice, parts, place_within, place_there, other_place, later_choice, all_left}
use Rattle.rc_dfa_search.proofs.build.entries_of.Given.{Over}
use Rattle.rc_dfa_search.proofs.build.entries_of.Goals as goal
use Rattle.rc_dfa_search.proofs.build.entries_of.Goals.{In-choices}

parts_there : (g : Over) (c : In-choices g) → Parts g.hs c.choices._pattern c.choices.choice c.choices.entries.items
parts_there g c =
    parts g.hs c.choices._pattern c.choices.choice c.choices.entries.items (omega (arith, c.choices-test.true, c.requires.1)) c.choices.invariant

is_within : (g : Over) (c : In-choices g) → c.choices.choice < length c.args.program.now
is_within g c = place_within g.hs c.args.program.now c.choices._pattern c.choices.choice c.choices.entries.items c.requires.0 (parts_there g c)

pub choices-init : goal.choices-init
choices-init g c = subst (λ es. IsChoice g.hs g.hs 0 es) (sym c.new-entries.ensures.items) (first_choice g.hs)

pub offset_bounds-program-choice : goal.offset_bounds-program-choice
offset_bounds-program-choice g c =
    let within : c.choices.choice < length c.args.program.now = is_within g (goal.at.offset_bounds-program-choice g c).In-choices in search rules

pub bounds-program-choice : goal.bounds-program-choice
bounds-program-choice g c = is_within g (goal.at.bounds-program-choice g c).In-choices

pub returns-in_default : goal.returns-in_default
returns-in_default g c =
    let p = parts_there g (goal.at.returns-in_default g c).In-choices in
    absurd (other_place c.index-program-choice.result p.first p.next c.in_default.not-Choice
    (place_there g.hs c.args.program.now c.choices._pattern c.choices.choice c.choices.entries.items c.index-program-choice.result c.requires.0 p c.index-program-choice.is))

pub choices-preserved : goal.choices-preserved
choices-preserved g c =
    let p = parts_there g (goal.at.choices-preserved g c).In-choices in
    later_choice g.hs c.choices._pattern c.choices.choice c.choices.entries.items c.push.new.self.items c.index-program-choice.result c.in-Choice.entry c.in-Choice.next p
    c.in-Choice.is
    (place_there g.hs c.args.program.now c.choices._pattern c.choices.choice c.choices.entries.items c.index-program-choice.result c.requires.0 p c.index-program-choice.is)
    c.in_ok-push.ensures.items

pub returns : goal.returns
returns g c = all_left g.hs c.choices._pattern c.choices.choice c.choices.entries.items (omega (arith, c.choices-test.false, c.requires.1)) c.choices.invariant
