use Rattle.std.proofs.Common.{◌≤◌, arith, length, refl, subst}
use Rattle.rc_program.specs.Kinds.{answer_by}
use Rattle.rc_program.specs.Sought.{search_for}
use Rattle.rc_reach.proofs.LawLemmas.{reach_law}
use Rattle.rc_dfa_search.proofs.ToldLemmas.{kept_then}
use Rattle.api_meta.specs.Views.{regex_kind, regex_patterns, sought}
use Rattle.api_meta.proofs.Partials.{is_final, later_on}
use Rattle.api_meta.proofs.regex.Regex.partial_by_lengths.Goals as goal

pub returns-in-Some-true-clause-told : goal.returns-in-Some-true-clause-told
returns-in-Some-true-clause-told g c =
    let r = c.args.self.now in
    let s = search_for (sought r) c.args.input.now in
    let reach = c.reach_of-reach in
    is_final (regex_kind r) s c.args.settled.found c.in-Some-true.found reach.result c.requires.answer c.in-Some-true.is-0
    (reach_law.match (regex_kind r) s reach.result reach.ensures.settled.settled)
    (subst (λ bytes. reach.result ≤ length bytes) reach.ensures.keeps.content (c.in-Some-true.ensures.has refl))

pub returns-clause-far : goal.returns-clause-far
returns-clause-far g c =
    let r = c.args.self.now in
    let i = c.args.input.now in
    let reach = c.reach_of-reach in
    let here = c.has_bytes-are_here in
    let from = c.undecided_from in
    later_on (regex_kind r) (regex_patterns r) i here.new.input c.args.settled.found (answer_by (regex_kind r) (search_for (sought r) i)) from.result from.result
    (kept_then i reach.new.input here.new.input reach.ensures.keeps here.ensures.keeps) c.requires.answer (omega arith) from.ensures.far
