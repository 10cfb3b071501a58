use Rattle.std.proofs.Common.{◌≤◌, ◌∙◌, arith, length, subst, sym}
use Rattle.rc_program.specs.Kinds.{answer_by}
use Rattle.rc_program.specs.Sought.{search_for}
use Rattle.rc_dfa_search.proofs.ToldLemmas.{kept_then}
use Rattle.api_meta.specs.Views.{regex_kind, regex_patterns, sought}
use Rattle.api_meta.proofs.Cached.{stays_for}
use Rattle.api_meta.proofs.Partials.{far_kept, is_final, later_on}
use Rattle.api_meta.proofs.Reaching.{below, settled_answer}
use Rattle.api_meta.proofs.regex.Regex.partial_by_reach.Goals as goal

pub undecided_from-requires-clause-made : goal.undecided_from-requires-clause-made
undecided_from-requires-clause-made g c =
    let reached = c.find_settled-reached in
    stays_for c.args.self.now c.args.cache.now.inner reached.new.cache c.requires.made reached.ensures.cache

pub returns-in_default-clause-far : goal.returns-in_default-clause-far
returns-in_default-clause-far g c =
    let r = c.args.self.now in
    let i = c.args.input.now in
    let reached = c.find_settled-reached in
    let from = c.undecided_from in
    later_on (regex_kind r) (regex_patterns r) i reached.new.input reached.result.found (answer_by (regex_kind r) (search_for (sought r) i)) from.result from.result
    reached.ensures.keeps (sym (settled_answer r i reached.result reached.ensures.settled)) (omega arith) from.ensures.far

pub returns-then-has_bytes-clause-cache : goal.returns-then-has_bytes-clause-cache
returns-then-has_bytes-clause-cache g c =
    let reached = c.find_settled-reached in
    stays_for c.args.self.now c.args.cache.now.inner reached.new.cache c.requires.made reached.ensures.cache

pub returns-then-has_bytes-clause-told : goal.returns-then-has_bytes-clause-told
returns-then-has_bytes-clause-told g c =
    let r = c.args.self.now in
    let i = c.args.input.now in
    let reached = c.find_settled-reached in
    let o = reached.result in
    let answer = settled_answer r i o reached.ensures.settled in
    is_final (regex_kind r) (search_for (sought r) i) o.found c.in-Some.found o.reach (sym answer) c.in-Some.is
    (λ t within agrees. below r i o reached.ensures.settled t within agrees ∙ sym answer)
    (subst (λ bytes. o.reach ≤ length bytes) reached.ensures.keeps.content (c.has_bytes.ensures.has c.if-has_bytes.true))

pub partial_by_lengths-requires-clause-made : goal.partial_by_lengths-requires-clause-made
partial_by_lengths-requires-clause-made g c =
    let reached = c.find_settled-reached in
    stays_for c.args.self.now c.args.cache.now.inner reached.new.cache c.requires.made reached.ensures.cache

pub returns-clause-far : goal.returns-clause-far
returns-clause-far g c =
    let i = c.args.input.now in
    let reached = c.find_settled-reached in
    let here = c.has_bytes in
    far_kept c.args.self.now i here.new.input (kept_then i reached.new.input here.new.input reached.ensures.keeps here.ensures.keeps)
    c.partial_by_lengths.result c.partial_by_lengths.ensures.far
