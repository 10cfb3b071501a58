use Rattle.std.proofs.Common.{◌≤◌, ◌∙◌, arith, length, refl, subst, sym}
use Rattle.rc_program.specs.Kinds.{answer_by}
use Rattle.rc_program.specs.Sought.{search_for}
use Rattle.rc_dfa_search.proofs.ToldLemmas.{kept_then}
use Rattle.api_meta.specs.Views.{regex_kind, regex_patterns, sought}
use Rattle.api_meta.proofs.Cached.{stays_for}
use Rattle.api_meta.proofs.Partials.{is_final, later_on}
use Rattle.api_meta.proofs.Reaching.{below, settled_answer}
use Rattle.api_meta.proofs.regex.Regex.partial_by_needles.Goals as goal

pub returns-in_err-told-clause-cache : goal.returns-in_err-told-clause-cache
returns-in_err-told-clause-cache g c =
    stays_for c.args.self.now c.args.cache.now.inner c.tell_partly.new.cache c.requires.made c.tell_partly.ensures.cache

pub returns-in-Some-true-clause-cache : goal.returns-in-Some-true-clause-cache
returns-in-Some-true-clause-cache g c =
    stays_for c.args.self.now c.args.cache.now.inner c.tell_partly.new.cache c.requires.made c.tell_partly.ensures.cache

pub returns-in-Some-true-clause-told : goal.returns-in-Some-true-clause-told
returns-in-Some-true-clause-told g c =
    let r = c.args.self.now in
    let i = c.args.input.now in
    let o = c.in_ok-told.told.settled in
    let told = c.in_ok-told.ensures.settled in
    let answer = settled_answer r i o told in
    is_final (regex_kind r) (search_for (sought r) i) o.found c.in-Some-true.found o.reach (sym answer) c.in-Some-true.is-0
    (λ t within agrees. below r i o told t within agrees ∙ sym answer)
    (subst (λ bytes. o.reach ≤ length bytes) c.in_ok-told.ensures.keeps.content (c.in-Some-true.ensures.has refl))

pub returns-clause-cache : goal.returns-clause-cache
returns-clause-cache g c =
    stays_for c.args.self.now c.args.cache.now.inner c.tell_partly.new.cache c.requires.made c.tell_partly.ensures.cache

pub returns-clause-far : goal.returns-clause-far
returns-clause-far g c =
    let r = c.args.self.now in
    let i = c.args.input.now in
    let o = c.in_ok-told.told.settled in
    let tells = c.tell_partly in
    let here = c.has_bytes-are_here in
    let by = c.undecided_by_length-by_length in
    later_on (regex_kind r) (regex_patterns r) i here.new.input o.found (answer_by (regex_kind r) (search_for (sought r) i)) by.result c.max.result
    (kept_then i tells.new.input here.new.input tells.ensures.keeps here.ensures.keeps) (sym (settled_answer r i o c.in_ok-told.ensures.settled))
    (omega (arith, c.max.ensures)) by.ensures.far
