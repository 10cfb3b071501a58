use Rattle.std.proofs.Common.{◌∙◌, ap}
use Rattle.rc_captures.specs.Captures.{match_of}
use Rattle.rc_pikevm_search.proofs.Steps.{answer_lies}
use Rattle.rc_program.specs.Kinds.{answer_by}
use Rattle.rc_program.specs.Sought.{search_for}
use Rattle.rc_text.specs.declared.types.MatchKind.TheVariants.{LeftmostFirst as leftmost_first}
use Rattle.api_meta.specs.Views.{regex_kind, regex_names, sought}
use Rattle.rc_build.proofs.Fitted.{told_same}
use Rattle.api_meta.proofs.Cached.{keeps_room, stays_for}
use Rattle.api_meta.proofs.Going.{match_made, told_as}
use Rattle.rc_build.proofs.Matched.{still_for}
use Rattle.api_meta.proofs.Preferred.{holds_groups}
use Rattle.api_meta.proofs.regex.Regex.search_captures_with.Goals as goal

pub returns-clause-told_by : goal.returns-clause-told_by
returns-clause-told_by g c = told_same c.args.self.now.fits c.args.input.now c.find_captures.new.caps c.find_captures.ensures.found

pub returns-clause-found : goal.returns-clause-found
returns-clause-found g c kind = told_as c.args.self.now c.args.input.now c.find_captures.new.caps leftmost_first kind c.find_captures.ensures.found

pub returns-clause-matched_by : goal.returns-clause-matched_by
returns-clause-matched_by g c =
    match_made c.args.self.now c.args.input.now c.find_captures.new.caps
    (still_for (regex_names c.args.self.now) c.args.caps.now c.find_captures.new.caps c.requires.for_regex c.find_captures.ensures.names c.find_captures.ensures.long)
    c.find_captures.ensures.found

pub returns-clause-matched : goal.returns-clause-matched
returns-clause-matched g c kind =
    returns-clause-matched_by g c ∙ ap (λ k. answer_by k (search_for (sought c.args.self.now) c.args.input.now)) kind

pub returns-clause-within : goal.returns-clause-within
returns-clause-within g c =
    answer_lies (regex_kind c.args.self.now) (search_for (sought c.args.self.now) c.args.input.now) (match_of c.find_captures.new.caps) (returns-clause-matched_by g c)

pub returns-clause-preferred : goal.returns-clause-preferred
returns-clause-preferred g c kind plain =
    holds_groups c.args.self.now c.args.input.now kind plain c.find_captures.new.caps
    (still_for (regex_names c.args.self.now) c.args.caps.now c.find_captures.new.caps c.requires.for_regex c.find_captures.ensures.names c.find_captures.ensures.long).named
    (returns-clause-told_by g c) (returns-clause-matched_by g c)

pub returns-clause-cache : goal.returns-clause-cache
returns-clause-cache g c =
    stays_for c.args.self.now c.args.cache.now.inner c.find_captures.new.cache c.requires.made c.find_captures.ensures.cache

pub returns-clause-room : goal.returns-clause-room
returns-clause-room g c = keeps_room c.args.self.now c.args.cache.now.inner c.find_captures.new.cache c.find_captures.ensures.cache
