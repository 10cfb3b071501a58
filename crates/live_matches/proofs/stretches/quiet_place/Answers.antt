use Rattle.std.proofs.Common.{length, subst, sym, arith}
use Rattle.rc_program.specs.Matches.{from_on}
use Rattle.rc_reach.specs.Live.{over_content}
use Rattle.rc_reach.specs.Partial.{IsPartial}
use Rattle.api_meta.specs.Partials.{partial_of}
use Rattle.api_meta.specs.Views.{regex_kind, sought}
use Rattle.live_matches.specs.Live.{seeks}
use Rattle.live_matches.specs.Stretches.{IsQuiet}
use Rattle.live_matches.proofs.Searches.{told_from}
use Rattle.live_matches.proofs.Stretched.{final_lies, quiet_final, quiet_from, quiet_less}
use Rattle.live_matches.proofs.stretches.quiet_place.Goals as goal

pub returns-in-From-clause-quiet : goal.returns-in-From-clause-quiet
returns-in-From-clause-quiet c =
    let r = c.args.regex.now in
    let set = c.set_start.ensures in
    let told = told_from (regex_kind r) (sought r) c.whole_input-input.result c.set_start.new.self c.args.bytes.now c.args.at (partial_of c.search_partial_with.result)
    c.whole_input-input.ensures.whole.over c.whole_input-input.ensures.content c.content_fits.ensures set.keeps set.start set.end set.slice
    c.search_partial_with.ensures.told in
    quiet_less (regex_kind r) (seeks r) c.args.bytes.now (length c.args.bytes.now) c.args.at c.in-From.place c.min.result (omega (arith, c.min.ensures))
    (quiet_from (regex_kind r) (seeks r) c.args.bytes.now c.args.at c.in-From.place
    (subst (λ o. IsPartial (regex_kind r) (from_on (over_content (seeks r) c.args.bytes.now) c.args.at) (partial_of o)) c.in-From.is told))

pub returns-in-Final-clause-quiet : goal.returns-in-Final-clause-quiet
returns-in-Final-clause-quiet c =
    let r = c.args.regex.now in
    let set = c.set_start.ensures in
    let told = told_from (regex_kind r) (sought r) c.whole_input-input.result c.set_start.new.self c.args.bytes.now c.args.at (partial_of c.search_partial_with.result)
    c.whole_input-input.ensures.whole.over c.whole_input-input.ensures.content c.content_fits.ensures set.keeps set.start set.end set.slice
    c.search_partial_with.ensures.told in
    let m = c.in-Final.found in
    let is = subst (λ o. IsPartial (regex_kind r) (from_on (over_content (seeks r) c.args.bytes.now) c.args.at) (partial_of o)) c.in-Final.is told in
    subst (IsQuiet (regex_kind r) (seeks r) c.args.bytes.now (length c.args.bytes.now) c.args.at) (sym c.start.ensures.value)
    (quiet_final (regex_kind r) (seeks r) c.args.bytes.now c.args.at m is)

pub returns-in-Final-clause-order : goal.returns-in-Final-clause-order
returns-in-Final-clause-order c =
    let r = c.args.regex.now in
    let set = c.set_start.ensures in
    let told = told_from (regex_kind r) (sought r) c.whole_input-input.result c.set_start.new.self c.args.bytes.now c.args.at (partial_of c.search_partial_with.result)
    c.whole_input-input.ensures.whole.over c.whole_input-input.ensures.content c.content_fits.ensures set.keeps set.start set.end set.slice
    c.search_partial_with.ensures.told in
    let m = c.in-Final.found in
    let is = subst (λ o. IsPartial (regex_kind r) (from_on (over_content (seeks r) c.args.bytes.now) c.args.at) (partial_of o)) c.in-Final.is told in
    let h = final_lies (regex_kind r) (seeks r) c.args.bytes.now c.args.at m is in
    omega (arith, h.0, c.start.ensures.value)

pub returns-in-Final-clause-within : goal.returns-in-Final-clause-within
returns-in-Final-clause-within c =
    let r = c.args.regex.now in
    let set = c.set_start.ensures in
    let told = told_from (regex_kind r) (sought r) c.whole_input-input.result c.set_start.new.self c.args.bytes.now c.args.at (partial_of c.search_partial_with.result)
    c.whole_input-input.ensures.whole.over c.whole_input-input.ensures.content c.content_fits.ensures set.keeps set.start set.end set.slice
    c.search_partial_with.ensures.told in
    let m = c.in-Final.found in
    let is = subst (λ o. IsPartial (regex_kind r) (from_on (over_content (seeks r) c.args.bytes.now) c.args.at) (partial_of o)) c.in-Final.is told in
    let h = final_lies (regex_kind r) (seeks r) c.args.bytes.now c.args.at m is in
    omega (arith, h.1, c.start.ensures.value)
