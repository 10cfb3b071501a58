use Rattle.std.proofs.Common.{◌≡◌, ◌+◌, ◌<◌, ◌≤◌, None, max, refl, ap, subst, arith}
use Rattle.std.specs.Prelude.{IfSome}
use Rattle.api_meta.specs.Views.{regex_kind}
use Rattle.rc_reach.specs.Live.{found_by}
use Rattle.live_matches.specs.Entry.{Entry}
use Rattle.live_matches.specs.Entries.{last_end}
use Rattle.live_matches.specs.Lists.{Meets, place_of}
use Rattle.live_matches.specs.Live.{seeks}
use Rattle.live_matches.proofs.Quiets.{begins_past, come_next, first_far, quiet_next}
use Rattle.live_matches.proofs.Spans.{near_all}
use Rattle.live_matches.proofs.quiet.is_met.Goals as goal

pub returns-clause-met : goal.returns-clause-met
returns-clause-met g c found =
    let r = c.args.regex.now in
    let n = c.args.longest in
    let q = c.in-Some.place in
    let content = c.args.input.now.content in
    let es = c.args.entries.now.after in
    let short = c.requires.short in
    let last = last_end None c.args.entries.now.before in
    let at = ap place_of c.last_end-last.ensures in
    let start : c.max-start.result ≡ max (place_of last) c.args.from = omega (arith, c.max-start.ensures, c.place_of.ensures, at) in
    let stop : c.saturating_add-stop.result ≡ q + n + 5 = omega (arith, c.saturating_add-stop.ensures, c.saturating_add.ensures, c.if-stop.false) in
    let none = subst (λ k. IfSome (found_by (regex_kind r) (seeks r) content k) (λ m. c.saturating_add-stop.result < m.start + n + 4)) start
    (c.finds_none_by.ensures.none found n short) in
    let quiet = begins_past (found_by (regex_kind r) (seeks r) content (max (place_of last) c.args.from)) c.saturating_add-stop.result q n stop none in
    let far = subst (λ o. IfSome o (λ (e : Entry). c.saturating_add-stop.result ≤ e.found.start)) c.get_after.ensures
    (c.begins_before.ensures c.if-begins_before.false) in
    come_next (regex_kind r) (seeks r) short.leftmost refl (n + 4) (near_all r n short) content last q es
    (omega (arith, c.if-start-place.false, start))
    (quiet_next (regex_kind r) (seeks r) short.leftmost refl (n + 4) (near_all r n short) content last c.args.from q c.requires.from.begins
    (omega (arith, c.if-start-place.false, start)) quiet)
    (first_far es c.saturating_add-stop.result (q + 1 + (n + 4)) (omega (arith, stop)) far)
    (subst (λ m. Meets (regex_kind r) (seeks r) content m es) c.in-Some.is c.requires.rest)
