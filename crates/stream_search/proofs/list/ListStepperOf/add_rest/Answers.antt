use Rattle.std.proofs.Common.{◌≡◌, ◌∙◌, Some, ap, arith, refl, subst, sym}
use Rattle.rc_program.specs.Matches.{begin_of, end_of, next_match}
use Rattle.rc_reach.specs.Live.{EndedBy}
use Rattle.api_meta.specs.Views.{regex_kind}
use Rattle.stream_search.specs.Listing.{Listing}
use Rattle.stream_search.specs.Searches.{seeks}
use Rattle.stream_search.specs.Stepping.{found_from}
use Rattle.stream_search.proofs.Along.{none_comes}
use Rattle.stream_search.proofs.Kept.{none_past}
use Rattle.stream_search.proofs.Listed.{adds_along}
use Rattle.stream_search.proofs.Nexts.{none_taken}
use Rattle.stream_search.proofs.list.ListStepperOf.add_rest.Goals as goal

pub returns-then-self-total-clause-none : goal.returns-then-self-total-clause-none
returns-then-self-total-clause-none g c =
    let s = c.args.self.now in
    let content = g.C.Cursor.content c.args.cursor in
    let from = ap (λ (x : Listing). x.from) c.self.view_is in
    let total = c.in-Some.ensures.total in
    let past = c.if-self-total.true in
    none_taken (regex_kind s.regex) (seeks s.regex) content s.from s.last
    (none_past (regex_kind s.regex) (seeks s.regex) content s.from (omega (arith, from, total, past)))

pub returns-in_err-push_before-clause-adds : goal.returns-in_err-push_before-clause-adds
returns-in_err-push_before-clause-adds g c =
    let s = c.args.self.now in
    let i = c.input_from-input.result in
    let p = c.in_err-push_before.ensures in
    adds_along s c.push_before.new.self (g.C.Cursor.content c.args.cursor) (found_from s.regex i.content) 18446744073709551615
    (λ k last m ended e early. subst (λ x. next_match begin_of end_of (found_from s.regex x) k last ≡ Some m) c.input_from-input.ensures.content e)
    (subst (λ (x : Listing). EndedBy x.last x.from) c.self.view_is c.self.invariant) p.stays c.args.matches.now.items c.push_before.new.matches.items p.adds

pub returns-clause-adds : goal.returns-clause-adds
returns-clause-adds g c =
    let s = c.args.self.now in
    let i = c.input_from-input.result in
    let p = c.in_ok-push_before.ensures in
    adds_along s c.push_before.new.self (g.C.Cursor.content c.args.cursor) (found_from s.regex i.content) 18446744073709551615
    (λ k last m ended e early. subst (λ x. next_match begin_of end_of (found_from s.regex x) k last ≡ Some m) c.input_from-input.ensures.content e)
    (subst (λ (x : Listing). EndedBy x.last x.from) c.self.view_is c.self.invariant) p.stays c.args.matches.now.items c.push_before.new.matches.items p.adds

pub returns-clause-none : goal.returns-clause-none
returns-clause-none g c =
    let s = c.args.self.now in
    let t = c.push_before.new.self in
    let i = c.input_from-input.result in
    let p = c.in_ok-push_before.ensures in
    let fits = c.content_fits.ensures in
    let none = none_comes (regex_kind s.regex) (seeks s.regex) i.content 18446744073709551615 (omega (arith, fits)) t.from t.last _ refl p.behind.far in
    ap (λ r. next_match begin_of end_of (found_from r (g.C.Cursor.content c.args.cursor)) t.from t.last) (ap (λ (x : Listing). x.regex) p.stays)
    ∙ ap (λ x. next_match begin_of end_of (found_from s.regex x) t.from t.last) (sym c.input_from-input.ensures.content) ∙ none
