use Rattle.std.proofs.Common.{rules, [], ◌∷◌, ◌++◌, ◌≡◌, ◌∙◌, true, None, ap, append_assoc, arith, sym}
use Rattle.std.specs.List.{filter, last_or}
use Rattle.std.proofs.lemmas.Bool.{le-ltb, lt-ltb}
use Rattle.api_meta.specs.Left.{find_left}
use Rattle.gap_buffer.specs.Shown.{begins_before}
use Rattle.gap_buffer.proofs.Ordered.{last_push, one_more, passed}
use Rattle.gap_buffer.proofs.search.last_of.Goals as goal

-- one more begins before the caret
pub loop-found-preserved : goal.loop-found-preserved
loop-found-preserved c =
    let done = c.loop-found.yielded in
    let m = c.in-Some.found in
    let p = begins_before c.args.at in
    let before : p m ≡ true = lt-ltb m.start c.args.at (omega (arith, c.start.ensures.value, c.if-start-at.false)) in
    record {
      left = c.loop-found.invariant.left ∙ ap (λ ms. done ++ ms) c.in-Some.ensures.steps.0 ∙ sym (append_assoc done (m ∷ []) (find_left c.next.new.self.now));
      last = sym (ap (last_or None) (one_more p done m before) ∙ last_push None (filter p done) m);
    }

-- this one doesn't, nor do those after it
pub returns-then-start-at : goal.returns-then-start-at
returns-then-start-at c hi order =
    let all = find_left c.args.matches.now in
    let done = c.loop-found.yielded in
    let m = c.in-Some.found in
    let at = c.args.at in
    let begun : find_left c.into_iter-found-iterator.result.now ≡ all = search rules in
    let split : all ≡ done ++ m ∷ find_left c.next.new.self.now =
    sym begun ∙ c.loop-found.invariant.left ∙ ap (λ ms. done ++ ms) c.in-Some.ensures.steps.0 in
    let same = passed (begins_before at) at hi (λ n. le-ltb n.start at) all done (find_left c.next.new.self.now) m order split (omega (arith, c.start.ensures.value, c.if-start-at.true)) in
    c.loop-found.invariant.last ∙ ap (last_or None) same
