use Rattle.std.proofs.Common.{rules, ◌≡◌, ◌∙◌, ◌+◌, ◌++◌, Ok, Err, Result, ℕ, List, length, ap, arith, refl, slice_range, subst}
use Rattle.std.specs.Io.KnownBytes.{Appends}
use Rattle.rc_text.specs.Found.{Found}
use Rattle.chunk_replace.specs.declared.error.ReplaceError.{ReplaceError}
use Rattle.rc_captures.specs.Captures.{match_of}
use Rattle.api_meta.specs.Left.{HoldsNext, captures_left}
use Rattle.regex_cursor.specs.Put.{AppendsBeginning}
use Rattle.regex_cursor.proofs.Puts.{err_puts}
use Rattle.chunk_replace.specs.Told.{told_parts}
use Rattle.chunk_replace.proofs.Rewriting.{going_begun, going_init, going_more, going_rest, going_stopped, holds_next, same_found}
use Rattle.chunk_replace.proofs.rewrite.put_replaced.Goals as goal

pub loop-item-init : goal.loop-item-init
loop-item-init g c = record {
  content = refl;
  going = going_init _ _ c.args.matches.now c.args.matches.now _ refl;
  count = omega arith;
  sound = c.requires.sound;
}

pub returns-in_default-item-clause-put : goal.returns-in_default-item-clause-put
returns-in_default-item-clause-put g c kind = going_stopped _ _ c.args.matches.now c.loop-item.matches _ _ _ c.loop-item.invariant.going kind

-- one match more
pub loop-item-preserved : goal.loop-item-preserved
loop-item-preserved g c =
    let s = c.loop-item.matches in
    let u = c.next.new.self in
    let h : HoldsNext s.seeker.seeker s.input c.in-Ok.caps u.seeker.seeker u.input = holds_next s u c.in-Some.item c.in-Ok.caps c.in-Ok.is c.in-Some.ensures.steps.0 in
    let m = same_found c.get_match.result (match_of c.in-Ok.caps) c.unwrap-found.result h.found c.get_match.ensures c.unwrap-found.ensures h.matched in
    let left : length (captures_left s) ≡ length (captures_left u) + 1 = omega (arith, ap (λ (l : List Found). length l) h.left) in
    record {
      content = c.in_ok-from.ensures.content ∙ c.loop-item.invariant.content;
      going =
          going_more (g.T.Cursor.content c.args.text.now) (g.T.Cursor.content c.loop-item.text) c.args.template.now.parts.items c.args.matches.now s u c.loop-item.from
          c.unwrap-found.result.start _ _ _ c.in-Ok.caps c.unwrap-found.result c.loop-item.invariant.going h m c.loop-item.invariant.content refl
          _ c.in_ok-from.ensures.end
          (subst (λ ps. Appends (g.W.Sink.taken c.loop-item.out) (g.W.Sink.taken c.put_match.new.out) (slice_range (g.T.Cursor.content c.loop-item.text) c.loop-item.from c.unwrap-found.result.start ++ told_parts (g.T.Cursor.content c.loop-item.text) c.in-Ok.caps ps))
          c.as_slice-parts.ensures.value c.in_ok-from.ensures.put);
      count = omega (arith, left, c.loop-item.invariant.count);
      sound = search rules;
    }

pub returns-in_err-from-clause-put : goal.returns-in_err-from-clause-put
returns-in_err-from-clause-put g c kind =
    let s = c.loop-item.matches in
    let u = c.next.new.self in
    let h : HoldsNext s.seeker.seeker s.input c.in-Ok.caps u.seeker.seeker u.input = holds_next s u c.in-Some.item c.in-Ok.caps c.in-Ok.is c.in-Some.ensures.steps.0 in
    let m = same_found c.get_match.result (match_of c.in-Ok.caps) c.unwrap-found.result h.found c.get_match.ensures c.unwrap-found.ensures h.matched in
    err_puts c.from_residual.result _ _ _ c.from_residual.ensures.0
    (going_begun (g.T.Cursor.content c.args.text.now) (g.T.Cursor.content c.loop-item.text) c.args.template.now.parts.items c.args.matches.now s u c.loop-item.from
    c.unwrap-found.result.start _ _ _ c.in-Ok.caps c.unwrap-found.result c.loop-item.invariant.going h m c.loop-item.invariant.content refl
    (subst (λ ps. AppendsBeginning (g.W.Sink.taken c.loop-item.out) (g.W.Sink.taken c.put_match.new.out) (slice_range (g.T.Cursor.content c.loop-item.text) c.loop-item.from c.unwrap-found.result.start ++ told_parts (g.T.Cursor.content c.loop-item.text) c.in-Ok.caps ps))
    c.as_slice-parts.ensures.value c.in_err-from.ensures.put) kind)

pub returns-in_err-put_rest-clause-put : goal.returns-in_err-put_rest-clause-put
returns-in_err-put_rest-clause-put g c kind =
    let r : Result ℕ ReplaceError = Err c.in_err-put_rest.field-0.0 in
    err_puts c.from_residual-in_err-put_rest.result _ _ _ c.from_residual-in_err-put_rest.ensures.0
    (going_rest (g.T.Cursor.content c.args.text.now) _ c.args.matches.now c.loop-item.matches c.loop-item.from _ _ c.loop-item.invariant.going kind
    r c.next.new.self _ (g.T.Cursor.content c.loop-item.text) c.loop-item.invariant.content c.in_default.ensures.steps.0
    c.in_err-put_rest.ensures.put)

-- none is left
pub returns-clause-put : goal.returns-clause-put
returns-clause-put g c kind =
    let r : Result ℕ ReplaceError = Ok c.loop-item.count in
    going_rest (g.T.Cursor.content c.args.text.now) _ c.args.matches.now c.loop-item.matches c.loop-item.from _ _ c.loop-item.invariant.going kind
    r c.next.new.self _ (g.T.Cursor.content c.loop-item.text) c.loop-item.invariant.content c.in_default.ensures.steps.0
    c.in_ok-put_rest.ensures.put
