use Rattle.std.proofs.Common.{◌≡◌, ◌∙◌, ◌++◌, ◌∷◌, [], ap, arith, length-append, append_assoc, refl, rules, subst, sym}
use Rattle.std.proofs.lemmas.List.{append-nil}
use Rattle.api_meta.specs.Left.{find_left}
use Rattle.regex_cursor.specs.Output.{IsPut}
use Rattle.regex_cursor.proofs.Grown.{Appends-line}
use Rattle.regex_cursor.proofs.run.engine.put_lines.Goals as goal

-- no line was put
pub loop-found-init : goal.loop-found-init
loop-found-init g c = record {
  so_far = ([], refl, search rules, (λ yes. search rules, λ some. search rules));
  sound = search rules;
}

-- one match more
pub loop-found-preserved : goal.loop-found-preserved
loop-found-preserved g c =
    let (ms, left, put, told) = c.loop-found.invariant.so_far in
    let m = c.in-Some.found in
    let longer = length-append ms (m ∷ []) in
    record {
      so_far = (
        ms ++ m ∷ [],
        left ∙ ap (λ xs. ms ++ xs) c.in-Some.ensures.steps.0 ∙ sym (append_assoc ms (m ∷ []) (find_left c.next.new.self)),
        Appends-line (g.W.Sink.taken c.args.out.now) (g.W.Sink.taken c.loop-found.out) (g.W.Sink.taken c.put_line.new.out) ms m
            put c.in-Ok.ensures.appended,
        (λ yes. omega (arith, longer), λ some. search rules),
      );
      sound = search rules;
    }

-- none is left, so the lines of all were put
pub returns-clause-put : goal.returns-clause-put
returns-clause-put g c =
    let (ms, left, put, told) = c.loop-found.invariant.so_far in
    let begun : find_left c.args.matches ≡ find_left c.into_iter-found-iterator.result = search rules in
    let all = begun ∙ left ∙ ap (λ xs. ms ++ xs) c.in-None.ensures.steps.0.0 ∙ append-nil ms in
    subst (λ xs. IsPut xs (g.W.Sink.taken c.args.out.now) (g.W.Sink.taken c.loop-found.out) c.loop-found.is_found) (sym all)
    (record { lines = put; told = told })
