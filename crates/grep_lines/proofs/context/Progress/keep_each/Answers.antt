use Rattle.std.proofs.Common.{ℕ, List, ◌≡◌, ◌+◌, ◌-◌, ◌∙◌, ◌++◌, ◌∷◌, [], ap, append_assoc, arith, drop, get_or, get_or-take, length, length-drop, length-take-le, refl, subst, sym, take, take_all}
use Rattle.std.proofs.lemmas.Bool.{eqb-true, eq-eqb}
use Rattle.std.proofs.lemmas.List.{append-nil}
use Rattle.grep_lines.specs.Ahead.{contents}
use Rattle.grep_lines.specs.Lines.{lines}
use Rattle.grep_lines.specs.Pages.{IsWhole}
use Rattle.grep_lines.proofs.AdvanceLemmas.{first_cut, whole_drop, whole_none}
use Rattle.grep_lines.proofs.ContextLemmas.{contents_more}
use Rattle.grep_lines.proofs.LineLemmas.{HasNo}
use Rattle.grep_lines.proofs.context.Progress.keep_each.Goals as goal

pub loop-end-init : goal.loop-end-init
loop-end-init c = record { kept = refl; whole = c.requires.whole; short = omega arith; next = refl; place = refl; after = refl; behind = refl }

-- a line more is kept
pub loop-end-preserved : goal.loop-end-preserved
loop-end-preserved c =
    let inv = c.loop-end.invariant in
    let stop = c.args.terminator in
    let left = c.loop-end.left.now in
    let end = c.in-Some.end in
    let found = c.in-Some.ensures in
    let line = take end left in
    let rest = drop (end + 1) left in
    let sized : length line ≡ end = length-take-le end left (omega (arith, found.0.high)) in
    let free : HasNo stop line = λ k lt ten.
    found.0.before k (omega arith) (omega (arith, lt, sized))
    (eq-eqb (get_or left k 0) stop (sym (get_or-take end left k 0 (omega (arith, lt, sized))) ∙ ten)) in
    let is : get_or left end 0 ≡ stop = eqb-true (get_or left end 0) stop found.1 in
    let cut = first_cut stop left end found.0.high free is in
    let all : take (length left - (end + 1)) rest ≡ rest = take_all (length left - (end + 1)) rest (omega (arith, length-drop (end + 1) left)) in
    let was = c.loop-end.self.kept.items in
    let now : contents c.push_back.new.self.items ≡ contents was ++ line ∷ [] =
    ap contents c.in_ok-push_back.ensures.items ∙ contents_more was c.in_ok-line.line ∙ ap (λ (xs : List ℕ). contents was ++ xs ∷ []) c.in_ok-line.ensures.items in
    record {
      kept =
          ap (λ xs. contents c.push_back.new.self.items ++ lines stop xs) all
          ∙ ap (λ (ls : List (List ℕ)). ls ++ lines stop rest) now
          ∙ append_assoc (contents was) (line ∷ []) (lines stop rest)
          ∙ ap (λ ls. contents was ++ ls) (sym cut)
          ∙ inv.kept;
      whole = subst (IsWhole stop) (sym all) (whole_drop stop (end + 1) left inv.whole);
      short = omega (arith, inv.short, ap length all, length-drop (end + 1) left);
      next = inv.next;
      place = inv.place;
      after = inv.after;
      behind = inv.behind;
    }

-- all are
pub returns-clause-kept : goal.returns-clause-kept
returns-clause-kept c =
    let inv = c.loop-end.invariant in
    let stop = c.args.terminator in
    let was = contents c.loop-end.self.kept.items in
    let none = whole_none stop c.loop-end.left.now inv.whole (λ k lt ten. c.in_default.ensures k (omega arith) lt (eq-eqb _ stop ten)) in
    sym (append-nil was) ∙ ap (λ xs. was ++ lines stop xs) (sym none) ∙ inv.kept
