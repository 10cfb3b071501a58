use Rattle.std.proofs.Common.{◌≡◌, ◌≢◌, ◌∙◌, ◌++◌, ℕ, List, ap, arith, inl, inr, length, refl, rules, subst, sym, take}
use Rattle.rc_text.specs.Joined.{joined}
use Rattle.rc_text.specs.declared.types.MatchKind.TheVariants.{All as all_matches}
use Rattle.rc_captures.specs.declared.captures.Captures.{Captures}
use Rattle.rc_pikevm_search.specs.Tells.{KeepsAll, TellsBy}
use Rattle.api_meta.specs.Views.{regex_kind, regex_names}
use Rattle.chunk_replace.specs.Replaced.{replacement}
use Rattle.chunk_replace.specs.Template.{template_items}
use Rattle.searcher.specs.Answers.{search_in}
use Rattle.zorfelith_c.specs.Replacing.{IsOneMade}
use Rattle.zorfelith_c.proofs.Replacements.{one_made}
use Rattle.zorfelith_c.proofs.replace.put_one.Goals as goal

pub returns-then-put_bytes-eq-DONE : goal.returns-then-put_bytes-eq-DONE
returns-then-put_bytes-eq-DONE c =
    let r = c.args.held.now.regex in
    let text = joined c.args.chunks.now in
    let items = template_items c.in-Ok.template in
    let bytes = c.deref.result.now in
    let groups = c.in-Ok-Some.ensures in
    let free : regex_kind r ≢ all_matches = search rules in
    let same = c.captures-2.ensures in
    let made : IsOneMade r text c.args.start c.args.template.now bytes c.of.result =
    one_made r text c.args.start c.args.template.now items c.captures-2.result.now c.in-Ok-Some.found c.of.result bytes c.in-Ok.ensures free
    (subst (λ (x : Captures). TellsBy (regex_kind r) (search_in r text c.args.start 18446744073709551615) x) (sym same) groups.told)
    (subst (λ (x : Captures). KeepsAll (regex_names r) x) (sym same) groups.whole) (sym c.in-Ok-Some.field-0-is ∙ groups.found) c.of.ensures
    (λ names s walk keeps has. c.deref.ensures.value ∙ c.in-Ok-replace_match.ensures.replaced names s walk keeps has
    ∙ ap (λ (xs : List ℕ). xs ++ replacement text names s items walk) c.new.ensures.items) in
    let len : c.len.result ≡ length bytes = omega (arith, c.len.ensures, c.deref.ensures.len) in
    let place = c.put_bytes.new.place in
    record {
      answered = elim c.put_bytes.ensures.answered [
        | inl put ↦ inl (
          refl,
          groups.served,
          (
            omega (arith, len, put.2),
            refl,
            subst (λ (b : List ℕ). IsOneMade r text c.args.start c.args.template.now b c.of.result) (sym (ap (λ n. take n place) len ∙ put.1)) made,
          ),
        )
        | inr more ↦ absurd (omega (arith, more.0, c.if-put_bytes-eq-DONE.true))
      ];
      unwritten = λ no. absurd (no refl);
      untold = λ no _ _. absurd (no refl);
      alone = λ e. absurd (omega (arith, e));
      kind = λ e. absurd (free e);
      kept = groups.kept;
    }

pub returns : goal.returns
returns c =
    let r = c.args.held.now.regex in
    let text = joined c.args.chunks.now in
    let items = template_items c.in-Ok.template in
    let bytes = c.deref.result.now in
    let groups = c.in-Ok-Some.ensures in
    let free : regex_kind r ≢ all_matches = search rules in
    let same = c.captures-2.ensures in
    let made : IsOneMade r text c.args.start c.args.template.now bytes c.of.result =
    one_made r text c.args.start c.args.template.now items c.captures-2.result.now c.in-Ok-Some.found c.of.result bytes c.in-Ok.ensures free
    (subst (λ (x : Captures). TellsBy (regex_kind r) (search_in r text c.args.start 18446744073709551615) x) (sym same) groups.told)
    (subst (λ (x : Captures). KeepsAll (regex_names r) x) (sym same) groups.whole) (sym c.in-Ok-Some.field-0-is ∙ groups.found) c.of.ensures
    (λ names s walk keeps has. c.deref.ensures.value ∙ c.in-Ok-replace_match.ensures.replaced names s walk keeps has
    ∙ ap (λ (xs : List ℕ). xs ++ replacement text names s items walk) c.new.ensures.items) in
    let len : c.len.result ≡ length bytes = omega (arith, c.len.ensures, c.deref.ensures.len) in
    record {
      answered = elim c.put_bytes.ensures.answered [
        | inl put ↦ absurd (c.if-put_bytes-eq-DONE.false put.0)
        | inr more ↦ inr (inr (inl (
          refl,
          groups.served,
          record {
            bytes = bytes;
            made = made;
            needed = len;
            longer = omega (arith, len, more.1);
            at = refl;
          },
        )))
      ];
      unwritten = λ _. c.put_bytes.ensures.unwritten c.if-put_bytes-eq-DONE.false;
      untold = λ _ no _. absurd (no refl);
      alone = λ e. absurd (omega (arith, e));
      kind = λ e. absurd (free e);
      kept = groups.kept;
    }
