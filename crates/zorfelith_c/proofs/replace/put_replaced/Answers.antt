use Rattle.std.proofs.Common.{◌≡◌, ◌≢◌, ℕ, List, inl, inr, refl, rules, subst, sym}
use Rattle.rc_text.specs.Joined.{IsTooLong}
use Rattle.rc_text.specs.declared.types.MatchKind.TheVariants.{All as greatest_matches}
use Rattle.api_meta.specs.Views.{regex_kind}
use Rattle.chunk_replace.specs.Template.{template_items}
use Rattle.zorfelith_c.specs.Replacing.{IsMade, IsPut, IsTooLongFor, TellsReplaced}
use Rattle.zorfelith_c.specs.declared.replace.Replaced.{Replaced}
use Rattle.zorfelith_c.proofs.replace.put_replaced.Goals as goal

pub returns-in-Ok-replace_all : goal.returns-in-Ok-replace_all
returns-in-Ok-replace_all c =
    let r = c.args.regex.now in
    let chunks = c.args.chunks.now in
    let template = c.args.template.now in
    let bytes = c.deref.result.now in
    let count = c.in-Ok-replace_all.count in
    let place = c.put_text.new.place in
    let told = c.put_text.ensures.told in
    let free : regex_kind r ≢ greatest_matches = search rules in
    let fits : IsTooLong chunks → ⊥ = search rules in
    let made : IsMade r chunks template bytes count =
    record {
      items = template_items c.in-Ok.template;
      read = search rules;
      kind = free;
      fits = fits;
      made = search rules;
      counted = search rules;
    } in
    record {
      answered = elim c.put_text.ensures.answered [
        | inl put ↦ subst (λ (n : ℕ). TellsReplaced r chunks template n place c.put_text.new.replaced) (sym put.0)
            (subst (λ (t : Replaced). IsPut r chunks template place t) (sym told)
            (put.2, refl, subst (λ (b : List ℕ). IsMade r chunks template b count) (sym put.1) made))
        | inr more ↦ subst (λ (n : ℕ). TellsReplaced r chunks template n place c.put_text.new.replaced) (sym more.0)
            (subst (λ (t : Replaced). IsTooLongFor r chunks template place t) (sym told)
            (record { text = bytes; made = made; needed = refl; longer = more.1; at = refl }))
      ];
      unwritten = c.put_text.ensures.unwritten;
      untold = λ no other _. elim c.put_text.ensures.answered [
        | inl put ↦ absurd (no put.0)
        | inr more ↦ absurd (other more.0)
      ];
      kind = λ e. absurd (free e);
    }
