use Rattle.std.proofs.Common.{◌≡◌, ◌∙◌, ℕ, true≢false, IsTrue, Some, None, ap, arith, subst, sym}
use Rattle.rc_text.specs.Text.{Keeps, low}
use Rattle.rc_program.specs.Sought.{text_of}
use Rattle.rc_program.specs.Text.{Text, holds}
use Rattle.rc_needles.specs.Needles.{find_needle}
use Rattle.rc_needles.proofs.FindLemmas.{keeps_on}
use Rattle.rc_words.specs.Endings.{EndsWhere, MayEndAt}
use Rattle.rc_words.specs.Words.{HasNoWord, IsEnded, IsOnlyWord, between_in}
use Rattle.rc_words.proofs.EndingLemmas.{none_left, none_there, one_there}
use Rattle.rc_words.proofs.LookLemmas.{same_text}
use Rattle.rc_words.proofs.search.find_word.Goals.{then-holds_at+in-Nowhere, else-holds_at}
use Rattle.rc_words.proofs.search.find_word.Goals as goal

pub returns-in_default-clause-found : goal.returns-in_default-clause-found
returns-in_default-clause-found g c =
    let s = c.args.input.now in
    let b = between_in c.args.words.now in
    let t : Text = text_of c.args.terminator s in
    let i = c.loop-hit.invariant in
    let gone : find_needle b.needles s.content c.loop-hit.at c.high-end.result ≡ None =
    ap (λ x. find_needle b.needles x c.loop-hit.at c.high-end.result) (sym i.keeps.content) ∙ sym c.find_from.ensures.value ∙ c.in_default.is in
    subst (λ h. HasNoWord b t (low s) h) i.end (none_left b t c.high-end.result (low s) c.loop-hit.at i.none gone)

pub returns-in-Once-clause-found : goal.returns-in-Once-clause-found
returns-in-Once-clause-found g c =
    let s = c.args.input.now in
    let b = between_in c.args.words.now in
    let t : Text = text_of c.args.terminator s in
    let i = c.loop-hit.invariant in
    let hit = c.in-Some.hit in
    let e = c.in-Once.end in
    let found : find_needle b.needles s.content c.loop-hit.at c.high-end.result ≡ Some hit =
    ap (λ x. find_needle b.needles x c.loop-hit.at c.high-end.result) (sym i.keeps.content) ∙ sym c.find_from.ensures.value ∙ c.in-Some.is in
    let keeps : Keeps s c.find_from.new.input = keeps_on s c.loop-hit.input c.find_from.new.input i.keeps c.find_from.ensures.keeps in
    let later : Keeps s c.holds_at.new.input = keeps_on s c.find_from.new.input c.holds_at.new.input keeps c.holds_at.ensures.keeps in
    let same : text_of c.args.terminator c.holds_at.new.input ≡ t = same_text s c.holds_at.new.input c.args.terminator later in
    let before : IsTrue (holds t b.before hit.start) =
    ap (λ (x : Text). holds x b.before hit.start) (sym (same_text s c.find_from.new.input c.args.terminator keeps)) ∙ sym c.holds_at.ensures.value ∙ c.if-holds_at.true in
    let ended : IsEnded b t c.high-end.result hit.start e =
    subst (λ (x : Text). IsEnded b x c.high-end.result hit.start e) same
    (subst (λ r. EndsWhere b (text_of c.args.terminator c.holds_at.new.input) c.high-end.result hit.start r) c.in-Once.is c.ending_from.ensures.once) in
    let once : (j : ℕ) → IsEnded b t c.high-end.result hit.start j → j ≡ e =
    λ j h. subst (λ r. MayEndAt r j) c.in-Once.is (c.ending_from.ensures.may j (subst (λ (x : Text). IsEnded b x c.high-end.result hit.start j) (sym same) h)) in
    subst (λ h. IsOnlyWord b t (low s) h hit.start e) i.end
    (one_there b t c.high-end.result (low s) c.loop-hit.at i.none hit found e (omega (arith, i.above, c.in-Some.ensures.within)) before ended once)

pub loop-hit-preserved : goal.loop-hit-preserved
loop-hit-preserved g c =
    let s = c.args.input.now in
    let b = between_in c.args.words.now in
    let t : Text = text_of c.args.terminator s in
    let i = c.loop-hit.invariant in
    let hit = c.in-Some.hit in
    let found : find_needle b.needles s.content c.loop-hit.at c.high-end.result ≡ Some hit =
    ap (λ x. find_needle b.needles x c.loop-hit.at c.high-end.result) (sym i.keeps.content) ∙ sym c.find_from.ensures.value ∙ c.in-Some.is in
    let keeps : Keeps s c.find_from.new.input = keeps_on s c.loop-hit.input c.find_from.new.input i.keeps c.find_from.ensures.keeps in
    let later : Keeps s c.holds_at.new.input = keeps_on s c.find_from.new.input c.holds_at.new.input keeps c.holds_at.ensures.keeps in
    let same : text_of c.args.terminator c.holds_at.new.input ≡ t = same_text s c.holds_at.new.input c.args.terminator later in
    let there = none_there b t c.high-end.result (low s) c.loop-hit.at i.none hit found in
    elim c.if-holds_at.branch [
      | then-holds_at+in-Nowhere w ↦ record {
        keeps = rw w.input-is (keeps_on s c.holds_at.new.input w.ending_from.new.input later w.ending_from.ensures.keeps);
        end = i.end;
        above = omega (arith, i.above, c.in-Some.ensures.within);
        none = there (λ y h. subst (λ r. MayEndAt r y) w.in-Nowhere.is
            (w.ending_from.ensures.may y (subst (λ (x : Text). IsEnded b x c.high-end.result hit.start y) (sym same) h.1)));
      }
      | else-holds_at w ↦ record {
        keeps = rw w.input-is later;
        end = i.end;
        above = omega (arith, i.above, c.in-Some.ensures.within);
        none = there (λ y h. true≢false (sym h.0
            ∙ ap (λ (x : Text). holds x b.before hit.start) (sym (same_text s c.find_from.new.input c.args.terminator keeps)) ∙ sym c.holds_at.ensures.value ∙ w.if-holds_at.false));
      }
    ]

pub returns-in-Once-clause-within : goal.returns-in-Once-clause-within
returns-in-Once-clause-within g c =
    let b = between_in c.args.words.now in
    let i = c.loop-hit.invariant in
    let ended : IsEnded b (text_of c.args.terminator c.holds_at.new.input) c.high-end.result c.in-Some.hit.start c.in-Once.end =
    subst (λ r. EndsWhere b (text_of c.args.terminator c.holds_at.new.input) c.high-end.result c.in-Some.hit.start r) c.in-Once.is c.ending_from.ensures.once in
    let fits = ended.stands.0 in
    let long = ended.end in
    (omega (arith, i.above, c.in-Some.ensures.within), omega (arith, long), omega (arith, fits, long, i.end))
