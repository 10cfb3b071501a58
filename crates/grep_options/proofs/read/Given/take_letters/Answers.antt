use Rattle.std.proofs.Common.{◌∙◌, ap, chars, map, refl, subst, sym}
use Rattle.std.proofs.lemmas.List.{map-append}
use Rattle.std.specs.Str.Iter.{chars_rest}
use Rattle.grep_options.specs.Given.{chosen}
use Rattle.grep_options.specs.Words.{Text, some_text}
use Rattle.grep_options.specs.declared.read.WordsError.TheVariants.{Unknown}
use Rattle.grep_options.proofs.WordLemmas.{Left, all_left, letter_alone, letter_taking, letter_unknown, memory_taken, none_left}
use Rattle.grep_options.proofs.read.Given.take_letters.Goals as goal

pub loop-letter-init : goal.loop-letter-init
loop-letter-init c =
    let P : Text → Type 0 = λ text. Left c.args.self.now c.args.self.now c.args.table.now c.args.word.now (chars c.args.text.now) text in
    subst P (sym c.chars-letters.ensures.rest) (all_left c.args.table.now c.args.word.now c.args.self.now c.args.text.now c.utf8.text)

pub returns-in_default-by_letter : goal.returns-in_default-by_letter
returns-in_default-by_letter c =
    letter_unknown c.args.table.now c.args.word.now c.in-Some.letter (chars_rest c.loop-letter.letters) (chars_rest c.next.new.self) c.by_letter.result (Unknown c.args.word)
    c.loop-letter.invariant c.in-Some.ensures.steps.0 c.by_letter.ensures c.in_default-by_letter.is refl

pub returns-in_default-takes : goal.returns-in_default-takes
returns-in_default-takes c =
    letter_taking c.args.table.now c.args.word.now c.in-Some.letter (chars_rest c.loop-letter.letters) (chars_rest c.next.new.self) c.in-Some-by_letter.entry _ c.take_option.new.self _
    c.loop-letter.invariant c.in-Some.ensures.steps.0 (sym c.in-Some-by_letter.is ∙ c.by_letter.ensures) c.in_default-takes.not-Nothing (c.some_text.ensures ∙ ap some_text c.as_str.ensures) c.take_option.ensures

pub loop-letter-preserved : goal.loop-letter-preserved
loop-letter-preserved c =
    letter_alone c.args.table.now c.args.word.now _ c.in-Some.letter (chars_rest c.loop-letter.letters) (chars_rest c.next.new.self) c.in-Some-by_letter.entry
    c.loop-letter.invariant c.in-Some.ensures.steps.0 (sym c.in-Some-by_letter.is ∙ c.by_letter.ensures) c.in-Nothing.is
    (ap (map chosen) c.in_ok-push.ensures.items ∙ map-append chosen c.loop-letter.self.options.items _) refl

pub returns-in_err-push : goal.returns-in_err-push
returns-in_err-push c = memory_taken c.args.self.now (record { options = c.push.new.self; operands = c.loop-letter.self.operands }) _ _ _ c.from_residual.ensures

pub returns : goal.returns
returns c = none_left c.args.table.now c.args.word.now (chars_rest c.loop-letter.letters) c.loop-letter.invariant c.in_default.ensures.steps.0.0
