use Rattle.std.proofs.Common.{◌≡◌, true, false, MatchOption, sym, subst}
use Rattle.rc_pattern.specs.Meaning.{meaning}
use Rattle.rc_tokens.specs.ClassView.{pairs}
use Rattle.rc_parser.specs.Settings.{settings_of}
use Rattle.rc_parser.specs.Pieces.{set_re}
use Rattle.rc_class_sets.specs.Sets.{AreRangesOf}
use Rattle.rc_full_lists.specs.Lists.{one}
use Rattle.rc_full_parser.specs.Pieces.{is_folded, folded_set, IsCharacter, plain}
use Rattle.rc_full_parser.proofs.AtomLemmas.{gives_by, is_cases, no_cases}
use Rattle.rc_full_parser.proofs.pieces.character.Goals as goal

pub returns-in_ok-literal-in-None-clause-reads : goal.returns-in_ok-literal-in-None-clause-reads
returns-in_ok-literal-in-None-clause-reads c =
    let s = settings_of c.args.config in
    let f = c.args.flags in
    let single : is_folded f c.args.c ≡ false =
    subst (λ o. MatchOption o (is_folded f c.args.c ≡ false) (λ v. (is_folded f c.args.c ≡ true) × AreRangesOf f.unicode (folded_set s f (one c.args.c)) (pairs v.items)))
    c.in-None.is c.in_ok-cases.ensures in
    subst (IsCharacter s f c.args.c) (sym c.in_ok-literal-in-None.ensures.reads) (plain c.args.c single)

pub returns-in-Some-clause-reads : goal.returns-in-Some-clause-reads
returns-in-Some-clause-reads c =
    let s = settings_of c.args.config in
    let f = c.args.flags in
    let (folded, ranges) =
    subst (λ o. MatchOption o (is_folded f c.args.c ≡ false) (λ v. (is_folded f c.args.c ≡ true) × AreRangesOf f.unicode (folded_set s f (one c.args.c)) (pairs v.items)))
    c.in-Some.is c.in_ok-cases.ensures in
    let are = subst (λ xs. AreRangesOf f.unicode (folded_set s f (one c.args.c)) (pairs xs)) (sym c.deref.ensures.value) ranges in
    gives_by c.set.result (set_re s f (pairs c.deref.result.now)) (IsCharacter s f c.args.c) meaning
    (λ re h. is_cases s f c.args.c (pairs c.deref.result.now) re folded are h) (λ h re. no_cases s f c.args.c (pairs c.deref.result.now) folded are h re) c.set.ensures.reads
