use Rattle.std.proofs.Common.{refl, rules}
use Rattle.rc_tokens.specs.Said.{Byte, Character, PerlClass, Stands}
use Rattle.rc_tokens.specs.declared.tokens.Member.TheVariants as member
use Rattle.rc_explain.specs.Reading.{IsToken}
use Rattle.rc_explain.proofs.Tokens.{member_of_token}
use Rattle.rc_explain.proofs.lists.escaped_member.Goals as goal

pub returns-in-Some-Character-default : goal.returns-in-Some-Character-default
returns-in-Some-Character-default c =
    let w = c.in-Some-Character-default in
    let token : IsToken (Stands (Character w.c)) c.args.mark.now 0 w.count = search rules in
    member_of_token c.args.mark.now (Character w.c) (member.Character w.c) w.count token c.requires refl

pub returns-in-Some-Byte-default : goal.returns-in-Some-Byte-default
returns-in-Some-Byte-default c =
    let w = c.in-Some-Byte-default in
    let token : IsToken (Stands (Byte w.byte)) c.args.mark.now 0 w.count = search rules in
    member_of_token c.args.mark.now (Byte w.byte) (member.Byte w.byte) w.count token c.requires refl

pub returns-in-Some-Perl-default : goal.returns-in-Some-Perl-default
returns-in-Some-Perl-default c =
    let w = c.in-Some-Perl-default in
    let token : IsToken (Stands (PerlClass w.perl)) c.args.mark.now 0 w.count = search rules in
    member_of_token c.args.mark.now (PerlClass w.perl) (member.Perl w.perl) w.count token c.requires refl
