use Rattle.std.proofs.Common.{◌≡◌, is_none, rules, true, false}
use Rattle.rc_tokens.specs.declared.tokens.Escape.TheVariants.{Byte, Character, Perl}
use Rattle.rc_full_escapes.specs.declared.escapes.FullEscape.TheVariants.{Stated}
use Rattle.rc_explain.proofs.FullLists.{byte_there, character_there, perl_there, property_there}
use Rattle.rc_explain.proofs.full_lists.escaped_atom.Goals as goal

pub returns-else-is_none : goal.returns-else-is_none
returns-else-is_none c =
    let w = c.in-Stated-Character in
    let is : c.args.said ≡ Stated (Character w.c) = search rules in
    let some : is_none c.code_of-code.result ≡ false = search rules in
    character_there c.args.settings c.args.text.now c.args.said c.args.count c.requires.some c.requires.within c.requires.escape w.c c.code_of-code.result is
    c.code_of-code.ensures some

pub returns-in-Stated-Byte : goal.returns-in-Stated-Byte
returns-in-Stated-Byte c =
    let w = c.in-Stated-Byte in
    let is : c.args.said ≡ Stated (Byte w.byte) = search rules in
    byte_there c.args.settings c.args.text.now c.args.said c.args.count c.requires.some c.requires.within c.requires.escape w.byte c.byte_code.result is
    c.byte_code.ensures

pub returns-in-Stated-Perl : goal.returns-in-Stated-Perl
returns-in-Stated-Perl c =
    let w = c.in-Stated-Perl in
    let is : c.args.said ≡ Stated (Perl w.field-0-0) = search rules in
    perl_there c.args.settings c.args.text.now c.args.said c.args.count c.requires.some c.requires.within c.requires.escape w.field-0-0 is

pub returns-in-Property : goal.returns-in-Property
returns-in-Property c =
    let unicode : c.args.settings.unicode ≡ true = search rules in
    property_there c.args.settings c.args.text.now c.args.said c.args.count c.requires.some c.requires.within c.requires.escape c.in-Property.field-0
    c.in-Property.is unicode
