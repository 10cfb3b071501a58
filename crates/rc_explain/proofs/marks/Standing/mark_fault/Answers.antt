use Rattle.std.proofs.Common.{length, rules, string_bytes, subst, ⊎_elim}
use Rattle.rc_tokens.specs.Said.{Byte, Dot, Members, Named, Opens, PerlClass, Stands}
use Rattle.rc_tokens.specs.View.{said_of}
use Rattle.rc_tokens.specs.declared.tokens.Token.{Token}
use Rattle.rc_explain.specs.Reading.{IsToken}
use Rattle.rc_explain.proofs.Wholes.{atom_faults}
use Rattle.rc_explain.proofs.Tokens.{atom_token, whole_atom}
use Rattle.rc_explain.proofs.marks.Standing.mark_fault.Goals as goal

pub returns-in-None : goal.returns-in-None
returns-in-None c =
    let t = c.args.mark.now in
    let l = c.in-List.field-0 in
    let says = Members l.negated l.bracket l.members.items in
    let token : IsToken (Stands says) t 0 (length t) = search rules in
    atom_faults t c.atom_fault.result (whole_atom t (atom_token t says token tt)) c.atom_fault.ensures

pub returns-in-Byte : goal.returns-in-Byte
returns-in-Byte c =
    let t = c.args.mark.now in
    let P : Token → Type 0 = λ k. IsToken (said_of k) t 0 (length t) in
    atom_faults t c.atom_fault-in-Byte.result (whole_atom t
    (⊎_elim (λ byte. atom_token t (Byte byte.0) (subst P byte.1 c.requires.token) tt)
    (⊎_elim (λ perl. atom_token t (PerlClass perl.0) (subst P perl.1 c.requires.token) tt)
    (λ is. atom_token t Dot (subst P is c.requires.token) tt)) c.in-Byte.is)) c.atom_fault-in-Byte.ensures

pub returns-in-Opens-Named : goal.returns-in-Opens-Named
returns-in-Opens-Named c =
    let t = c.args.mark.now in
    let name = string_bytes c.in-Opens-Named.name in
    let token : IsToken (Opens (Named name)) t 0 (length t) = search rules in
    c.name_of-start.ensures.stated name token
