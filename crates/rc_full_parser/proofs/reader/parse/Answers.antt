use Rattle.std.proofs.Common.{◌≡◌, ◌∙◌, ap, chars, subst, ℕ}
use Rattle.std.proofs.lemmas.Str.{chars-nil}
use Rattle.rc_pattern.specs.Meaning.{meaning}
use Rattle.rc_pattern.proofs.PlainNodeLemmas.{kind_law}
use Rattle.rc_parser.specs.Settings.{settings_of}
use Rattle.rc_parser.specs.Pieces.{Subpattern}
use Rattle.rc_parser.specs.View.{part}
use Rattle.rc_parser.specs.Outcome.{OnFault}
use Rattle.rc_parser.specs.declared.reader.Fault.{Fault}
use Rattle.rc_parser.specs.declared.reader.Fault.TheVariants.{Syntax}
use Rattle.rc_full_parser.specs.Grammar.{Reads}
use Rattle.rc_full_parser.specs.Machine.{Leads, start}
use Rattle.rc_full_parser.proofs.ReadLemmas.{reads_from_leads, nothing_read, empty_read}
use Rattle.rc_full_parser.proofs.StandLemmas.{well_formed_law}
use Rattle.rc_full_parser.proofs.reader.parse.Goals as goal

of_fault : (e : Fault) (left : ℕ) (P : Type 0) → e ≡ Syntax left → OnFault e P → P
of_fault e left P is h = let at : OnFault (Syntax left) P = subst (λ x. OnFault x P) is h in at

pub returns-in-Ok-read-clause-reads : goal.returns-in-Ok-read-clause-reads
returns-in-Ok-read-clause-reads c =
    let s = settings_of c.args.config.now in
    reads_from_leads s (chars c.args.text.now) (part c.in-Ok-read.whole)
    (subst (λ t. Leads s (start s) t (part c.in-Ok-read.whole)) (c.deref.ensures.value ∙ c.in-Ok.ensures) c.in-Ok-read.ensures.reads)

pub returns-in-Ok-read-clause-well_formed : goal.returns-in-Ok-read-clause-well_formed
returns-in-Ok-read-clause-well_formed c =
    well_formed_law (settings_of c.args.config.now) (chars c.args.text.now) (meaning c.in-Ok-read.whole.hir) c.in-Ok-read.ensures.terminator
    (returns-in-Ok-read-clause-reads c)

pub returns-in-Ok-read-clause-empty : goal.returns-in-Ok-read-clause-empty
returns-in-Ok-read-clause-empty c = λ nil.
    let s = settings_of c.args.config.now in
    let reads = subst (λ t. Reads s t (meaning c.in-Ok-read.whole.hir)) (ap chars nil ∙ chars-nil) (returns-in-Ok-read-clause-reads c) in
    kind_law c.in-Ok-read.whole.hir c.in-Ok-read.whole.plain (empty_read s (meaning c.in-Ok-read.whole.hir) reads)

pub returns-clause-reads : goal.returns-clause-reads
returns-clause-reads c =
    let s = settings_of c.args.config.now in (
      c.byte_before-at.ensures,
      nothing_read s (chars c.args.text.now) (subst (λ t. (p : Subpattern) → Leads s (start s) t p → ⊥) (c.deref.ensures.value ∙ c.in-Ok.ensures)
          (of_fault c.in-Err-Syntax.field-0 c.in-Err-Syntax.left ((p : Subpattern) → Leads s (start s) c.deref.result.now p → ⊥) c.in-Err-Syntax.field-0-is
          c.in-Err-Syntax.ensures.reads)),
    )
