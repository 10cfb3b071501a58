use Rattle.std.proofs.Common.{length}
use denote.Text.{Utf8}
use denote.Shadow.{shadow}
use Rattle.chunk_replace.proofs.Reading.{Reads}
use Rattle.chunk_replace.proofs.template.Template.parse.Given as goal

-- the parts so far are read from what is gone from `rest`
abbrev pub invariant-loop-literal : goal.invariant-loop-literal
invariant-loop-literal l = record {
  utf8 : shadow (Utf8 l.rest);
  reads : Reads l.text l.parts.items l.rest;
}

abbrev pub decreases-loop-literal : goal.decreases-loop-literal
decreases-loop-literal l = length l.rest
