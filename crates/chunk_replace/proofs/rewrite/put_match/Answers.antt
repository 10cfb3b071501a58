use Rattle.std.proofs.Common.{◌≡◌, ◌∙◌, ◌++◌, ℕ, List, Option, ap, subst, slice_range}
use Rattle.std.specs.Io.KnownBytes.{Appends}
use Rattle.rc_captures.specs.declared.captures.Captures.{Captures}
use Rattle.regex_cursor.specs.Put.{AppendsBeginning}
use Rattle.chunk_replace.specs.declared.template.Part.{Part}
use Rattle.chunk_replace.specs.Told.{told_parts}
use Rattle.regex_cursor.proofs.Grown.{Appends-trans}
use Rattle.regex_cursor.proofs.Puts.{begun_less, begun_more, err_puts}
use Rattle.chunk_replace.proofs.rewrite.put_match.Goals as goal

-- the bytes up to a match, and then what is told of the parts
module _ (content other : List ℕ) (caps : Captures) (ps : List Part) (from at to : ℕ) (a b d : Option (List ℕ)) (stop : at ≡ to) (same : other ≡ content)
    (gap : Appends a b (slice_range content from at)) where
  both : slice_range content from at ++ told_parts other caps ps ≡ slice_range content from to ++ told_parts content caps ps
  both =
      ap (λ n. slice_range content from n ++ told_parts other caps ps) stop
      ∙ ap (λ x. slice_range content from to ++ told_parts x caps ps) same

  put_both : Appends b d (told_parts other caps ps) → Appends a d (slice_range content from to ++ told_parts content caps ps)
  put_both p = subst (Appends a d) both (Appends-trans a b d (slice_range content from at) (told_parts other caps ps) gap p)

  both_begun : AppendsBeginning b d (told_parts other caps ps) → AppendsBeginning a d (slice_range content from to ++ told_parts content caps ps)
  both_begun p = subst (AppendsBeginning a d) both (begun_more a b d (slice_range content from at) (told_parts other caps ps) gap p)

gap_begun : (content rest : List ℕ) (from at to : ℕ) (a b : Option (List ℕ)) → at ≡ to → AppendsBeginning a b (slice_range content from at) →
    AppendsBeginning a b (slice_range content from to ++ rest)
gap_begun content rest from at to a b stop p =
    begun_less a b (slice_range content from to) rest (subst (λ n. AppendsBeginning a b (slice_range content from n)) stop p)

pub returns-in_err-put_range-clause-put : goal.returns-in_err-put_range-clause-put
returns-in_err-put_range-clause-put g c =
    err_puts c.from_residual.result _ _ _ c.from_residual.ensures.0
    (gap_begun (g.C.Cursor.content c.args.text.now) _ c.args.from c.start.result c.args.found.start _ _ c.start.ensures.value c.in_err-put_range.ensures.put)

pub returns-in_err-put_parts-clause-put : goal.returns-in_err-put_parts-clause-put
returns-in_err-put_parts-clause-put g c =
    err_puts c.from_residual-in_err-put_parts.result _ _ _ c.from_residual-in_err-put_parts.ensures.0
    (both_begun (g.C.Cursor.content c.args.text.now) (g.C.Cursor.content c.put_range.new.cursor) c.args.caps.now c.args.parts.now
    c.args.from c.start.result c.args.found.start _ _ _ c.start.ensures.value c.in_ok-put_range.ensures.content c.in_ok-put_range.ensures.put
    c.in_err-put_parts.ensures.put)

pub returns-clause-put : goal.returns-clause-put
returns-clause-put g c =
    put_both (g.C.Cursor.content c.args.text.now) (g.C.Cursor.content c.put_range.new.cursor) c.args.caps.now c.args.parts.now
    c.args.from c.start.result c.args.found.start _ _ _ c.start.ensures.value c.in_ok-put_range.ensures.content c.in_ok-put_range.ensures.put
    c.in_ok-put_parts.ensures.put

pub returns-clause-end : goal.returns-clause-end
returns-clause-end g c = c.end.ensures.value
