use Rattle.std.proofs.Common.{◌≡◌, ◌≢◌, ◌∙◌, ℕ, Bool, false, Result, Ok, Err, ap, sym}
use Rattle.std.specs.Prelude.{IfErr}
use Rattle.api_meta.specs.Views.{regex_kind}
use Rattle.chunk_replace.specs.declared.error.ReplaceError.{ReplaceError}
use Rattle.chunk_replace.specs.declared.error.ReplaceError.TheVariants.{Memory, Write}
use Rattle.chunk_replace.proofs.Whole.{counted, whole_replaced}
use Rattle.chunk_replace.proofs.replace.replace_all.Goals as goal

pub returns-clause-replaced : goal.returns-clause-replaced
returns-clause-replaced g c kind =
    whole_replaced c.put_replaced.result _ _ c.args.regex.now _ c.in-Ok-captures_iter.matches c.in-Ok.input c.args.template.now _ c.in-Ok.ensures.whole
    c.in-Ok.ensures.text c.in-Ok-captures_iter.ensures.regex c.in-Ok-captures_iter.ensures.input c.in-Ok-captures_iter.ensures.walks
    (c.put_replaced.ensures.put (λ all. kind (sym (ap regex_kind c.in-Ok-captures_iter.ensures.regex) ∙ all)))

pub returns-clause-count : goal.returns-clause-count
returns-clause-count g c =
    counted c.put_replaced.result c.args.regex.now c.in-Ok-captures_iter.matches c.in-Ok.input _ c.in-Ok.ensures.whole c.in-Ok-captures_iter.ensures.left_by
    c.put_replaced.ensures.count

-- the sink has not failed but for a failed write
unfailed_of : (r : Result ℕ ReplaceError) (b : Bool) → IfErr r (λ e. e ≢ Write → (e ≡ Memory) × (b ≡ false)) → IfErr r (λ e. e ≢ Write → b ≡ false)
unfailed_of (Ok n) b h = h
unfailed_of (Err e) b h = λ no. (h no).1

pub returns-clause-unfailed : goal.returns-clause-unfailed
returns-clause-unfailed g c = unfailed_of c.put_replaced.result (g.W.Sink.has_failed c.put_replaced.new.out) c.put_replaced.ensures.unfailed
