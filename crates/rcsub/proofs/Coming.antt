-- A text that is read page by page, and written as it comes.
use Rattle.std.proofs.Common.{◌≡◌, ◌∙◌, ℕ, Bool, List, [], ◌++◌, Option, None, Some, Result, Ok, Err, IfOk, IfSome, ap, append-nil, append_assoc, refl, subst, sym}
use Rattle.std.specs.Io.KnownBytes.{Consumes, IsAtEnd}
use Rattle.rc_text.specs.Found.{Found}
use Rattle.api_meta.specs.declared.regex.Regex.{Regex}
use Rattle.chunk_replace.specs.Template.{Item, template_items}
use Rattle.rcsub.specs.Alike.{ReplaceAlike}
use Rattle.rcsub.specs.Replaced.{Rewrites}
use Rattle.rcsub.specs.Streamed.{IsDone, Stands}
use Rattle.rcsub.specs.declared.replacer.Replacer.{Replacer}
use Rattle.rcsub.specs.declared.streamed.Streamed.{Streamed}
use Rattle.rcsub.proofs.Regexes.{rewritten_if}

-- A beginning of the text was fed, and `left` is what is left to read.
pub record Coming (items : List Item) (s : Streamed) (text : List ℕ) (left old now : Option (List ℕ)) : Type 0 where
  pub fed : List ℕ
  pub rest : List ℕ
  pub known : left ≡ Some rest
  pub all : text ≡ fed ++ rest
  pub told : List Found
  pub stands : Stands items fed told s old now

-- nothing was read
pub coming_none : (items : List Item) (s : Streamed) (left old : Option (List ℕ)) → Stands items [] [] s old old → IfSome left (λ text. Coming items s text left old old)
coming_none items s None old st = tt
coming_none items s (Some text) old st = record { fed = []; rest = text; known = refl; all = refl; told = []; stands = st }

-- a page was read and fed, and what is settled was put
more : (items : List Item) (s t u : Streamed) (text chunk : List ℕ) (left later old now new : Option (List ℕ)) → Coming items s text left old now →
    Consumes left later chunk →
    ((fed : List ℕ) (told : List Found) (a b : Option (List ℕ)) → Stands items fed told s a b → Stands items (fed ++ chunk) told t a b) →
    ((fed : List ℕ) (told : List Found) (a : Option (List ℕ)) → Stands items fed told t a now → (also : List Found) × Stands items fed also u a new) →
    Coming items u text later old new
more items s t u text chunk left later old now new c read fed put = by_later later (subst (λ l. Consumes l later chunk) c.known read)
  where
    by_later : (l : Option (List ℕ)) → Consumes (Some c.rest) l chunk → Coming items u text l old new
    by_later None never = absurd never
    by_later (Some ys) e =
        let (also, st) = put (c.fed ++ chunk) c.told old (fed c.fed c.told old now c.stands) in
        record {
          fed = c.fed ++ chunk;
          rest = ys;
          known = refl;
          all = c.all ∙ ap (λ l. c.fed ++ l) e ∙ sym (append_assoc c.fed chunk ys);
          told = also;
          stands = st;
        }

pub coming_more : (items : List Item) (s t u : Streamed) (chunk : List ℕ) (o left later old now new : Option (List ℕ)) →
    IfSome o (λ text. Coming items s text left old now) → Consumes left later chunk →
    ((fed : List ℕ) (told : List Found) (a b : Option (List ℕ)) → Stands items fed told s a b → Stands items (fed ++ chunk) told t a b) →
    ((fed : List ℕ) (told : List Found) (a : Option (List ℕ)) → Stands items fed told t a now → (also : List Found) × Stands items fed also u a new) →
    IfSome o (λ text. Coming items u text later old new)
coming_more items s t u chunk None left later old now new c read fed put = tt
coming_more items s t u chunk (Some text) left later old now new c read fed put = more items s t u text chunk left later old now new c read fed put

-- nothing is left
ended : (items : List Item) (s : Streamed) (text : List ℕ) (left later old now : Option (List ℕ)) → Coming items s text left old now → Consumes left later [] →
    IsAtEnd later → (told : List Found) × Stands items text told s old now
ended items s text left later old now c read end = by_later later (subst (λ l. Consumes l later []) c.known read) end
  where
    by_later : (l : Option (List ℕ)) → Consumes (Some c.rest) l [] → IsAtEnd l → (told : List Found) × Stands items text told s old now
    by_later None never at = absurd never
    by_later (Some ys) e at =
        (c.told, subst (λ t. Stands items t c.told s old now) (sym (c.all ∙ ap (λ l. c.fed ++ l) (e ∙ at) ∙ append-nil c.fed)) c.stands)

pub coming_done : (items : List Item) (s : Streamed) (r : Regex) (o left later old now new : Option (List ℕ)) (any : Bool) →
    IfSome o (λ text. Coming items s text left old now) → Consumes left later [] → IsAtEnd later →
    ((fed : List ℕ) (told : List Found) (a : Option (List ℕ)) → Stands items fed told s a now → IsDone r items fed a new any) →
    IfSome o (λ text. IsDone r items text old new any)
coming_done items s r None left later old now new any c read end put = tt
coming_done items s r (Some text) left later old now new any c read end put =
    let (told, st) = ended items s text left later old now c read end in put text told old st

-- all was read and put
pub stream_done : {E : Type 0} (q : Result Bool E) (r : Replacer) (s : Streamed) (o left later old now new : Option (List ℕ)) →
    ReplaceAlike r.over_bytes r.over_utf8 → s.stream.regex ≡ r.over_bytes →
    IfSome o (λ text. Coming (template_items r.template) s text left old now) → Consumes left later [] → IsAtEnd later →
    IfOk q (λ any. (fed : List ℕ) (told : List Found) (a : Option (List ℕ)) → Stands (template_items r.template) fed told s a now →
    IsDone s.stream.regex (template_items r.template) fed a new any) →
    IfOk q (λ any. IfSome o (λ text. Rewrites r text old new any))
stream_done (Err e) r s o left later old now new same is coming read end put = tt
stream_done (Ok any) r s o left later old now new same is coming read end put =
    rewritten_if r o old new any same
    (coming_done (template_items r.template) s r.over_bytes o left later old now new any coming read end
    (λ fed told a st. subst (λ x. IsDone x (template_items r.template) fed a new any) is (put fed told a st)))
