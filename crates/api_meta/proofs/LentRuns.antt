-- What calls of `next` give in a cache that is lent.
use Rattle.std.proofs.Common.{◌∙◌, [], ◌∷◌, Option, Some, None, Result, Ok, Err, ap, arith, length, refl, subst}
use Rattle.std.proofs.iter.runs.Sources.{as_is, from_front}
use Rattle.std.specs.declared.alloc.AllocError.{AllocError}
use Rattle.std.specs.Iterator.{MakesProgress, item_count}
use Rattle.std.specs.Iterator.Runs.{YieldsInOrder}
use Rattle.rc_text.specs.Found.{Found}
use Rattle.rc_text.specs.Text.{Searched}
use Rattle.rc_captures.specs.declared.captures.Captures.{Captures}
use Rattle.api_meta.specs.Left.{Goes}
use Rattle.api_meta.specs.Lent.{CapturesKeepAlong, CapturesKeepWith, CapturesNextWith, CapturesRunAlike, FindKeepsAlong, FindKeepsWith, FindNextWith, HasItsCache, KeepsItsCache, captures_by, captures_with_left, find_by, find_with_left}
use Rattle.api_meta.specs.Seeking.{Seeking}
use Rattle.api_meta.specs.declared.lists.CapturesMatchesWith.{CapturesMatchesWith}
use Rattle.api_meta.specs.declared.lists.FindMatchesWith.{FindMatchesWith}

stays : (f : Seeking) (i : Searched) → Goes f i f i
stays f i = (refl, record { content = refl; end = refl; slice = refl; anchored = refl; earliest = refl })

goes_on : (f g h : Seeking) (i j k : Searched) → Goes f i g j → Goes g j h k → Goes f i h k
goes_on f g h i j k a b = (
  b.0 ∙ a.0,
  record {
    content = b.1.content ∙ a.1.content;
    end = b.1.end ∙ a.1.end;
    slice = b.1.slice ∙ a.1.slice;
    anchored = b.1.anchored ∙ a.1.anchored;
    earliest = b.1.earliest ∙ a.1.earliest;
  },
)

module _ {C : Type 0} where
  pub find_runs : YieldsInOrder (FindNextWith {C = C}) find_with_left
  find_runs p u = as_is p (find_with_left p.from) (from_front (FindNextWith {C = C}) (λ x. x) find_with_left (λ s t h. ap length h.0.0.0) (λ s x t h. h.0.0) p u)

  pub find_keeps : (s : FindMatchesWith C) → FindKeepsAlong s
  find_keeps s [] t run = subst (FindKeepsWith s) run (stays (find_by s).seeker s.input.now, (refl, refl, refl), λ made. made)
  find_keeps s (item ∷ items) t (next, step, run) =
      let rest = find_keeps next items t run in (
        goes_on (find_by s).seeker (find_by next).seeker (find_by t).seeker s.input.now next.input.now t.input.now step.0.1 rest.0,
        (rest.1.0 ∙ step.1.0, rest.1.1 ∙ step.1.1, rest.1.2 ∙ step.1.2),
        λ made. rest.2 step.2,
      )

  pub captures_alike : (s : CapturesMatchesWith C) → CapturesRunAlike s
  captures_alike s [] t run = ap captures_by run
  captures_alike s (item ∷ items) t (next, step, run) = (captures_by next, step.0, captures_alike next items t run)

  pub captures_keep : (s : CapturesMatchesWith C) → CapturesKeepAlong s
  captures_keep s [] t run = subst (CapturesKeepWith s) run (stays (captures_by s).seeker.seeker s.input.now, (refl, refl, refl), λ made. made)
  captures_keep s (item ∷ items) t (next, step, run) =
      let rest = captures_keep next items t run in (
        goes_on (captures_by s).seeker.seeker (captures_by next).seeker.seeker (captures_by t).seeker.seeker s.input.now next.input.now t.input.now step.0.1
            rest.0,
        (rest.1.0 ∙ step.1.0, rest.1.1 ∙ step.1.1, rest.1.2 ∙ step.1.2),
        λ made. rest.2 step.2,
      )

  -- an item lowers what is left, and the cache stays made for the regex
  pub find_goes : (s t : FindMatchesWith C) (r : Option Found) → FindNextWith s r t → MakesProgress HasItsCache (item_count find_with_left) s r t
  find_goes s t None h = record { on = λ _. tt; keeps = tt; rests = λ _. tt }
  find_goes s t (Some m) h = record { on = λ _. (h.2, tt, omega (arith, ap length h.0.0)); keeps = h.2; rests = λ _. tt }

  pub captures_go : (s t : CapturesMatchesWith C) (r : Option (Result Captures AllocError)) → CapturesNextWith s r t →
      MakesProgress KeepsItsCache (item_count captures_with_left) s r t
  captures_go s t None h = record { on = λ _. tt; keeps = tt; rests = λ _. tt }
  captures_go s t (Some (Ok caps)) h = record { on = λ _. (h.2, tt, omega (arith, ap length h.0.0.left)); keeps = h.2; rests = λ _. tt }
  captures_go s t (Some (Err e)) h =
      record { on = λ _. (h.2, tt, omega (arith, h.0.0.0, ap length h.0.0.1)); keeps = h.2; rests = λ _. tt }
