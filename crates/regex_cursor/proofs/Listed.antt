-- The matches that are listed for a whole content.
use Rattle.std.proofs.Common.{◌≡◌, ◌≢◌, Some, refl, ℕ, List, [], ◌∷◌, Bool, Option, None, Some, Result, Ok, Err, IfErr, IfOk, ap, subst, ◌∙◌}
use Rattle.std.specs.Io.KnownBytes.{Keeps}
use Rattle.std.specs.Result.{IsErrAnd}
use Rattle.std.specs.Borrow.{Bor}
use Rattle.rc_text.specs.Joined.{IsTooLong}
use Rattle.rc_text.specs.Found.{Found}
use Rattle.rc_text.specs.Text.{Searched}
use Rattle.rc_pattern.specs.Re.{Re}
use Rattle.rc_program.specs.Answer.{Search}
use Rattle.rc_program.specs.Sought.{search_for}
use Rattle.rc_program.specs.Matches.{matches_left}
use Rattle.rc_parser.specs.Settings.{default_settings}
use Rattle.rc_build.specs.Fits.{sought_by}
use Rattle.rc_build.specs.Refusals.{IsBuildable, limit_by}
use Rattle.rc_build.specs.TextRefusals.{AllRead}
use Rattle.rc_build.proofs.TextLemmas.{one_read}
use Rattle.regex_cursor.specs.declared.run.error.RunError.{RunError}
use Rattle.regex_cursor.specs.declared.run.error.RunError.TheVariants.{Memory, TooLong, Write}
use Rattle.regex_cursor.specs.Faults.{IsBuilt, IsFault}
use Rattle.rc_settings.specs.Settings.{Settings, program_settings, unset}
use Rattle.regex_cursor.specs.Output.{IsPut, IsRun, IsWhole, matches_in, whole}

-- the regex has nothing set and one pattern, and the input is the whole content
pub listed_whole : (st : Settings) (hs : List Re) (s : Searched) (p : Re) (content : List ℕ) → st ≡ unset → hs ≡ p ∷ [] → IsWhole content s →
    matches_left (search_for (sought_by (program_settings st) hs) s) s.span.start None ≡ matches_in p content
listed_whole st hs s p content e f w =
    ap (λ (k : ℕ). matches_left (search_for (sought_by (program_settings st) hs) s) k None) w.start
    ∙ ap (λ (t : Search). matches_left t 0 None) (w.same (sought_by (program_settings st) hs))
    ∙ ap (λ (x : Settings). matches_left (search_for (sought_by (program_settings x) hs) (whole content)) 0 None) e
    ∙ ap (λ (x : List Re). matches_left (search_for (sought_by (program_settings unset) x) (whole content)) 0 None) f

pub put_as : (a b : Option (List ℕ)) (xs ys : List Found) (found : Bool) → xs ≡ ys → IsPut xs a b found → IsPut ys a b found
put_as a b xs ys found e = subst (λ (ms : List Found). IsPut ms a b found) e

-- the text is read as the one pattern, which was built
pub built : (text : List ℕ) (hs : List Re) → AllRead default_settings (text ∷ []) hs → IsBuildable (limit_by (Some 10485760) default_settings) hs → IsBuilt text
built text hs read ok =
    let (p, patterns, as_it) = one_read default_settings text hs read in
    (p, as_it, subst (IsBuildable (limit_by (Some 10485760) default_settings)) patterns ok)

-- the faults that come once it was built, and the chunks were measured
pub memory_fault : (r : Result Bool RunError) (text : List ℕ) (chunks : List (Bor (List ℕ))) → r ≡ Err Memory → IsBuilt text → ¬ IsTooLong chunks →
    IfErr r (IsFault text chunks)
memory_fault r text chunks is ok short = rw is (ok, short)

pub write_fault : (r : Result Bool RunError) (e : RunError) (text : List ℕ) (chunks : List (Bor (List ℕ))) → IsErrAnd r (λ f. f ≡ e) → e ≡ Write →
    IsBuilt text → ¬ IsTooLong chunks → IfErr r (IsFault text chunks)
write_fault (Ok b) e text chunks same told ok short = tt
write_fault (Err f) e text chunks same told ok short = rw (same ∙ told) (ok, short)

-- an error that is this one
pub err_is : {X E : Type 0} (r : Result X E) (e : E) → IsErrAnd r (λ f. f ≡ e) → r ≡ Err e
err_is (Ok x) e h = absurd h
err_is (Err f) e h = ap Err h

-- nothing was put
kept : (a : Option (List ℕ)) → Keeps a a
kept None = tt
kept (Some x) = refl

pub put_nothing : (r : Result Bool RunError) (a : Option (List ℕ)) → IfErr r (λ e. e ≢ Write → Keeps a a)
put_nothing (Ok b) a = tt
put_nothing (Err e) a = λ other. kept a

pub long_fault : (r : Result Bool RunError) (text : List ℕ) (chunks : List (Bor (List ℕ))) → r ≡ Err TooLong → IsBuilt text → IsTooLong chunks →
    IfErr r (IsFault text chunks)
long_fault r text chunks is ok long = rw is (ok, long)

-- what was put for the one pattern that was read
pub run_as : (text content : List ℕ) (hs : List Re) (a b : Option (List ℕ)) (r : Result Bool RunError) → AllRead default_settings (text ∷ []) hs →
    ((p : Re) → hs ≡ p ∷ [] → IfOk r (IsPut (matches_in p content) a b)) → IfOk r (IsRun text content a b)
run_as text content hs a b (Ok found) read put =
    let (p, patterns, as_it) = one_read default_settings text hs read in
    record { pattern = p; read = as_it; put = put p patterns }
run_as text content hs a b (Err e) read put = tt
