-- Steps of the reading of texts, one after another.
use Rattle.std.proofs.Common.{◌≡◌, ℕ, suc, ◌+◌, ◌<◌, ◌≤◌, List, [], ◌∷◌, ◌++◌, take, map, length, get_or, Option, ap, refl, sym, ◌∙◌, subst, subst₂, arith}
use Rattle.std.specs.Prelude.{All}
use Rattle.std.specs.Borrow.{Bor}
use Rattle.std.specs.Option.{option_map}
use Rattle.std.proofs.Math.Seq.{take-suc}
use Rattle.std.proofs.lemmas.List.{take_all, take-map, map-append, length-map}
use Rattle.std.proofs.lemmas.List.Elements.{All-cons}
use Rattle.std.proofs.lemmas.Slice.Zip.{all_zipped_more, AllZip-long}
use Rattle.std.proofs.lemmas.Option.{slice_get-get_or, slice_get-map}
use Rattle.rc_pattern.specs.Re.{Re}
use Rattle.rc_pattern.specs.Meaning.{meaning}
use Rattle.rc_pattern.specs.declared.hir.Hir.{Hir}
use Rattle.rc_pattern.specs.declared.syntax.Error.{Error}
use Rattle.rc_pattern.specs.declared.syntax.Error.TheVariants.{Syntax as FaultAt}
use Rattle.rc_parser.specs.Outcome.{OnSyntax}
use Rattle.rc_parser.specs.Settings.{Settings}
use Rattle.rc_build.specs.TextRefusals.{IsReadAs, IsRead, AllRead, IsFirstUnread, IsReadingRefusal, IsTextRefusal, texts_of}
use Rattle.rc_build.specs.Refusals.{IsRefusal, limit_by}
use Rattle.rc_settings.specs.declared.error.BuildError.{BuildError}
use Rattle.rc_settings.specs.declared.error.BuildError.TheVariants.{Syntax, IllFormed, SizeLimit, PlaceLimit, Memory, DfaSizeLimit, CacheTooSmall}

-- one more text is read
pub read_more : (s : Settings) (ts : List (Bor (List ℕ))) (i : ℕ) (d : Bor (List ℕ)) (hs : List Hir) (h : Hir) → i < length ts →
    AllRead s (texts_of (take i ts)) (map meaning hs) → IsReadAs s (get_or ts i d).now (meaning h) → AllRead s (texts_of (take (i + 1) ts)) (map meaning (hs ++ h ∷ []))
read_more s ts i d hs h inside before here =
    subst₂ (AllRead s) (sym longer) (sym (map-append meaning hs (h ∷ [])))
    (all_zipped_more (IsReadAs s) (texts_of (take i ts)) (map meaning hs) (get_or ts i d).now (meaning h) before here)
  where
    one_more : i + 1 ≡ suc i
    one_more = omega arith

    longer : texts_of (take (i + 1) ts) ≡ texts_of (take i ts) ++ (get_or ts i d).now ∷ []
    longer = ap (λ n. texts_of (take n ts)) one_more ∙ ap texts_of (take-suc ts i d inside) ∙ map-append (λ x. x.now) (take i ts) (get_or ts i d ∷ [])

-- each of the texts that are read is
each_read : (s : Settings) (texts : List (List ℕ)) (hs : List Re) → AllRead s texts hs → All (IsRead s) texts
each_read s [] hs r = λ i d inside. absurd (omega (arith, inside))
each_read s (t ∷ texts) [] r = absurd r
each_read s (t ∷ texts) (h ∷ hs) r = All-cons (IsRead s) t texts (h, r.0) (each_read s texts hs r.1)

pub all_read : (s : Settings) (ts : List (Bor (List ℕ))) (n : ℕ) (hs : List Re) → length ts ≤ n → AllRead s (texts_of (take n ts)) hs → AllRead s (texts_of ts) hs
all_read s ts n hs done r = subst (λ x. AllRead s (texts_of x) hs) (take_all n ts done) r

-- the text after those that are read isn't
pub first_unread : (s : Settings) (ts : List (Bor (List ℕ))) (i : ℕ) (d : Bor (List ℕ)) (hs : List Re) (e : Error) (at : ℕ) → i < length ts →
    AllRead s (texts_of (take i ts)) hs → e ≡ FaultAt at →
    OnSyntax e (λ at. (at ≤ length (get_or ts i d).now) × ((h : Re) → IsReadAs s (get_or ts i d).now h → ⊥)) → IsFirstUnread s (texts_of ts) i (FaultAt at)
first_unread s ts i d hs e at inside before is told =
    let bad = subst (λ x. OnSyntax x (λ at. (at ≤ length (get_or ts i d).now) × ((h : Re) → IsReadAs s (get_or ts i d).now h → ⊥))) is told in
    record {
      before = subst (All (IsRead s)) (sym (take-map (λ x. x.now) i ts)) (each_read s (texts_of (take i ts)) hs before);
      text = (get_or ts i d).now;
      here = slice_get-map (λ x. x.now) ts i ∙ ap (option_map (λ x. x.now)) (slice_get-get_or ts i d inside);
      unread = λ r. bad.1 r.0 r.1;
      told = (at, bad.0, refl);
    }

-- there are as many patterns as texts
pub as_many : (s : Settings) (ts : List (Bor (List ℕ))) (hs : List Hir) → AllRead s (texts_of ts) (map meaning hs) → length hs ≡ length ts
as_many s ts hs r =
    sym (length-map hs meaning) ∙ AllZip-long (IsReadAs s) (texts_of ts) (map meaning hs) r ∙ length-map ts (λ x. x.now)

-- a refusal of the reading is one of the build
pub refused_reading : (limit : Option ℕ) (s : Settings) (texts : List (List ℕ)) (e : BuildError) → IsReadingRefusal s texts e → IsTextRefusal limit s texts e
refused_reading limit s texts (Syntax p e) r = r
refused_reading limit s texts (IllFormed p) r = absurd r
refused_reading limit s texts (SizeLimit n) r = absurd r
refused_reading limit s texts PlaceLimit r = absurd r
refused_reading limit s texts Memory r = r
refused_reading limit s texts (DfaSizeLimit n) r = absurd r
refused_reading limit s texts (CacheTooSmall m n) r = absurd r

-- and so is a refusal of the patterns that were read
pub refused_patterns : (limit : Option ℕ) (s : Settings) (texts : List (List ℕ)) (hs : List Re) (e : BuildError) → AllRead s texts hs → IsRefusal (limit_by limit s) hs e →
    IsTextRefusal limit s texts e
refused_patterns limit s texts hs (Syntax p e) read r = absurd r
refused_patterns limit s texts hs (IllFormed p) read r = (hs, read, r)
refused_patterns limit s texts hs (SizeLimit n) read r = (hs, read, r)
refused_patterns limit s texts hs PlaceLimit read r = (hs, read, r)
refused_patterns limit s texts hs Memory read r = r
refused_patterns limit s texts hs (DfaSizeLimit n) read r = absurd r
refused_patterns limit s texts hs (CacheTooSmall m n) read r = absurd r

-- a text that is read alone is read as one pattern
pub one_read : (s : Settings) (text : List ℕ) (hs : List Re) → AllRead s (text ∷ []) hs → (h : Re) × (hs ≡ h ∷ []) × IsReadAs s text h
one_read s text [] r = absurd r
one_read s text (h ∷ []) r = (h, refl, r.0)
one_read s text (h ∷ g ∷ hs) r = absurd r.1
