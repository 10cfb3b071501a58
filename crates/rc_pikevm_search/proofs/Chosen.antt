-- Which strategies a search of patterns may go by.
use Rattle.std.proofs.Common.{◌≡◌, ◌∙◌, ◌<◌, ◌≤◌, ℕ, List, [], ◌∷◌, length, map, Bool, true, false, Bor, Vec, Global, Option, Some, None, MatchOption, All, Result, IfOk, IfSome, ap, sym, subst, arith, get_or, option_map, inr}
use Rattle.std.specs.Bool.{Decides}
use Rattle.std.proofs.lemmas.Bool.{false≢true}
use Rattle.std.proofs.lemmas.Result.{IfOk-weaker}
use Rattle.std.proofs.lemmas.Option.{none-some, same_Some}
use Rattle.rc_pattern.specs.Re.{Re}
use Rattle.rc_pattern.specs.Meaning.{meaning}
use Rattle.rc_pattern.specs.WellFormed.{HasBounds}
use Rattle.rc_pattern.specs.declared.hir.Hir.{Hir}
use Rattle.rc_program.specs.Program.{program, shown}
use Rattle.rc_program.specs.Sought.{Sought, passes_over}
use Rattle.rc_program.specs.Text.{Text}
use Rattle.rc_needles.specs.Guards.{Guards}
use Rattle.rc_literals.specs.Answers.{Owned}
use Rattle.rc_literals.specs.Literals.{Covers, exact_needles}
use Rattle.rc_needles.specs.Prefilters.{needles_of}
use Rattle.rc_literals.specs.Prefixes.{ArePrefixes, EachBegins}
use Rattle.rc_needles.specs.Tables.{IsUsable, needles_in}
use Rattle.rc_needles.specs.declared.prefilter.Prefilter.{Prefilter}
use Rattle.rc_literals.proofs.AnswerLemmas.{literal_law}
use Rattle.rc_literals.proofs.CoverLemmas.{cover_law}
use Rattle.rc_pikevm_search.specs.Choices.{IsGuard, NoneServes}
use Rattle.rc_pikevm_search.specs.Literals.{AreAnswers}

-- needles that cover the patterns
pub covering_sound : (hs : List Re) (needles : List (List ℕ)) (q : Sought) → All HasBounds hs → ((t : Text) → Covers t hs needles) →
    q.patterns ≡ hs → Guards (program (shown q.grouped q.patterns)) q.terminator needles
covering_sound hs needles q bounded covers e =
    subst (λ ps. Guards (program (shown q.grouped ps)) q.terminator needles) (sym e)
    (cover_law.guards hs q.grouped q.terminator needles bounded covers)

-- needles that are the texts of the patterns
pub exact_sound : (hs : List Re) (o : Owned) (q : Sought) → All HasBounds hs → exact_needles hs ≡ Some o →
    q.patterns ≡ hs → Guards (program (shown q.grouped q.patterns)) q.terminator o.needles
    × AreAnswers (program (shown q.grouped q.patterns)) q.terminator (passes_over q) o
exact_sound hs o q bounded exact e = (
  covering_sound hs o.needles q bounded (λ t. literal_law.covers hs o t exact) e,
  λ s. literal_law.answers hs o q s exact e,
)

-- A prefilter that is made of needles.

-- what making one of a list of needles answers
abbrev pub IsMade : List (List ℕ) → Option Prefilter → Type 0
IsMade needles found = MatchOption found (¬ IsUsable needles) (λ p. IsUsable needles × (needles_of p ≡ needles))

made_covers : (hs : List Re) (prefixes : List (List ℕ)) (found : Option Prefilter) → ((t : Text) → Covers t hs prefixes) → IsMade prefixes found →
    IfSome found (λ p. (t : Text) → Covers t hs (needles_of p))
made_covers hs prefixes None covers made = tt
made_covers hs prefixes (Some p) covers made = subst (λ z. (t : Text) → Covers t hs z) (sym made.1) covers

pub covering_made : {E : Type 0} (r : Result (Option Prefilter) E) (hs : List Re) (prefixes : List (List ℕ)) →
    ((t : Text) → Covers t hs prefixes) → IfOk r (IsMade prefixes) → IfOk r (λ found. IfSome found (λ p. (t : Text) → Covers t hs (needles_of p)))
covering_made r hs prefixes covers ok =
    IfOk-weaker r (IsMade prefixes) (λ found. IfSome found (λ p. (t : Text) → Covers t hs (needles_of p)))
    (λ found made. made_covers hs prefixes found covers made) ok

-- needles with which prefixes begin that cover the patterns
pub beginnings_cover : (hs : List Re) (prefixes needles copied : List (List ℕ)) → ((t : Text) → Covers t hs prefixes) →
    EachBegins prefixes needles → copied ≡ needles → (t : Text) → Covers t hs copied
beginnings_cover hs prefixes needles copied covers each e t =
    subst (λ z. Covers t hs z) (sym e) (cover_law.by_beginnings t hs prefixes needles each (covers t))

-- The needles that guard a search of patterns.

pub prefixes_found : (hs : List Re) (found : Option (Vec (Vec ℕ Global) Global)) (v : Vec (Vec ℕ Global) Global) → found ≡ Some v →
    MatchOption found ((ws : List (List ℕ)) → ¬ ArePrefixes hs ws) (λ w. ArePrefixes hs (needles_in w.items)) → ArePrefixes hs (needles_in v.items)
prefixes_found hs found v is exact = subst (λ o. MatchOption o ((ws : List (List ℕ)) → ¬ ArePrefixes hs ws) (λ w. ArePrefixes hs (needles_in w.items))) is exact

-- patterns have one list of prefixes
pub same_prefixes : (hs : List Re) (ws vs : List (List ℕ)) → ArePrefixes hs ws → ArePrefixes hs vs → ws ≡ vs
same_prefixes hs ws vs p q = same_Some ws vs (sym p.are ∙ q.are)

pub not_served : (o : Option (Bor Prefilter)) (a : Bor Prefilter) (ws vs : List (List ℕ)) (begins : Bool) → o ≡ Some a → vs ≡ ws →
    Decides begins (EachBegins vs (needles_of a.now)) → begins ≡ false → NoneServes ws (option_map (λ (p : Bor Prefilter). needles_of p.now) o)
not_served o a ws vs begins is same decides not =
    subst (λ z. NoneServes ws (option_map (λ (p : Bor Prefilter). needles_of p.now) z)) (sym is)
    (λ each. false≢true (sym not ∙ decides.1 (subst (λ z. EachBegins z (needles_of a.now)) (sym same) each)))

pub none_asked : (o : Option (Bor Prefilter)) (ws : List (List ℕ)) → o ≡ None → NoneServes ws (option_map (λ (p : Bor Prefilter). needles_of p.now) o)
none_asked o ws is = subst (λ z. NoneServes ws (option_map (λ (p : Bor Prefilter). needles_of p.now) z)) (sym is) tt

pub guard_off : (hs : List Re) (asked : Option (List (List ℕ))) (is_auto : Bool) (ws : List (List ℕ)) → ArePrefixes hs ws → is_auto ≡ false →
    NoneServes ws asked → IsGuard hs asked is_auto None
guard_off hs asked is_auto ws p off none vs q = (off, subst (λ z. NoneServes z asked) (same_prefixes hs ws vs p q) none)

made_guard : (hs : List Re) (asked : Option (List (List ℕ))) (is_auto : Bool) (ws : List (List ℕ)) (found : Option Prefilter) → ArePrefixes hs ws →
    is_auto ≡ true → NoneServes ws asked → IsMade ws found → IsGuard hs asked is_auto (option_map needles_of found)
made_guard hs asked is_auto ws None p on none made = absurd (made p.usable)
made_guard hs asked is_auto ws (Some f) p on none made = (ws, p, inr (on, none, made.1))

pub guard_made : {E : Type 0} (r : Result (Option Prefilter) E) (hs : List Re) (asked : Option (List (List ℕ))) (is_auto : Bool)
    (ws : List (List ℕ)) → ArePrefixes hs ws → is_auto ≡ true → NoneServes ws asked → IfOk r (IsMade ws) →
    IfOk r (λ found. IsGuard hs asked is_auto (option_map needles_of found))
guard_made r hs asked is_auto ws p on none ok =
    IfOk-weaker r (IsMade ws) (λ found. IsGuard hs asked is_auto (option_map needles_of found))
    (λ found made. made_guard hs asked is_auto ws found p on none made) ok
