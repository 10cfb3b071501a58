-- Only proofs use this file.
-- Choice of algorithm: what a piece of a chunk is searched for.
use Rattle.std.specs.Prelude.{◌≡◌, ℕ, ◌<◌, ◌≤◌, Bool, true, List, length, drop, ⊤}
use denote.Struct.Props.{props}
use Rattle.memchr.specs.Find.{is_byte, is_byte2, is_byte3}
use Rattle.rc_needles.specs.Failures.{IsFailureFunction}
use Rattle.rc_needles.specs.Teddies.{AreSifted}
use Rattle.rc_needles.specs.Tables.{numbered, BeginsWithByte}
use Rattle.rc_needles.specs.declared.scan.FirstBytes.{FirstBytes}
use Rattle.rc_needles.specs.declared.scan.FirstBytes.TheVariants.{One, Two, Three, Many}
use Rattle.rc_needles.specs.declared.scan.Scan.{Scan}
use Rattle.rc_needles.specs.declared.scan.Scan.TheVariants as scan

-- Each byte with which a needle begins passes the test.
abbrev pub AllBegin : List (List ℕ) → (ℕ → Bool) → Type 0
AllBegin needles test = (k b : ℕ) → k < length needles → b < 256 → BeginsWithByte (numbered needles k) b → test b ≡ true

-- Each needle begins with one of these bytes, or with one of the table's.
abbrev pub AreFirstBytesOf : List (List ℕ) → FirstBytes → Type 0
AreFirstBytesOf needles (One a) = AllBegin needles (is_byte a)
AreFirstBytesOf needles (Two a b) = AllBegin needles (is_byte2 a b)
AreFirstBytesOf needles (Three a b c) = AllBegin needles (is_byte3 a b c)
AreFirstBytesOf needles Many = ⊤

-- These are the bytes of the only needle from the offset on, at least two.
pub record IsRestOf (needles : List (List ℕ)) (offset : ℕ) (rest : List ℕ) : Type 0 where
  pub one : length needles ≡ 1
  pub long : 2 ≤ length rest
  pub is : rest ≡ drop offset (numbered needles 0)

-- The search misses none of the needles, each of which starts `offset` bytes before what it finds.
abbrev pub IsScanOf : List (List ℕ) → ℕ → Scan → Type 0
IsScanOf needles offset (scan.Needle rest) = IsRestOf needles offset rest
IsScanOf needles offset (scan.FirstBytes heads) = (offset ≡ 0) × AreFirstBytesOf needles heads
IsScanOf needles offset (scan.Teddy teddy) = (offset ≡ 0) × AreSifted teddy needles

-- There is one needle, its own bytes are searched for, and this is its failure function.
pub record IsLongSearch (needles : List (List ℕ)) (offset : ℕ) (failures : List ℕ) : Type 0 where
  pub one : length needles ≡ 1
  pub from_start : offset ≡ 0
  pub is : IsFailureFunction (numbered needles 0) failures

-- If the list isn't empty, it is the failure function of the only needle.
abbrev pub HasFailures : List ℕ → List (List ℕ) → ℕ → Type 0
HasFailures failures needles offset = 0 < length failures → IsLongSearch needles offset failures

-- It is a fact: there is at most one proof of it.
pub AreFirstBytesOf-is_fact : (needles : List (List ℕ)) (heads : FirstBytes) → IsProp (AreFirstBytesOf needles heads)
AreFirstBytesOf-is_fact needles (One a) = hlevel props
AreFirstBytesOf-is_fact needles (Two a b) = hlevel props
AreFirstBytesOf-is_fact needles (Three a b c) = hlevel props
AreFirstBytesOf-is_fact needles Many = hlevel props

pub IsScanOf-is_fact : (needles : List (List ℕ)) (offset : ℕ) (scan : Scan) → IsProp (IsScanOf needles offset scan)
IsScanOf-is_fact needles offset (scan.Needle rest) = hlevel props
IsScanOf-is_fact needles offset (scan.FirstBytes (One a)) = hlevel props
IsScanOf-is_fact needles offset (scan.FirstBytes (Two a b)) = hlevel props
IsScanOf-is_fact needles offset (scan.FirstBytes (Three a b c)) = hlevel props
IsScanOf-is_fact needles offset (scan.FirstBytes Many) = hlevel props
IsScanOf-is_fact needles offset (scan.Teddy teddy) = hlevel props
