-- Only proofs use this file.
-- What the tokens of a text tell of it.
use Rattle.std.specs.Prelude.{◌≡◌, ◌≢◌, ◌⊎◌, ◌-◌, ◌^◌, ◌∷◌, [], All, Bool, IfSome, List, MatchOption, Option, Some, ℕ, drop, length, min, true}
use Rattle.rc_tokens.specs.Marks.{Atom, Mark, member_of, said, written, written_atom}
use Rattle.rc_tokens.specs.Said.{Said, Named}
use Rattle.rc_tokens.specs.Text.{Characters, each, is_digit_of, value_from}
use Rattle.rc_tokens.specs.declared.tokens.Member.{Member}
use Rattle.rc_tokens.specs.declared.tokens.Member.TheVariants.{Hyphen}
use Rattle.rc_full_lists.specs.Parts.{IsAtom}
use Rattle.rc_full_lists.specs.declared.parts.Atom.{Atom as FullAtom}
use Rattle.rc_full_lists.specs.declared.parts.Atom.TheVariants.{Code}
use Rattle.rc_full_lists.specs.declared.parts.Settings.{Settings}
use Rattle.rc_full_parser.specs.Marks as full
use Rattle.rc_full_parser.specs.declared.marks.MarkSettings.{MarkSettings}
use Rattle.rc_explain.specs.Full.{AreBrackets, IsSetAtom}
use Rattle.rc_explain.specs.Shown.{Is, IsPerl, Stands}
use Rattle.rc_explain.specs.declared.faults.FaultKind.TheVariants.{LineTerminator, NotUtf8}
use Rattle.rc_explain.specs.declared.full_lists.Atom as code
use Rattle.rc_explain.specs.declared.lists.Item.{Item}
use Rattle.rc_explain.specs.declared.lists.Placed.{Placed}
use Rattle.rc_explain.specs.declared.marks.OpenGroup.{OpenGroup}
use Rattle.rc_explain.specs.declared.places.Found.{Found}

-- the span is a token that says this
pub record IsToken (k : Said) (text : Characters) (start end : ℕ) : Type 0 where
  pub mark : Mark
  pub says : said mark ≡ Some k
  pub here : Is (written mark) text start end

-- a `(` stands where each group opens
abbrev pub AreOpen : Characters → List OpenGroup → Type 0
AreOpen text groups = All (λ g. Stands text g.at 40) groups

-- the span is digits that write this number, if it fits 64 bits
pub record IsNumber (text : Characters) (start end number : ℕ) : Type 0 where
  pub digits : Characters
  pub are_digits : each (is_digit_of 10) digits ≡ true
  pub here : Is digits text start end
  pub value : number ≡ min (value_from 10 0 digits) (2 ^ 64 - 1)

-- the text begins with these characters that write the member
pub record IsMember (text : Characters) (m : Member) (count : ℕ) : Type 0 where
  pub atom : Atom
  pub says : member_of atom ≡ Some m
  pub here : Is (written_atom atom) text 0 count

-- the member is written there
pub record IsPlaced (text : Characters) (p : Placed) : Type 0 where
  pub atom : Atom
  pub says : member_of atom ≡ Some p.member
  pub here : Is (written_atom atom) text p.start p.end

-- if there is one, it is written at the place
abbrev pub IsNext : Characters → ℕ → Option Placed → Type 0
IsNext text at o = IfSome o (λ p. IsPlaced text p × (p.start ≡ at))

-- an item begins at the place: a member, and the two that follow it
pub record IsItem (text : Characters) (at : ℕ) (i : Item) : Type 0 where
  pub first : IsPlaced text i.first
  pub starts : i.first.start ≡ at
  pub second : IsNext text i.first.end i.second
  pub third : IfSome i.second (λ p. IsNext text p.end i.third)

-- a member, a hyphen and a member stand one behind another
pub record AreInLine (text : Characters) (first hyphen last : Placed) : Type 0 where
  pub low : IsPlaced text first
  pub between : IsPlaced text hyphen
  pub high : IsPlaced text last
  pub is_hyphen : hyphen.member ≡ Hyphen
  pub behind : hyphen.start ≡ first.end
  pub next : last.start ≡ hyphen.end

-- if there is one, it is a Perl class that ends at the place
pub record IsClass (text : Characters) (at : ℕ) (p : Placed) : Type 0 where
  pub placed : IsPlaced text p
  pub perl : IsPerl p.member
  pub ends : p.end ≡ at

abbrev pub IsClassBefore : Characters → ℕ → Option Placed → Type 0
IsClassBefore text at o = IfSome o (IsClass text at)

-- the fault is that of a whole text, which is a set or `.`
pub record IsAtomFault (text : Characters) (f : Found) : Type 0 where
  pub starts : f.start ≡ 0
  pub ends : f.end ≡ length text
  pub kind : (f.kind ≡ NotUtf8) ⊎ ((f.kind ≡ LineTerminator) × (text ≡ 46 ∷ []))

-- ---- the full grammar

-- the mark there opens a group with this name
abbrev pub OpensNamed : List ℕ → Characters → Characters → Type 0
OpensNamed name text rest = (s : MarkSettings) × (x : Option Bool) × full.IsMark s text (full.opens (Named name) x) rest

-- the atom's code, or none if it is a class
abbrev pub IsCoded : Option ℕ → FullAtom → Type 0
IsCoded o a = MatchOption o (IsSetAtom a) (λ n. a ≡ Code n)

-- an atom of a list begins the text
pub record BeginsAtom (s : Settings) (text : Characters) (a : code.Atom) : Type 0 where
  pub value : FullAtom
  pub reads : IsAtom s text value (drop a.count text)
  pub coded : IsCoded a.code value

-- the text begins with so many characters that are the mark, and of a list all of it
pub record BeginsMark (k : full.Mark) (text : Characters) (count : ℕ) : Type 0 where
  pub listed : k ≡ full.brackets → AreBrackets text (drop count text)
  pub marked : k ≢ full.brackets → (s : MarkSettings) × full.IsMark s text k (drop count text)
