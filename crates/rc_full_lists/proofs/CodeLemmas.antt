-- The items that are read have codes.
use Rattle.std.proofs.Common.{◌≡◌, ℕ, Bool, true, false, ◌&&◌, ◌||◌, nat_lt, Some, subst, arith}
use Rattle.std.proofs.lemmas.Option.{none-some, same_Some}
use Rattle.std.proofs.lemmas.Bool.{and_parts}
use Rattle.rc_tokens.specs.Text.{Characters}
use Rattle.rc_tokens.specs.Classes.{code_of, is_code}
use Rattle.rc_tokens.specs.declared.tokens.Escape.TheVariants as says
use Rattle.rc_tokens.specs.declared.tokens.Member.TheVariants as member
use Rattle.rc_tokens.proofs.StepLemmas.{some_parts, guard_parts}
use Rattle.rc_full_escapes.specs.declared.escapes.FullEscape.{FullEscape}
use Rattle.rc_full_escapes.specs.declared.escapes.FullEscape.TheVariants as escapes
use Rattle.rc_full_lists.specs.declared.parts.Settings.{Settings}
use Rattle.rc_full_lists.specs.declared.parts.Atom.{Atom}
use Rattle.rc_full_lists.specs.declared.parts.Atom.TheVariants.{Code, Set}
use Rattle.rc_full_lists.specs.declared.parts.Part.{Part}
use Rattle.rc_full_lists.specs.declared.parts.Part.TheVariants as part
use Rattle.rc_full_lists.specs.declared.items.Item.TheVariants as item
use Rattle.rc_full_lists.specs.Items.{HasCodes}
use Rattle.rc_full_lists.specs.Laws.{ItemsHaveCodes, PartHasCodes}
use Rattle.rc_full_lists.specs.Parts.{atom_of, posix, IsAtom, plain, escaped, IsPart, closes, operates, names, opens, range, single, set}

abbrev AtomHas : Bool → Atom → Type 0
AtomHas unicode (Code n) = is_code unicode n ≡ true
AtomHas unicode (Set i) = HasCodes unicode i

character_code : (u : Bool) (c n : ℕ) → code_of u (member.Character c) ≡ Some n → is_code u n ≡ true
character_code u c n h =
    let (both, same) = guard_parts ((u || nat_lt c 128) && is_code u c) (Some c) n h in
    subst (λ x. is_code u x ≡ true) (same_Some c n same) (and_parts (u || nat_lt c 128) (is_code u c) both).1

byte_code : (u : Bool) (b n : ℕ) → code_of u (member.Byte b) ≡ Some n → is_code u n ≡ true
byte_code u b n h =
    let (is, same) = guard_parts (is_code u b) (Some b) n h in subst (λ x. is_code u x ≡ true) (same_Some b n same) is

escape_codes : (u : Bool) (e : FullEscape) (a : Atom) → atom_of u e ≡ Some a → AtomHas u a
escape_codes u (escapes.Stated (says.Perl p)) a h = subst (λ a. AtomHas u a) (same_Some (Set (item.Perl p)) a h) tt
escape_codes u (escapes.Stated (says.Character c)) a h =
    let (n, is, made) = some_parts (code_of u (member.Character c)) (λ n. Some (Code n)) a h in
    subst (λ a. AtomHas u a) (same_Some (Code n) a made) (character_code u c n is)
escape_codes u (escapes.Stated (says.Byte b)) a h =
    let (n, is, made) = some_parts (code_of u (member.Byte b)) (λ n. Some (Code n)) a h in
    subst (λ a. AtomHas u a) (same_Some (Code n) a made) (byte_code u b n is)
escape_codes u (escapes.Stated (says.Assertion x)) a h = absurd (none-some a h)
escape_codes u (escapes.Property p) a h =
    let (on, made) = guard_parts u (Some (Set (item.Property p))) a h in
    subst (λ a. AtomHas u a) (same_Some (Set (item.Property p)) a made) on

atom_codes : (s : Settings) (t : Characters) (a : Atom) (u : Characters) → IsAtom s t a u → AtomHas s.unicode a
atom_codes s _ _ _ (plain c n t other code) = character_code s.unicode c n code
atom_codes s _ _ _ (escaped t u e a is says) = escape_codes s.unicode e a says

pub part_codes : (s : Settings) (t : Characters) (p : Part) (u : Characters) → IsPart s t p u → PartHasCodes s.unicode p
part_codes s _ _ _ (closes t) = tt
part_codes s _ _ _ (operates t o is) = tt
part_codes s _ _ _ (names _ _ _ (posix true name u class word known)) = tt
part_codes s _ _ _ (names _ _ _ (posix false name u class word known)) = tt
part_codes s _ _ _ (opens t never) = tt
part_codes s _ _ _ (range t a b u low high begins atom on end least) =
    (atom_codes s t (Code low) a atom, atom_codes s b (Code high) u end, least, tt)
part_codes s _ _ _ (single t u c begins atom stands) =
    let is = atom_codes s t (Code c) u atom in (is, is, omega arith, tt)
part_codes s _ _ _ (set t u i begins atom stands) = atom_codes s t (Set i) u atom

pub codes_law : ItemsHaveCodes
codes_law s t i u is = part_codes s t (part.Has i) u is
