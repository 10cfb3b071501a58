-- Members of a list that stand one behind another.
use Rattle.std.proofs.Common.{◌≡◌, ◌∙◌, ℕ, [], ◌∷◌, ◌++◌, Some, ap, refl, subst, sym}
use Rattle.rc_tokens.specs.Text.{Characters}
use Rattle.rc_tokens.specs.Marks.{written_atom}
use Rattle.rc_tokens.specs.declared.tokens.Member.{Member}
use Rattle.rc_tokens.specs.declared.tokens.Member.TheVariants as member
use Rattle.rc_tokens.specs.declared.tokens.Perl.{Perl}
use Rattle.rc_parser.specs.declared.config.Grammar.TheVariants.{Stated}
use Rattle.rc_explain.specs.Reading.{AreInLine, IsClass, IsItem, IsPlaced}
use Rattle.rc_explain.specs.Shown.{AreRange, HasShape, Is, IsPastAscii, IsSuch, IsUncoded}
use Rattle.rc_explain.specs.declared.faults.FaultKind.{FaultKind}
use Rattle.rc_explain.specs.declared.lists.Item.{Item}
use Rattle.rc_explain.specs.declared.lists.Placed.{Placed}
use Rattle.rc_explain.specs.declared.places.Found.{Found}
use Rattle.rc_explain.proofs.Tokens.{hyphen_written, is_joined}

hyphen_at : (t : Characters) (p : Placed) → IsPlaced t p → p.member ≡ member.Hyphen → Is (45 ∷ []) t p.start p.end
hyphen_at t p h is = subst (λ w. Is w t p.start p.end) (hyphen_written h.atom (h.says ∙ ap Some is)) h.here

-- two hyphens side by side
pub hyphens : (t : Characters) (p q : Placed) → IsPlaced t p → IsPlaced t q → p.member ≡ member.Hyphen → q.member ≡ member.Hyphen → q.start ≡ p.end →
    Is (45 ∷ 45 ∷ []) t p.start q.end
hyphens t p q hp hq ip iq next =
    is_joined (45 ∷ []) (45 ∷ []) t p.start p.end q.end (hyphen_at t p hp ip) (subst (λ k. Is (45 ∷ []) t k q.end) next (hyphen_at t q hq iq))

-- two members with a hyphen between them
pub ranged : (Related : Member → Member → Type 0) (t : Characters) (a h b : Placed) → AreInLine t a h b → Related a.member b.member →
    IsSuch (AreRange Related) t a.start b.end
ranged Related t a h b line related =
    let low = line.low in
    let high = line.high in
    let rest = is_joined (45 ∷ []) (written_atom high.atom) t h.start h.end b.end (hyphen_at t h line.between line.is_hyphen)
    (subst (λ k. Is (written_atom high.atom) t k b.end) line.next high.here) in
    record {
      cs = written_atom low.atom ++ 45 ∷ written_atom high.atom;
      such = record {
        first = low.atom;
        last = high.atom;
        low = a.member;
        high = b.member;
        low_says = low.says;
        high_says = high.says;
        related = related;
        written = refl;
      };
      here = is_joined (written_atom low.atom) (45 ∷ written_atom high.atom) t a.start a.end b.end low.here
          (subst (λ k. Is (45 ∷ written_atom high.atom) t k b.end) line.behind rest);
    }

-- a member that has no code, and is no hyphen and no class, is a character past ASCII
pub past_ascii : (t : Characters) (p : Placed) → IsPlaced t p → IsUncoded p.member → (p.member ≡ member.Hyphen → ⊥) → ((q : Perl) → p.member ≡ member.Perl q → ⊥) →
    IsSuch IsPastAscii t p.start p.end
past_ascii t p h none hyphen perl = go p.member refl none
  where
    go : (m : Member) → p.member ≡ m → IsUncoded m → IsSuch IsPastAscii t p.start p.end
    go (member.Character c) is past = record {
      cs = written_atom h.atom;
      such = record { atom = h.atom; c = c; says = h.says ∙ ap Some is; past = past; written = refl };
      here = h.here;
    }
    go (member.Byte b) is past = absurd past
    go member.Hyphen is past = absurd (hyphen is)
    go (member.Perl q) is past = absurd (perl q is)

-- the fault from one member to another
pub shaped : (kind : FaultKind) (t : Characters) (s e : ℕ) (f : Found) → f.kind ≡ kind → f.start ≡ s → f.end ≡ e → HasShape Stated kind t s e → HasShape Stated f.kind t f.start f.end
shaped kind t s e f k a b h =
    subst (λ k. HasShape Stated k t f.start f.end) (sym k) (subst (λ x. HasShape Stated kind t x f.end) (sym a) (subst (λ y. HasShape Stated kind t s y) (sym b) h))

-- a class, a hyphen and a member
pub class_line : (t : Characters) (at : ℕ) (class next : Placed) (i : Item) → IsItem t at i → i.first.member ≡ member.Hyphen → IsClass t at class →
    IsPlaced t next → next.start ≡ i.first.end → AreInLine t class i.first next
class_line t at class next i item is c n follows = record {
  low = c.placed;
  between = item.first;
  high = n;
  is_hyphen = is;
  behind = item.starts ∙ sym c.ends;
  next = follows;
}
