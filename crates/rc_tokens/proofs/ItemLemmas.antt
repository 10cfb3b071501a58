-- The ranges of a list are those of its items.
use Rattle.std.proofs.Common.{◌≡◌, ℕ, ◌<◌, ◌≤◌, Bool, true, false, nat_le, List, [], ◌∷◌, ◌++◌, Option, Some, None, length, refl, ap, sym, ◌∙◌, append_assoc, append-nil, arith}
use Rattle.std.proofs.lemmas.Option.{none-some, same_Some}
use Rattle.rc_pattern.specs.Re.{Range}
use Rattle.rc_tokens.specs.Text.{◌>>=◌, ◌>>◌}
use Rattle.rc_tokens.specs.Classes.{perl_ranges, code_of, items}
use Rattle.rc_tokens.specs.Items.{Taken, taken, is_hyphen, range_end, ends_range, ranged_to, may_be_itself, ranged, item, more}
use Rattle.rc_tokens.specs.declared.tokens.Member.{Member}
use Rattle.rc_tokens.specs.declared.tokens.Member.TheVariants.{Character, Byte, Hyphen}
use Rattle.rc_tokens.specs.declared.tokens.Member.TheVariants as member
use Rattle.rc_tokens.proofs.StepLemmas.{some_parts, guard_parts}

abbrev pub then_more : Bool → Taken → Option (List Range)
then_more unicode r = more unicode r.1.0 r.1.1 r.0

-- ranges before others
front : (o : Option (List Range)) (done new : List Range) → ((o >>= λ rs. Some (new ++ rs)) >>= λ rs. Some (done ++ rs)) ≡ (o >>= λ rs. Some ((done ++ new) ++ rs))
front None done new = refl
front (Some rs) done new = ap Some (sym (append_assoc done new rs))

-- a character alone
alone : (u : Bool) (c : ℕ) (ms : List Member) (done : List Range) →
    ((items u false ms >>= λ rs. Some ((c, c) ∷ rs)) >>= λ rs. Some (done ++ rs)) ≡ then_more u (done ++ (c, c) ∷ [], (false, ms))
alone u c ms done = front (items u false ms) done ((c, c) ∷ [])

to : (u : Bool) (c : ℕ) (b : Member) (ms : List Member) (done : List Range) →
    ((code_of u b >>= λ high. nat_le c high >> (items u true ms >>= λ rs. Some ((c, high) ∷ rs))) >>= λ rs. Some (done ++ rs))
    ≡ (ends_range u c done (b, ms) >>= then_more u)
to u c b ms done = go (code_of u b)
  where
    last : (high : ℕ) (t : Bool) → ((t >> (items u true ms >>= λ rs. Some ((c, high) ∷ rs))) >>= λ rs. Some (done ++ rs))
        ≡ ((t >> taken (done ++ (c, high) ∷ []) true ms) >>= then_more u)
    last high true = front (items u true ms) done ((c, high) ∷ [])
    last high false = refl

    go : (o : Option ℕ) → ((o >>= λ high. nat_le c high >> (items u true ms >>= λ rs. Some ((c, high) ∷ rs))) >>= λ rs. Some (done ++ rs))
        ≡ ((o >>= λ high. nat_le c high >> taken (done ++ (c, high) ∷ []) true ms) >>= then_more u)
    go None = refl
    go (Some high) = last high (nat_le c high)

-- after the code of a character, which may begin a range
abbrev coded : Bool → ℕ → List Member → Option (List Range)
coded u c (Hyphen ∷ b ∷ ms) = code_of u b >>= λ high. nat_le c high >> (items u true ms >>= λ rs. Some ((c, high) ∷ rs))
coded u c ms = items u false ms >>= λ rs. Some ((c, c) ∷ rs)

coded_step : (u : Bool) (b : ℕ) (ms : List Member) (done : List Range) → (coded u b ms >>= λ rs. Some (done ++ rs)) ≡ (ranged u b ms done >>= then_more u)
coded_step u b [] done = alone u b [] done
coded_step u b (Hyphen ∷ []) done = alone u b (Hyphen ∷ []) done
coded_step u b (Hyphen ∷ x ∷ ms) done = to u b x ms done
coded_step u b (Character c ∷ []) done = alone u b (Character c ∷ []) done
coded_step u b (Character c ∷ x ∷ ms) done = alone u b (Character c ∷ x ∷ ms) done
coded_step u b (Byte c ∷ []) done = alone u b (Byte c ∷ []) done
coded_step u b (Byte c ∷ x ∷ ms) done = alone u b (Byte c ∷ x ∷ ms) done
coded_step u b (member.Perl p ∷ []) done = alone u b (member.Perl p ∷ []) done
coded_step u b (member.Perl p ∷ x ∷ ms) done = alone u b (member.Perl p ∷ x ∷ ms) done

character_coded : (u after : Bool) (c : ℕ) (ms : List Member) → items u after (Character c ∷ ms) ≡ (code_of u (Character c) >>= λ b. coded u b ms)
character_coded u after c [] = refl
character_coded u after c (Hyphen ∷ []) = refl
character_coded u after c (Hyphen ∷ x ∷ ms) = refl
character_coded u after c (Character d ∷ ms) = refl
character_coded u after c (Byte d ∷ ms) = refl
character_coded u after c (member.Perl p ∷ ms) = refl

byte_coded : (u after : Bool) (c : ℕ) (ms : List Member) → items u after (Byte c ∷ ms) ≡ (code_of u (Byte c) >>= λ b. coded u b ms)
byte_coded u after c [] = refl
byte_coded u after c (Hyphen ∷ []) = refl
byte_coded u after c (Hyphen ∷ x ∷ ms) = refl
byte_coded u after c (Character d ∷ ms) = refl
byte_coded u after c (Byte d ∷ ms) = refl
byte_coded u after c (member.Perl p ∷ ms) = refl

code_step : (u : Bool) (o : Option ℕ) (ms : List Member) (done : List Range) →
    ((o >>= λ b. coded u b ms) >>= λ rs. Some (done ++ rs)) ≡ ((o >>= λ c. ranged u c ms done) >>= then_more u)
code_step u None ms done = refl
code_step u (Some b) ms done = coded_step u b ms done

hyphen_step : (u after : Bool) (ms : List Member) (done : List Range) → more u after (Hyphen ∷ ms) done ≡ (item u after Hyphen ms done >>= then_more u)
hyphen_step u true [] done = ap Some (ap (λ x. done ++ x) refl) ∙ ap Some (sym (append-nil (done ++ (45, 45) ∷ [])))
hyphen_step u false [] done = ap Some (sym (append-nil (done ++ (45, 45) ∷ [])))
hyphen_step u true (Hyphen ∷ ms) done = refl
hyphen_step u false (Hyphen ∷ ms) done = refl
hyphen_step u true (Character c ∷ ms) done = front (items u false (Character c ∷ ms)) done ((45, 45) ∷ [])
hyphen_step u false (Character c ∷ ms) done = refl
hyphen_step u true (Byte b ∷ ms) done = front (items u false (Byte b ∷ ms)) done ((45, 45) ∷ [])
hyphen_step u false (Byte b ∷ ms) done = refl
hyphen_step u true (member.Perl p ∷ ms) done = front (items u false (member.Perl p ∷ ms)) done ((45, 45) ∷ [])
hyphen_step u false (member.Perl p ∷ ms) done = refl

pub step : (u after : Bool) (m : Member) (ms : List Member) (done : List Range) → more u after (m ∷ ms) done ≡ (item u after m ms done >>= then_more u)
step u after (Character c) ms done = ap (λ o. o >>= λ rs. Some (done ++ rs)) (character_coded u after c ms) ∙ code_step u (code_of u (Character c)) ms done
step u after (Byte b) ms done = ap (λ o. o >>= λ rs. Some (done ++ rs)) (byte_coded u after b ms) ∙ code_step u (code_of u (Byte b)) ms done
step u after Hyphen ms done = hyphen_step u after ms done
step u after (member.Perl p) ms done = front (items u false ms) done (perl_ranges u p)

range_end_shorter : (ms : List Member) (b : Member) (left : List Member) → range_end ms ≡ Some (b, left) → length left ≤ length ms
range_end_shorter [] b left h = absurd (none-some (b, left) h)
range_end_shorter (x ∷ []) b left h = absurd (none-some (b, left) h)
range_end_shorter (x ∷ y ∷ ms) b left h =
    let (_, same) = guard_parts (is_hyphen x) (Some (y, ms)) (b, left) h in
    let e = ap (λ (r : Member × List Member). length r.1) (same_Some (y, ms) (b, left) same) in omega (arith, e)

left_of : (done d : List Range) (a after : Bool) (ms left : List Member) → ◌≡◌ {A = Option Taken} (Some (done, (a, ms))) (Some (d, (after, left))) → length left ≤ length ms
left_of done d a after ms left h = let e = ap (λ (r : Taken). length r.1.1) (same_Some (done, (a, ms)) (d, (after, left)) h) in omega (arith, e)

ranged_shorter : (u : Bool) (c : ℕ) (ms : List Member) (done d : List Range) (a : Bool) (left : List Member) → ranged u c ms done ≡ Some (d, (a, left)) → length left ≤ length ms
ranged_shorter u c ms done d a left h = go (range_end ms) refl h
  where
    go : (o : Option (Member × List Member)) → range_end ms ≡ o → ranged_to u c ms done o ≡ Some (d, (a, left)) → length left ≤ length ms
    go None e g = left_of (done ++ (c, c) ∷ []) d false a ms left g
    go (Some r) e g =
        let (high, _, more) = some_parts (code_of u r.0) _ (d, (a, left)) g in
        let (_, same) = guard_parts (nat_le c high) _ (d, (a, left)) more in
        let x = left_of (done ++ (c, high) ∷ []) d true a r.1 left same in
        let y = range_end_shorter ms r.0 r.1 e in omega (arith, x, y)

pub item_left : (u after : Bool) (m : Member) (ms : List Member) (done d : List Range) (a : Bool) (left : List Member) →
    item u after m ms done ≡ Some (d, (a, left)) → length left ≤ length ms
item_left u after Hyphen ms done d a left h =
    let (_, same) = guard_parts (may_be_itself after ms) _ (d, (a, left)) h in left_of (done ++ (45, 45) ∷ []) d false a ms left same
item_left u after (member.Perl p) ms done d a left h = left_of (done ++ perl_ranges u p) d false a ms left h
item_left u after (Character c) ms done d a left h =
    let (code, _, more) = some_parts (code_of u (Character c)) _ (d, (a, left)) h in ranged_shorter u code ms done d a left more
item_left u after (Byte b) ms done d a left h =
    let (code, _, more) = some_parts (code_of u (Byte b)) _ (d, (a, left)) h in ranged_shorter u code ms done d a left more

-- ---- steps over what is left

pub more_end : (u after : Bool) (rest : List Member) (done : List Range) → rest ≡ [] → more u after rest done ≡ Some done
more_end u after rest done h = ap (λ x. more u after x done) h ∙ ap Some (append-nil done)

pub more_step : (u after : Bool) (rest : List Member) (m : Member) (tail : List Member) (done d : List Range) (a : Bool) (left : List Member) → rest ≡ m ∷ tail →
    item u after m tail done ≡ Some (d, (a, left)) → more u after rest done ≡ more u a left d
more_step u after rest m tail done d a left e is = ap (λ x. more u after x done) e ∙ step u after m tail done ∙ ap (λ o. o >>= then_more u) is

pub more_none : (u after : Bool) (rest : List Member) (m : Member) (tail : List Member) (done : List Range) → rest ≡ m ∷ tail →
    item u after m tail done ≡ None → more u after rest done ≡ None
more_none u after rest m tail done e is = ap (λ x. more u after x done) e ∙ step u after m tail done ∙ ap (λ o. o >>= then_more u) is

pub item_shorter : (u after : Bool) (rest : List Member) (m : Member) (tail : List Member) (done d : List Range) (a : Bool) (left : List Member) → rest ≡ m ∷ tail →
    item u after m tail done ≡ Some (d, (a, left)) → length left < length rest
item_shorter u after rest m tail done d a left e is =
    let l = item_left u after m tail done d a left is in let n = ap length e in omega (arith, l, n)
