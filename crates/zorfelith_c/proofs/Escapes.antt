-- A text as a pattern, a byte at a time.
use Rattle.std.proofs.Common.{◌≡◌, ◌∙◌, ◌+◌, ◌<◌, ◌≤◌, ℕ, suc, List, [], ◌∷◌, ◌++◌, ap, append-nil, arith, drop, get_or, length, length-append, sym, take}
use Rattle.std.proofs.Math.Seq.{take-suc}
use Rattle.std.proofs.lemmas.Grind.{flat_map-append}
use Rattle.std.proofs.lemmas.List.{take-append-drop}
use Rattle.zorfelith_c.specs.Escaping.{escaped, escaped_byte}

-- one byte more
pub escaped_more : (text : List ℕ) (i : ℕ) → i < length text → escaped (take (i + 1) text) ≡ escaped (take i text) ++ escaped_byte (get_or text i 0)
escaped_more text i inside =
    let one_more : i + 1 ≡ suc i = omega arith in
    let x = get_or text i 0 in
    ap (λ n. escaped (take n text)) one_more ∙ ap escaped (take-suc text i 0 inside)
    ∙ flat_map-append escaped_byte (take i text) (x ∷ []) ∙ ap (λ l. escaped (take i text) ++ l) (append-nil (escaped_byte x))

-- it takes no more than the whole
pub escaped_within : (text : List ℕ) (i : ℕ) → i < length text →
    length (escaped (take i text)) + length (escaped_byte (get_or text i 0)) ≤ length (escaped text)
escaped_within text i inside =
    let before = escaped (take (i + 1) text) in
    let after = escaped (drop (i + 1) text) in
    let whole : length (escaped text) ≡ length before + length after =
    ap (λ l. length (escaped l)) (sym (take-append-drop (i + 1) text)) ∙ ap length (flat_map-append escaped_byte (take (i + 1) text) (drop (i + 1) text))
    ∙ length-append before after in
    let part : length before ≡ length (escaped (take i text)) + length (escaped_byte (get_or text i 0)) =
    ap length (escaped_more text i inside) ∙ length-append (escaped (take i text)) (escaped_byte (get_or text i 0)) in
    omega (arith, whole, part)
