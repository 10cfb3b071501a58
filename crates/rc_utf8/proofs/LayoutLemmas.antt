-- Where the places of a byte program stand.
use Rattle.std.proofs.Common.{◌≡◌, ℕ, zero, suc, ◌+◌, ◌<◌, List, [], ◌∷◌, length, subst, ap, refl, arith}
use Rattle.rc_program.specs.Program.{Place, place_at}
use Rattle.rc_program.proofs.PartLemmas.{Stand, Stand-left, Stand-right}
use Rattle.rc_program.proofs.WholeLemmas.{stand_all}
use Rattle.rc_utf8.specs.Bytes.{byte_place, block, byte_places, blocks, bytes_of}

pub length-byte_places : (start : ℕ) (qs : List Place) → length (byte_places start qs) ≡ length qs
length-byte_places start [] = refl
length-byte_places start (q ∷ qs) = ap suc (length-byte_places (start + length (block start q)) qs)

layout : (prog : List Place) (first start : ℕ) (qs : List Place) → Stand prog first (byte_places start qs) → Stand prog start (blocks start qs) →
    (k : ℕ) → k < length qs → (b : ℕ) × (place_at prog (first + k) ≡ byte_place b (place_at qs k)) × Stand prog b (block b (place_at qs k))
layout prog first start [] st bl k h = absurd (omega arith)
layout prog first start (q ∷ qs) st bl zero h =
    let e : first ≡ first + 0 = omega arith in
    (start, subst (λ n. place_at prog n ≡ byte_place start q) e st.0, Stand-left prog start (block start q) (blocks (start + length (block start q)) qs) bl)
layout prog first start (q ∷ qs) st bl (suc k) h =
    let behind = start + length (block start q) in
    let r = layout prog (suc first) behind qs st.1 (Stand-right prog start (block start q) (blocks behind qs) bl) k (omega arith) in
    let e : suc first + k ≡ first + suc k = omega arith in
    (r.0, subst (λ n. place_at prog n ≡ byte_place r.0 (place_at qs k)) e r.1, r.2)

-- a place of the program stands at its number, and its block somewhere
pub stands_at : (places : List Place) (k : ℕ) → k < length places →
    (b : ℕ) × (place_at (bytes_of places) k ≡ byte_place b (place_at places k)) × Stand (bytes_of places) b (block b (place_at places k))
stands_at places k h =
    let prog = bytes_of places in
    let n = length places in
    let all : Stand prog 0 prog = stand_all [] prog in
    let e : 0 + length (byte_places n places) ≡ n = let l = length-byte_places n places in omega (arith, l) in
    let r = layout prog 0 n places (Stand-left prog 0 (byte_places n places) (blocks n places) all)
    (subst (λ m. Stand prog m (blocks n places)) e (Stand-right prog 0 (byte_places n places) (blocks n places) all)) k h in
    let f : 0 + k ≡ k = omega arith in
    (r.0, subst (λ m. place_at prog m ≡ byte_place r.0 (place_at places k)) f r.1, r.2)
