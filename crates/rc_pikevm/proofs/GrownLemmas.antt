-- How the list of threads grows.
use Rattle.std.proofs.Common.{◌≡◌, ℕ, ◌+◌, ◌<◌, ◌≤◌, List, [], ◌∷◌, ◌++◌, length, map, min, inl, inr, ⊎_elim, sym, subst, ap, ◌∙◌, refl, arith, Bool, true, false, Option, if◌then◌else◌, nat_le}
use Rattle.std.proofs.lemmas.Bool.{cases_lt, le-leb, lt-leb, lt-ltb, le-ltb}
use Rattle.std.proofs.lemmas.List.{length_push, append-nil}
use Rattle.rc_walks.specs.Walks.{Pair, IsIn}
use Rattle.rc_program.specs.Program.{ways_out, pair_at, place_at}
use Rattle.rc_program.specs.Text.{holds, ahead}
use Rattle.rc_pikevm.specs.Sights.{Sight}
use Rattle.rc_program.specs.Laws.{IsClosed}
use Rattle.rc_program.proofs.PlaceLemmas.{ways_closed}
use Rattle.rc_pikevm.specs.Sparse.{Has, Members}
use Rattle.rc_pikevm.specs.Waiting.{given, reaches}
use Rattle.rc_pikevm.specs.Threads.{Thread, ThreadList}
use Rattle.rc_pikevm.specs.Entered.{Goes}
use Rattle.rc_pikevm.specs.Moves.{IsMove}
use Rattle.rc_pikevm.specs.Passing.{resting_of, frames_of, AllInside, IsMoveInside, AllIn, AllFrom, count_from, HasRoom, IsGrown}
use Rattle.rc_pikevm.specs.declared.moves.Move.{Move}
use Rattle.rc_pikevm.specs.declared.moves.Move.TheVariants.{Fork, Save, Matches, Stays, Reads, DeadEnd}
use Rattle.rc_pikevm.specs.declared.growth.Frame.{Frame}
use Rattle.rc_pikevm.proofs.WaitingLemmas.{still_entered}

-- the places that a move names are places of the program
pub move_inside : (s : Sight) (p at : ℕ) (move : Move) → IsClosed s.places → IsMove s (p, at) move → IsMoveInside (length s.places) move
move_inside s p at (Fork a b) closed m = (
  ways_closed s.places closed s.text s.hi (p, at) (a, at) (subst (λ ms. IsIn (a, at) ms) (sym m.0) (inl refl)),
  ways_closed s.places closed s.text s.hi (p, at) (b, at) (subst (λ ms. IsIn (b, at) ms) (sym m.0) (inr (inl refl))),
)
move_inside s p at (Save k n) closed m =
    ways_closed s.places closed s.text s.hi (p, at) (n, at)
    (subst (λ q. IsIn (n, at) (map (pair_at at) (ways_out (λ l. holds s.text l at) (ahead s.text s.hi at) q))) (sym m.1) (inl refl))
move_inside s p at (Matches n) closed m = tt
move_inside s p at (Stays n) closed m =
    ways_closed s.places closed s.text s.hi (p, at) (n, at) (subst (λ ms. IsIn (n, at) ms) (sym m.0) (inl refl))
move_inside s p at (Reads n to) closed m =
    ways_closed s.places closed s.text s.hi (p, at) (n, to) (subst (λ ms. IsIn (n, to) ms) (sym m.0) (inl refl))
move_inside s p at DeadEnd closed m = tt

-- the move makes a difference
abbrev pub Acts : Move → Type 0
Acts DeadEnd = ⊥
Acts move = Unit {0}

-- such a move is the place's
pub acts_on : (s : Sight) (n : Pair) (move : Move) → Acts move → Goes s n move → IsMove s n move
acts_on s n move acts g = ⊎_elim (λ m. m) (λ d. absurd (subst Acts d.0 acts)) g

pub gone_inside : (s : Sight) (p at : ℕ) (move : Move) → IsClosed s.places → Goes s (p, at) move → IsMoveInside (length s.places) move
gone_inside s p at move closed g =
    ⊎_elim (λ m. move_inside s p at move closed m) (λ d. subst (IsMoveInside (length s.places)) (sym d.0) tt) g

-- what a move puts on the stack belongs to the program
pub frames_inside : (n width : ℕ) (slots : List (Option ℕ)) (move : Move) (frames : List Frame) → length slots ≡ width → IsMoveInside n move →
    AllInside n width frames → AllInside n width (frames_of slots move ++ frames)
frames_inside n width slots (Fork a b) frames e m all = (m.0, (m.1, all))
frames_inside n width slots (Save k p) frames e m all =
    ⊎_elim (λ l. rw (lt-ltb k (length slots) l) (m, (omega (arith, e, l), all))) (λ ge. rw (le-ltb k (length slots) ge) (m, all)) (cases_lt k (length slots))
frames_inside n width slots (Matches p) frames e m all = all
frames_inside n width slots (Stays p) frames e m all = (m, all)
frames_inside n width slots (Reads p to) frames e m all = all
frames_inside n width slots DeadEnd frames e m all = all

pub one_at_most : (b : Bool) → (if b then 1 else 0) ≤ 1
one_at_most true = omega arith
one_at_most false = omega arith

pub count_push : (q : ℕ) (ts : List Thread) (t : Thread) → count_from q (ts ++ t ∷ []) ≡ count_from q ts + (if nat_le q t.at then 1 else 0)
count_push q [] t = omega arith
count_push q (u ∷ ts) t = let e = count_push q ts t in omega (arith, e)

-- fewer wait for a later position
pub count_later : (q r : ℕ) (ts : List Thread) → q ≤ r → count_from r ts ≤ count_from q ts
count_later q r [] h = omega arith
count_later q r (t ∷ ts) h =
    let e = count_later q r ts h in
    ⊎_elim (λ past. rw (lt-leb r t.at past) (omega (arith, e)))
    (λ ge. rw (le-leb r t.at ge, le-leb q t.at (omega (arith, ge, h))) (omega (arith, e))) (cases_lt t.at r)

pub count_all : (n lo hi q : ℕ) (ts : List Thread) → AllIn n lo hi ts → q ≤ lo → count_from q ts ≡ length ts
count_all n lo hi q [] all h = refl
count_all n lo hi q (t ∷ ts) all h =
    let e = count_all n lo hi q ts all.1 h in rw (le-leb q t.at (omega (arith, all.0.1))) (omega (arith, e))

pub count_none : (n lo hi q : ℕ) (ts : List Thread) → AllIn n lo hi ts → hi < q → count_from q ts ≡ 0
count_none n lo hi q [] all h = refl
count_none n lo hi q (t ∷ ts) all h =
    let e = count_none n lo hi q ts all.1 h in rw (lt-leb q t.at (omega (arith, all.0.2))) (omega (arith, e))

pub in_push : (n lo hi : ℕ) (ts : List Thread) (t : Thread) → AllIn n lo hi ts → (t.place < n) × (lo ≤ t.at) × (t.at ≤ hi) → AllIn n lo hi (ts ++ t ∷ [])
in_push n lo hi [] t all h = (h, tt)
in_push n lo hi (u ∷ ts) t all h = (all.0, in_push n lo hi ts t all.1 h)

pub from_push : (x : ℕ) (ts : List Thread) (t : Thread) → AllFrom x ts → x ≤ t.start → AllFrom x (ts ++ t ∷ [])
from_push x [] t all h = (h, tt)
from_push x (u ∷ ts) t all h = (all.0, from_push x ts t all.1 h)

-- nothing happens
pub grown_same : {s : Sight} {n hi start at : ℕ} {threads : ThreadList} {entered : Members} → HasRoom s n hi at threads entered →
    IsGrown s n hi start at threads entered threads entered
grown_same sound = record {
  sound = sound;
  same_room = refl;
  same_most = refl;
  same_width = refl;
  more = omega arith;
  counts = λ q. omega arith;
  begun = λ x h all. all;
}

pub grown_then : {s : Sight} {n hi start at : ℕ} {threads0 threads1 threads2 : ThreadList} {entered0 entered1 entered2 : Members} →
    IsGrown s n hi start at threads0 entered0 threads1 entered1 → IsGrown s n hi start at threads1 entered1 threads2 entered2 →
    IsGrown s n hi start at threads0 entered0 threads2 entered2
grown_then a b = record {
  sound = b.sound;
  same_room = b.same_room ∙ a.same_room;
  same_most = b.same_most ∙ a.same_most;
  same_width = b.same_width ∙ a.same_width;
  more = omega (arith, a.more, b.more);
  counts = λ q. let x = a.counts q in let y = b.counts q in omega (arith, x, y);
  begun = λ x h all. b.begun x h (a.begun x h all);
}

-- a place is entered, and its move may put a thread behind the others
pub grown_by : (n hi start at p : ℕ) (slots : List (Option ℕ)) (move : Move) (threads : ThreadList) (entered : Members) (s : Sight) → s.hi ≡ hi →
    HasRoom s n hi at threads entered → ¬ Has entered.items p → length entered.items + 1 ≤ n → Goes s (p, at) move → IsMoveInside n move →
    IsGrown s n hi start at threads entered (record threads { items = threads.items ++ resting_of start slots move })
    (record entered { items = entered.items ++ p ∷ [] })
grown_by n hi start at p slots move threads entered s bound sound fresh few m inside = record {
  sound = record {
    capacity = sound.capacity;
    few = rw length_push few;
    room = let e = still_entered s at (at + 1) entered.items p fresh in let g = pushed move m in omega (arith, sound.room, e, g);
    inside = within move m inside;
  };
  same_room = refl;
  same_most = refl;
  same_width = refl;
  more = rw length_push (omega arith);
  counts = λ q. let e = still_entered s at q entered.items p fresh in let c = counted move q m in omega (arith, e, c);
  begun = λ x h all. begun move x h all;
}
  where
    -- a move that reads gives one thread
    gives : (k to q : ℕ) → Goes s (p, at) (Reads k to) → given s at q (place_at s.places p) ≡ (if nat_le q to then 1 else 0)
    gives k to q g = ap (reaches q) (acts_on s (p, at) (Reads k to) tt g).0

    pushed : (move : Move) → Goes s (p, at) move → length (threads.items ++ resting_of start slots move) ≤ length threads.items + given s at (at + 1) (place_at s.places p)
    pushed (Fork a b) g = rw append-nil (omega arith)
    pushed (Save k m) g = rw append-nil (omega arith)
    pushed (Matches q) g = rw append-nil (omega arith)
    pushed (Stays m) g = rw append-nil (omega arith)
    pushed DeadEnd g = rw append-nil (omega arith)
    pushed (Reads m to) g =
        let later : at + 1 ≤ to = omega (arith, (acts_on s (p, at) (Reads m to) tt g).2) in
        rw (length_push, gives m to (at + 1) g, le-leb (at + 1) to later) (omega arith)

    counted : (move : Move) (q : ℕ) → Goes s (p, at) move → count_from q (threads.items ++ resting_of start slots move) ≤ count_from q threads.items + given s at q (place_at s.places p)
    counted (Fork a b) q g = rw append-nil (omega arith)
    counted (Save k m) q g = rw append-nil (omega arith)
    counted (Matches r) q g = rw append-nil (omega arith)
    counted (Stays m) q g = rw append-nil (omega arith)
    counted DeadEnd q g = rw append-nil (omega arith)
    counted (Reads m to) q g =
        let c = count_push q threads.items (record { place = m; at = to; start = start; slots = slots }) in
        rw (gives m to q g) (omega (arith, c))

    begun : (move : Move) (x : ℕ) → x ≤ start → AllFrom x threads.items → AllFrom x (threads.items ++ resting_of start slots move)
    begun (Fork a b) x h all = rw append-nil all
    begun (Save k m) x h all = rw append-nil all
    begun (Matches q) x h all = rw append-nil all
    begun (Stays m) x h all = rw append-nil all
    begun DeadEnd x h all = rw append-nil all
    begun (Reads m to) x h all = from_push x threads.items (record { place = m; at = to; start = start; slots = slots }) all h

    within : (move : Move) → Goes s (p, at) move → IsMoveInside n move → AllIn n (at + 1) (min hi (at + 4)) (threads.items ++ resting_of start slots move)
    within (Fork a b) m i = rw append-nil sound.inside
    within (Save k q) m i = rw append-nil sound.inside
    within (Matches q) m i = rw append-nil sound.inside
    within (Stays q) m i = rw append-nil sound.inside
    within DeadEnd m i = rw append-nil sound.inside
    within (Reads q to) g i =
        let m = acts_on s (p, at) (Reads q to) tt g in
        in_push n (at + 1) (min hi (at + 4)) threads.items (record { place = q; at = to; start = start; slots = slots }) sound.inside
        (i, omega (arith, m.2), omega (arith, m.3, m.4, bound))
