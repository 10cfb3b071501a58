-- Only proofs use this file.
-- Thread lists: threads in order of preference.
use Rattle.std.specs.Prelude.{ℕ, List, [], ◌∷◌, take, drop, refl, Option}
use Rattle.std.specs.Coded.{Coded, code_by, coded×, coded_ℕ, coded_list, coded_option}
use Rattle.rc_pikevm.specs.declared.threads.BareThread.{BareThread}

pub record Thread : Type 0 where
  -- The place that it enters next, and at which position.
  pub place : ℕ
  pub at : ℕ
  -- Where its walk began.
  pub start : ℕ
  pub slots : List (Option ℕ)

pub record ThreadList : Type 0 where
  pub items : List Thread
  -- How many threads there is room for, and how many slots for all of them.
  pub room : ℕ
  pub cells : ℕ
  -- How many slots a thread may have.
  pub most : ℕ
  -- How many slots each thread has.
  pub width : ℕ

abbrev pub thread_code : Coded Thread
thread_code =
    code_by (ℕ × (ℕ × (ℕ × List (Option ℕ)))) (coded× coded_ℕ (coded× coded_ℕ (coded× coded_ℕ (coded_list (coded_option coded_ℕ)))))
    (λ t. (t.place, (t.at, (t.start, t.slots))))
    (λ p. record { place = p.0; at = p.1.0; start = p.1.1.0; slots = p.1.1.1 }) (λ _. refl)

abbrev pub thread_list_code : Coded ThreadList
thread_list_code =
    code_by (List Thread × (ℕ × (ℕ × (ℕ × ℕ)))) (coded× (coded_list thread_code) (coded× coded_ℕ (coded× coded_ℕ (coded× coded_ℕ coded_ℕ))))
    (λ l. (l.items, (l.room, (l.cells, (l.most, l.width)))))
    (λ p. record { items = p.0; room = p.1.0; cells = p.1.1.0; most = p.1.1.1.0; width = p.1.1.1.1 }) (λ _. refl)

-- The thread of a head and its slots.
abbrev pub thread_of : BareThread → List (Option ℕ) → Thread
thread_of head slots = record { place = head.place; at = head.at; start = head.start; slots = slots }

-- A thread for each head, with the next `width` cells as its slots.
abbrev pub threads_of : ℕ → List BareThread → List (Option ℕ) → List Thread
threads_of width [] cells = []
threads_of width (head ∷ heads) cells = thread_of head (take width cells) ∷ threads_of width heads (drop width cells)
