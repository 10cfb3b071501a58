use Rattle.rc_determinize.proofs.forward.next_by.Goals as goal

pub next_preferred-requires-clause-below : goal.next_preferred-requires-clause-below
next_preferred-requires-clause-below c = rw c.in-LeftmostFirst.is at c.requires.below

pub next_longest-requires-clause-below : goal.next_longest-requires-clause-below
next_longest-requires-clause-below c = rw c.in-LeftmostLongest.is at c.requires.below

pub next_of_all-requires-clause-below : goal.next_of_all-requires-clause-below
next_of_all-requires-clause-below c = rw c.in-All.is at c.requires.below

pub returns-in-LeftmostFirst-clause-next : goal.returns-in-LeftmostFirst-clause-next
returns-in-LeftmostFirst-clause-next c = rw c.in-LeftmostFirst.is c.next_preferred.ensures.next

pub returns-in-LeftmostLongest-clause-next : goal.returns-in-LeftmostLongest-clause-next
returns-in-LeftmostLongest-clause-next c = rw c.in-LeftmostLongest.is c.next_longest.ensures.next

pub returns-in-All-clause-next : goal.returns-in-All-clause-next
returns-in-All-clause-next c = rw c.in-All.is c.next_of_all.ensures.next
