mod LocalLemmas
mod LineLemmas
mod TextLemmas
mod NeededLemmas
mod KeptLemmas
mod LongLemmas
