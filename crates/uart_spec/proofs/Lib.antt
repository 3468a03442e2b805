pub mod CheckedLemmas
pub mod DivisorLemmas
pub mod FieldLemmas
pub mod NameLemmas
pub mod NearestLemmas
mod TimingLemmas
