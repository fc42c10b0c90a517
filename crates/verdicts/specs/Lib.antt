-- What the contracts of `verdicts` cite.
pub mod Verdicts
