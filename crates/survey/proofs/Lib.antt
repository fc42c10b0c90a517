pub mod Ranks
pub mod OneSurvey
pub mod OnlyOne
pub mod RoundTrips
