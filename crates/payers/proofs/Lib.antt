pub mod Charged
pub mod ReadingLists
pub mod ZoneWeights
pub mod CompanyNumbers
