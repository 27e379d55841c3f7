pub mod ReadingLists
pub mod Inside
pub mod Charged
pub mod Paying
