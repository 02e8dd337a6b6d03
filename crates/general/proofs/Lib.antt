pub mod Lists
pub mod Tests
pub mod ChangedLaws
pub mod Results
