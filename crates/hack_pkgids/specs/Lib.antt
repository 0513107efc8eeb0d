pub mod PackageSpecs
pub mod InternalSpecAnswers
pub mod Views
