pub mod Sets
pub mod Questions
pub mod Walk
pub mod Links
pub mod Forest
pub mod InternalQuestions
pub mod InternalSets
pub mod InternalWalk
