-- What holds of names and marks, and of places in the stores.
pub mod NameLaws
pub mod StorePlaceLaws
