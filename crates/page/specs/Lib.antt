pub mod Figures
pub mod Word
pub mod Page
pub mod Octets
pub mod StorePlaces
