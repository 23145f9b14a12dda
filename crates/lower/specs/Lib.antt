-- Reading order: as listed.
pub mod Told
pub mod Tables
pub mod Survey
pub mod Refusing
pub mod Substituting
pub mod Advancing
