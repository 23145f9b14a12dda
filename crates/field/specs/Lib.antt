-- For the inner functions of the base field.
pub mod Words
