-- Field defines the field, and Laws states its laws. Assumes nothing.
pub mod Field
pub mod Laws
