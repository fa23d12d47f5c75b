-- What the contracts of `address_expression` cite.
pub mod Values
