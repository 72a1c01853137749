pub mod Text
pub mod Hex
pub mod Decimal
pub mod Newline
pub mod Place
