pub mod Map
pub mod Pool
