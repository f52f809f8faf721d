pub mod Alone
pub mod Probed
pub mod Fronts
pub mod Whys
pub mod Advised
