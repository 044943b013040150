pub mod Agree
pub mod Stack
pub mod Settling
mod Firsts
mod Opening
pub mod Sizes
