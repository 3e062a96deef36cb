pub mod Gates
pub mod Laying
pub mod Raising
pub mod SuperView
