pub mod Generated
pub mod Serving
pub mod Replying
pub mod Tables
